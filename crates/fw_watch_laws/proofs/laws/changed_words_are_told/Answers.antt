use Rattle.fw_watch_laws.proofs.Keeps.{kept}
use Rattle.fw_watch_laws.proofs.Unseen.{told}
use Rattle.fw_watch_laws.proofs.laws.changed_words_are_told.Goals as goal

pub returns-clause-kept : goal.returns-clause-kept
returns-clause-kept c = kept

pub returns-clause-told : goal.returns-clause-told
returns-clause-told c = told
