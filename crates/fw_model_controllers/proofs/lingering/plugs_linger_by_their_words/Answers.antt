-- Each clause is a lemma.
use Rattle.fw_model_controllers.proofs.Lingers.{move_lingers, answer_lingers, answer_elsewhere, talks_shown}
use Rattle.fw_model_controllers.proofs.LingersAlong.{entry_lingers}
use Rattle.fw_model_controllers.proofs.lingering.plugs_linger_by_their_words.Goals as goal

pub returns-clause-moves : goal.returns-clause-moves
returns-clause-moves c = move_lingers

pub returns-clause-answer : goal.returns-clause-answer
returns-clause-answer c = answer_lingers

pub returns-clause-elsewhere : goal.returns-clause-elsewhere
returns-clause-elsewhere c = answer_elsewhere

pub returns-clause-entries : goal.returns-clause-entries
returns-clause-entries c = entry_lingers

pub returns-clause-talks : goal.returns-clause-talks
returns-clause-talks c = talks_shown
