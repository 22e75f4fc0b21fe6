-- Each clause is a lemma.
use Rattle.fw_model_account.proofs.Moves.{moves_keep}
use Rattle.fw_model_account.proofs.Events.{reset_keeps, second_ends, withholding_keeps}
use Rattle.fw_model_account.proofs.Deaths.{death_keeps}
use Rattle.fw_model_account.proofs.Shared.{is_conflict_free}
use Rattle.fw_model_account.proofs.Fold.{next_keeps, prefix_sound}
use Rattle.fw_model_account.proofs.account_stays_sound.Goals as goal

pub returns-clause-moves : goal.returns-clause-moves
returns-clause-moves c = moves_keep

pub returns-clause-reset : goal.returns-clause-reset
returns-clause-reset c = reset_keeps

pub returns-clause-second : goal.returns-clause-second
returns-clause-second c = second_ends

pub returns-clause-death : goal.returns-clause-death
returns-clause-death c = death_keeps

pub returns-clause-withholding : goal.returns-clause-withholding
returns-clause-withholding c = withholding_keeps

pub returns-clause-entries : goal.returns-clause-entries
returns-clause-entries c = next_keeps

pub returns-clause-prefixes : goal.returns-clause-prefixes
returns-clause-prefixes c = prefix_sound

pub returns-clause-shared : goal.returns-clause-shared
returns-clause-shared c = is_conflict_free
