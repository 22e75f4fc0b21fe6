-- Each clause is a lemma.
use Rattle.fw_model_rounds.proofs.Resets.{first_has_none, first_was_reset}
use Rattle.fw_model_rounds.proofs.Members.{round_of_members}
use Rattle.fw_model_rounds.proofs.new_controllers_have_nothing_to_restore.Goals as goal

pub returns-clause-none : goal.returns-clause-none
returns-clause-none c = first_has_none

pub returns-clause-reset : goal.returns-clause-reset
returns-clause-reset c = first_was_reset

pub returns-clause-round : goal.returns-clause-round
returns-clause-round c = round_of_members
