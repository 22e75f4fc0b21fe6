use Rattle.fw_cmp.proofs.ResetGoesOn.{first_goes_on, state_reset_goes_on, second_goes_on}
use Rattle.fw_cmp.proofs.GoingOn.{connection_goes_on, break_goes_on, next_goes_on, hear_goes_on}
use Rattle.fw_cmp.proofs.laws.controllers_go_on.Goals as goal

pub returns-clause-first : goal.returns-clause-first
returns-clause-first c = first_goes_on

pub returns-clause-connection : goal.returns-clause-connection
returns-clause-connection c = connection_goes_on

pub returns-clause-breaking : goal.returns-clause-breaking
returns-clause-breaking c = break_goes_on

pub returns-clause-turn : goal.returns-clause-turn
returns-clause-turn c = next_goes_on

pub returns-clause-answer : goal.returns-clause-answer
returns-clause-answer c = hear_goes_on

pub returns-clause-reset : goal.returns-clause-reset
returns-clause-reset c = state_reset_goes_on

pub returns-clause-second : goal.returns-clause-second
returns-clause-second c = second_goes_on
