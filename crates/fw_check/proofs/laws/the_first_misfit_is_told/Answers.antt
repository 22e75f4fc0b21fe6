use Rattle.fw_check.proofs.MisfitLaws.{earlier_fit, none_is_command, told_is_refused}
use Rattle.fw_check.proofs.laws.the_first_misfit_is_told.Goals as goal

pub returns-clause-none : goal.returns-clause-none
returns-clause-none c = none_is_command

pub returns-clause-earlier : goal.returns-clause-earlier
returns-clause-earlier c = earlier_fit

pub returns-clause-refused : goal.returns-clause-refused
returns-clause-refused c = told_is_refused
