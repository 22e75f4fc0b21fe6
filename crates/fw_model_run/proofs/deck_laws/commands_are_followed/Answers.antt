-- Each clause is a lemma.
use Rattle.fw_model_run.proofs.Commands.{follows_in_run}
use Rattle.fw_model_run.proofs.Given.{all_given, carries_given}
use Rattle.fw_model_run.proofs.deck_laws.commands_are_followed.Goals as goal

pub returns-clause-follows : goal.returns-clause-follows
returns-clause-follows g c = follows_in_run _

pub returns-clause-sent : goal.returns-clause-sent
returns-clause-sent g c = all_given (record { blocks = _; vendor = _ })

pub returns-clause-others : goal.returns-clause-others
returns-clause-others g c = carries_given (record { blocks = _; vendor = _ })
