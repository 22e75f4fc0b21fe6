use Rattle.fw_check_causes.proofs.ToldLaws.{told_of}
use Rattle.fw_check_causes.proofs.of_rule.cause.Goals as goal

pub returns-clause-word : goal.returns-clause-word
returns-clause-word c = told_of c.args.machine.now c.args.command.now c.args.rule c.found.result c.requires.ready c.found.ensures
