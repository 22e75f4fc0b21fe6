-- Each clause is a lemma.
use Rattle.fw_model_run.proofs.OneLog.{one_run, one_carries}
use Rattle.fw_model_run.proofs.Rules.{one_answer}
use Rattle.fw_model_run.proofs.Common.{DeskRelations}
use Rattle.fw_model_run.proofs.laws.runs_have_one_log.Given as given
use Rattle.fw_model_run.proofs.laws.runs_have_one_log.Goals as goal

pub returns-clause-logs : goal.returns-clause-logs
returns-clause-logs g c only commands actions others log other s t f h give gave =
    let D : DeskRelations = record { blocks = given.F-post g c.args.desk.now.blocks; vendor = given.H-post g c.args.desk.now.vendor } in
    one_run D only commands actions others log other s t f h give gave

pub returns-clause-orders : goal.returns-clause-orders
returns-clause-orders g c = one_answer

pub returns-clause-results : goal.returns-clause-results
returns-clause-results g c only s o actions others out other t u good f h give gave =
    let D : DeskRelations = record { blocks = given.F-post g c.args.desk.now.blocks; vendor = given.H-post g c.args.desk.now.vendor } in
    one_carries D only s o actions others out other t u good f h give gave
