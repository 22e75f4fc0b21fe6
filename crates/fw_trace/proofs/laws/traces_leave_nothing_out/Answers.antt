use Rattle.fw_trace.proofs.Common.{DeskRelations}
use Rattle.fw_trace.proofs.CountLaws.{ends_as_its_run, leaves_nothing_out}
use Rattle.fw_trace.proofs.laws.traces_leave_nothing_out.Given as given
use Rattle.fw_trace.proofs.laws.traces_leave_nothing_out.Goals as goal

pub returns-clause-told : goal.returns-clause-told
returns-clause-told g c =
    let D : DeskRelations = record { blocks = given.F-post g c.args.desk.now.blocks; vendor = given.H-post g c.args.desk.now.vendor } in
    leaves_nothing_out D

pub returns-clause-ends : goal.returns-clause-ends
returns-clause-ends g c =
    let D : DeskRelations = record { blocks = given.F-post g c.args.desk.now.blocks; vendor = given.H-post g c.args.desk.now.vendor } in
    ends_as_its_run D
