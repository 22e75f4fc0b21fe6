-- The clause is a lemma.
use Rattle.fw_explore_laws.proofs.Common.{DeskRelations}
use Rattle.fw_explore_laws.proofs.Rows.{rows_are_rests}
use Rattle.fw_explore_laws.proofs.laws.rows_are_rests.Given as given
use Rattle.fw_explore_laws.proofs.laws.rows_are_rests.Goals as goal

pub returns : goal.returns
returns g c =
    let D : DeskRelations = record { blocks = given.F-post g c.args.desk.now.blocks; vendor = given.H-post g c.args.desk.now.vendor } in
    rows_are_rests D
