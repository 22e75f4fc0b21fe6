-- The clause is a lemma.
use Rattle.fw_explore_laws.proofs.Common.{DeskRelations}
use Rattle.fw_explore_laws.proofs.Runs.{rests_are_run}
use Rattle.fw_explore_laws.proofs.laws.rests_are_run.Given as given
use Rattle.fw_explore_laws.proofs.laws.rests_are_run.Goals as goal

pub returns : goal.returns
returns g c =
    let D : DeskRelations = record { blocks = given.F-post g c.args.desk.now.blocks; vendor = given.H-post g c.args.desk.now.vendor } in
    rests_are_run D
