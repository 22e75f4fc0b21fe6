-- The clause is a lemma.
use Rattle.fw_explore_laws.proofs.Common.{DeskRelations}
use Rattle.fw_explore_laws.proofs.Told.{paragraphs_are_rests}
use Rattle.fw_explore_laws.proofs.laws.paragraphs_are_rests.Given as given
use Rattle.fw_explore_laws.proofs.laws.paragraphs_are_rests.Goals as goal

pub returns : goal.returns
returns g c =
    let D : DeskRelations = record { blocks = given.F-post g c.args.desk.now.blocks; vendor = given.H-post g c.args.desk.now.vendor } in
    paragraphs_are_rests D
