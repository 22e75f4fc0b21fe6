use Rattle.fw_explore_meaning.proofs.Common.{DeskRelations}
use Rattle.fw_explore_meaning.proofs.FinishLaws.{comes_one}
use Rattle.fw_explore_meaning.proofs.theorem.moves_have_one_ending.Given as given
use Rattle.fw_explore_meaning.proofs.theorem.moves_have_one_ending.Goals as goal

pub returns : goal.returns
returns g c =
    let D : DeskRelations = record { blocks = given.F-post g c.args.desk.now.blocks; vendor = given.H-post g c.args.desk.now.vendor } in
    λ script x w one other only first second. (comes_one D script only x).one w one other first second
