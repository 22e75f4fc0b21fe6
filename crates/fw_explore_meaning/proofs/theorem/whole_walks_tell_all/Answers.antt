use Rattle.fw_explore_meaning.proofs.Common.{DeskRelations}
use Rattle.fw_explore_meaning.proofs.GoLaws.{whole_told}
use Rattle.fw_explore_meaning.proofs.theorem.whole_walks_tell_all.Given as given
use Rattle.fw_explore_meaning.proofs.theorem.whole_walks_tell_all.Goals as goal

pub returns : goal.returns
returns g c =
    let D : DeskRelations = record { blocks = given.F-post g c.args.desk.now.blocks; vendor = given.H-post g c.args.desk.now.vendor } in
    λ script x rows only whole. whole_told D script x only rows whole
