use Rattle.fw_explore_meaning.proofs.Common.{DeskRelations}
use Rattle.fw_explore_meaning.proofs.OneText.{one_text}
use Rattle.fw_explore_meaning.proofs.theorem.what_is_told_is_one_text.Given as given
use Rattle.fw_explore_meaning.proofs.theorem.what_is_told_is_one_text.Goals as goal

pub returns : goal.returns
returns g c =
    let D : DeskRelations = record { blocks = given.F-post g c.args.desk.now.blocks; vendor = given.H-post g c.args.desk.now.vendor } in
    λ script x names rows others e n l e' n' l' only one other.
    one_text D only script x names rows others e n l e' n' l' one other
