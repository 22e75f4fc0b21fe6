use Rattle.fw_tree.proofs.OneRootLaws.{ends_with_one_root}
use Rattle.fw_tree.proofs.laws.rounds_end_with_one_root.Goals as goal

pub returns : goal.returns
returns c = ends_with_one_root
