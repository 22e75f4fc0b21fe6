use Rattle.fw_map.proofs.FoundTreeLaws.{found, tree_is}
use Rattle.fw_map.proofs.CablingLaws.{has_packets}
use Rattle.fw_tree.proofs.ReachLaws.{sound_made}
use Rattle.fw_map.proofs.laws.self_ids_tell_the_tree.Goals as goal

pub returns : goal.returns
returns c = λ p n i e made h packets size top.
    let s = sound_made p made in
    (found p n s h, tree_is p n s h, has_packets p n s h i e packets size top)
