use Rattle.fw_tree.proofs.Common.{arith, refl}
use Rattle.fw_tree.specs.Topology.{empty}
use Rattle.fw_tree.proofs.TopologyLaws.{sound_new}
use Rattle.fw_tree.proofs.cabling.Cabling.new.Goals as goal

pub invariant_of-result : goal.invariant_of-result
invariant_of-result c = record { size = refl; most = omega arith; made = empty refl; sound = sound_new }

pub returns-clause-made : goal.returns-clause-made
returns-clause-made c = empty refl
