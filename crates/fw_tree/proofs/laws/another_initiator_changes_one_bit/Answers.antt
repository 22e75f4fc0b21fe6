use Rattle.fw_tree.proofs.SelfIdLaws.{begun}
use Rattle.fw_tree.proofs.laws.another_initiator_changes_one_bit.Goals as goal

pub returns : goal.returns
returns c = λ p n i d node ids numbered at a. begun p.devices p.cables n.number n.parent_port i d node n.count ids numbered.nodes.one at a
