use Rattle.fw_audit.proofs.RefusalLaws.{no_node_first, overlap_first, orphan_first, no_event_first}
use Rattle.fw_audit.proofs.refusals.fault_of.Goals as goal

pub returns-in-NoNode : goal.returns-in-NoNode
returns-in-NoNode c = λ l x h. no_node_first l x _ (rw c.in-NoNode.is at h)

pub returns-in-Overlap : goal.returns-in-Overlap
returns-in-Overlap c = λ l x h. overlap_first l x _ (rw c.in-Overlap.is at h)

pub returns-in-Orphan : goal.returns-in-Orphan
returns-in-Orphan c = λ l x h. let k = rw c.in-Orphan.is at h in orphan_first l x _ k.1.0 k.0 k.1.1

pub returns-in-NoMove : goal.returns-in-NoMove
returns-in-NoMove c = λ l x h. let k = rw c.in-NoMove.is at h in c.fault_of_swap.ensures l x k.0 k.1

pub returns-in-NoEvent : goal.returns-in-NoEvent
returns-in-NoEvent c = λ l x h. no_event_first l x _ (rw c.in-NoEvent.is at h)
