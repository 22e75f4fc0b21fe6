use Rattle.fw_node.proofs.node.Node.copy_from.Goals as goal

pub invariant_of-self : goal.invariant_of-self
invariant_of-self c = rw (c.copy_from.ensures, c.copy_of-self-inside.ensures, c.copy_from-2.ensures) c.other.invariant
