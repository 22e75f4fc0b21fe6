use Rattle.fw_cmp.proofs.controller.Controller.copy_from.Goals as goal

pub invariant_of-self : goal.invariant_of-self
invariant_of-self c = rw c.copy_from.ensures c.other.invariant
