use Rattle.std.proofs.Common.{subst}
use Rattle.fw_tape.specs.Motion.{IsInRange}
use Rattle.fw_tape.proofs.tape.Tape.pass.Goals as goal

pub invariant_of-self-2 : goal.invariant_of-self-2
invariant_of-self-2 c = λ x is. subst IsInRange (cc) (c.pass.ensures.range (c.self.invariant _ c.in-Some.is))
