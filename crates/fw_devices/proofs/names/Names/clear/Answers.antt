use Rattle.fw_devices.proofs.Common.{arith}
use Rattle.fw_devices.proofs.names.Names.clear.Goals as goal

pub invariant_of-self : goal.invariant_of-self
invariant_of-self c = record {
  room = omega (arith, c.clear.ensures.capacity, c.self.invariant.room);
  few = rw c.clear.ensures.items (omega arith);
  first = λ key low. absurd (let e = c.no_places-self-inside.ensures key in let i = c.clear.ensures.items in grind arith);
  none = λ key far. c.no_places-self-inside.ensures key;
}
