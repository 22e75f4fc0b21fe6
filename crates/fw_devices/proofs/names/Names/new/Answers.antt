use Rattle.fw_devices.proofs.Common.{arith}
use Rattle.fw_devices.proofs.names.Names.new.Goals as goal

pub invariant_of-result : goal.invariant_of-result
invariant_of-result c = record {
  room = omega (arith, c.in_ok-with_capacity.ensures.capacity);
  few = rw c.in_ok-with_capacity.ensures.items (omega arith);
  first = λ key low. absurd (let e = c.no_places.ensures key in let i = c.in_ok-with_capacity.ensures.items in grind arith);
  none = λ key far. c.no_places.ensures key;
}
