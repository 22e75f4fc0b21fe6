use Rattle.fw_cmp.proofs.Common.{◌≡◌, take}
use Rattle.std.proofs.Common.{◌*◌}
use Rattle.fw_cmp.proofs.copies.same_slots.Given as goal

abbrev pub invariant-loop-group : goal.invariant-loop-group
invariant-loop-group l = take (4 * l.group) l.slots ≡ take (4 * l.group) l.others
