use Rattle.fw_cmp_jobs.proofs.Common.{◌≡◌, ◌++◌, take, slot_reset}
use Rattle.std.proofs.Common.{map, drop}
use Rattle.fw_cmp_jobs.proofs.slots.reset.Given as goal

abbrev pub invariant-loop-slot : goal.invariant-loop-slot
invariant-loop-slot l = l.slots ≡ map slot_reset (take l.slot-index l.initial.slots) ++ drop l.slot-index l.initial.slots
