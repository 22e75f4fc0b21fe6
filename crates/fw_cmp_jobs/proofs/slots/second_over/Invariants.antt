use Rattle.fw_cmp_jobs.proofs.Common.{◌≡◌, ◌++◌, take, slot_over}
use Rattle.std.proofs.Common.{map, drop}
use Rattle.fw_cmp_jobs.proofs.slots.second_over.Given as goal

abbrev pub invariant-loop-slot : goal.invariant-loop-slot
invariant-loop-slot l = l.slots ≡ map slot_over (take l.slot-index l.initial.slots) ++ drop l.slot-index l.initial.slots
