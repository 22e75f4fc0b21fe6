use Rattle.fw_ledger.proofs.Common.{◌≡◌, map, take, drop, orphaned_seats}
use Rattle.std.proofs.Common.{◌++◌}
use Rattle.fw_ledger.proofs.event.orphan_plugs.Given as goal

abbrev pub invariant-loop-seats : goal.invariant-loop-seats
invariant-loop-seats l = l.plugs ≡ map (orphaned_seats l.c) (take l.seats-index l.initial.plugs) ++ drop l.seats-index l.initial.plugs
