use Rattle.fw_ledger.proofs.Common.{◌≡◌, map, take, drop, orphaned_charge}
use Rattle.std.proofs.Common.{◌++◌}
use Rattle.fw_ledger.proofs.event.orphan_charges.Given as goal

abbrev pub invariant-loop-charge : goal.invariant-loop-charge
invariant-loop-charge l = l.charges ≡ map (orphaned_charge l.c) (take l.charge-index l.initial.charges) ++ drop l.charge-index l.initial.charges
