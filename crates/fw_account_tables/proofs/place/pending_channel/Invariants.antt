use Rattle.fw_account_tables.proofs.Common.{◌≡◌, None, find_to, is_pending, allocation_of, charge_at}
use Rattle.fw_account_tables.proofs.place.pending_channel.Given as goal

abbrev pub invariant-loop-ch : goal.invariant-loop-ch
invariant-loop-ch l = find_to l.ch (λ ch. is_pending l.c (allocation_of (charge_at l.charges ch))) ≡ None
