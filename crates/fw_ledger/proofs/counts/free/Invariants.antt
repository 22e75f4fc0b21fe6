use Rattle.fw_ledger.proofs.Common.{◌≡◌, ◌<◌, ℕ, charge_at, Free}
use Rattle.fw_ledger.proofs.counts.free.Given as goal

abbrev pub invariant-loop-charge : goal.invariant-loop-charge
invariant-loop-charge l = (k : ℕ) → k < l.charge-index → charge_at l.charges k ≡ Free
