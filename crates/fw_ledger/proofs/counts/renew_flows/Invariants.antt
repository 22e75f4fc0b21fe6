use Rattle.fw_ledger.proofs.Common.{◌≡◌, ◌<◌, ◌≤◌, ℕ, charge_at}
use Rattle.std.proofs.Common.{if◌then◌else◌}
use Rattle.fw_ledger.specs.Resets.{talker}
use Rattle.fw_account_tables.specs.Stands.{reclaimable_at}
use Rattle.fw_ledger.proofs.counts.renew_flows.Given as goal

abbrev pub invariant-loop-ch : goal.invariant-loop-ch
invariant-loop-ch l = record {
  done : (ch : ℕ) → ch < l.ch → reclaimable_at l.flows ch ≡ (if l.runs then reclaimable_at l.initial.flows ch else talker (charge_at l.charges ch));
  left : (ch : ℕ) → l.ch ≤ ch → reclaimable_at l.flows ch ≡ reclaimable_at l.initial.flows ch;
}
