use Rattle.fw_ledger.proofs.Common.{◌≡◌, ◌<◌, ℕ}
use Rattle.fw_account_tables.specs.Stands.{asked_at}
use Rattle.fw_account_tables.specs.declared.tables.Asked.TheVariants.{Nothing}
use Rattle.fw_ledger.proofs.counts.forget.Given as goal

abbrev pub invariant-loop-asked : goal.invariant-loop-asked
invariant-loop-asked l = (k : ℕ) → k < l.asked-index → asked_at l.requests k ≡ Nothing
