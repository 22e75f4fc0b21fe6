use Rattle.fw_holders.proofs.Common.{◌≡◌, None}
use Rattle.fw_terms.specs.Tables.{find_to}
use Rattle.fw_model_account.specs.Account.{is_pending}
use Rattle.fw_account_tables.specs.Stands.{allocation_of, charge_at}
use Rattle.fw_holders.proofs.death.first_pending.Given as goal

abbrev pub invariant-loop-ch : goal.invariant-loop-ch
invariant-loop-ch l = find_to l.ch (λ ch. is_pending l.controller (allocation_of (charge_at l.charges ch))) ≡ None
