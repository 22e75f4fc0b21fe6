use Rattle.fw_holders.proofs.Common.{◌≡◌, ◌+◌, sum_to, counter, SeatsFor}
use Rattle.fw_model_account.specs.Account.{Connections}
use Rattle.fw_holders.proofs.owners.orphaned.Given as goal

abbrev pub invariant-loop-device : goal.invariant-loop-device
invariant-loop-device l = (s : Connections) → SeatsFor l.seats s → l.counter ≡ counter s → l.orphaned + sum_to l.device s.counts ≡ l.counter
