use Rattle.fw_holders.proofs.Common.{◌≡◌, ◌<◌, ◌≤◌, ℕ, None, Account, StandsFor}
use Rattle.std.proofs.Common.{IsTrue}
use Rattle.fw_holders.specs.Held.{holding}
use Rattle.fw_holders.proofs.holding.next_reclaimed.Given as goal

abbrev pub invariant-loop-channel : goal.invariant-loop-channel
invariant-loop-channel l = (account : Account) (ch : ℕ) → StandsFor l.tables account → IsTrue account.reclaiming → l.from ≤ ch → ch < l.channel → holding account ch ≡ None
