use Rattle.fw_holders.proofs.Common.{◌≡◌, ◌++◌, Account, StandsFor, plug_lines}
use Rattle.fw_holders.proofs.plugs.put_plugs.Given as goal

abbrev pub invariant-loop-device : goal.invariant-loop-device
invariant-loop-device l = (account : Account) → StandsFor l.tables account → l.text.items ≡ l.fn.text.items ++ plug_lines l.device account
