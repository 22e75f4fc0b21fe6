use Rattle.fw_holders.proofs.Common.{◌≡◌, ◌++◌, Account, StandsFor, input_line, lines_below}
use Rattle.fw_holders.proofs.plugs.put_inputs.Given as goal

abbrev pub invariant-loop-plug : goal.invariant-loop-plug
invariant-loop-plug l = (account : Account) → StandsFor l.tables account → l.text.items ≡ l.fn.text.items ++ lines_below l.plug l.device (input_line account)
