use Rattle.fw_holders.proofs.Common.{◌≡◌, ◌++◌, Account, StandsFor, channel_lines}
use Rattle.fw_holders.proofs.table.put_channels.Given as goal

abbrev pub invariant-loop-channel : goal.invariant-loop-channel
invariant-loop-channel l = (account : Account) → StandsFor l.tables account → l.text.items ≡ l.fn.text.items ++ channel_lines l.channel account
