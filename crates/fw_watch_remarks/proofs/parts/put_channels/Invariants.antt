use Rattle.std.proofs.Common.{◌≡◌, ◌++◌}
use Rattle.fw_watch_remarks.specs.Parts.{channels_to}
use Rattle.fw_watch_remarks.proofs.parts.put_channels.Given as goal

abbrev pub invariant-loop-at : goal.invariant-loop-at
invariant-loop-at l = l.text.items ≡ l.fn.text.items ++ channels_to l.at l.first l.set
