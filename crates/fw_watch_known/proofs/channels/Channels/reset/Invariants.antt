use Rattle.std.proofs.Common.{length}
use Rattle.fw_watch_known.specs.Channels.{fresh}
use Rattle.fw_watch_known.proofs.FillLaws.{Filled}
use Rattle.fw_watch_known.proofs.channels.Channels.reset.Given as goal

abbrev pub invariant-loop-i : goal.invariant-loop-i
invariant-loop-i l = Filled l.self-inside.rows.items l.i (length l.fn.self) fresh
