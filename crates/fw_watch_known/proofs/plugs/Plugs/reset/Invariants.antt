use Rattle.std.proofs.Common.{length}
use Rattle.fw_watch_remarks.specs.Knowing.{after_reset}
use Rattle.fw_watch_known.proofs.FillLaws.{Filled}
use Rattle.fw_watch_known.proofs.plugs.Plugs.reset.Given as goal

abbrev pub invariant-loop-i : goal.invariant-loop-i
invariant-loop-i l = Filled l.self-inside.rows.items l.i (length l.fn.self) after_reset
