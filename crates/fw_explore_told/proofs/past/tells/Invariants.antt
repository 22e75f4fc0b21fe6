use Rattle.std.proofs.Common.{◌≡◌, ℕ, List, [], length}
use Rattle.std.specs.List.{All}
use Rattle.fw_log_entry.specs.Log.{entries_bytes, TimedFits}
use Rattle.fw_log_entry.specs.declared.version.Version.TheVariants.{Two}
use Rattle.fw_log_entry.specs.declared.entry.Timed.{Timed}
use Rattle.fw_explore_told.proofs.TellLaws.{Walked}
use Rattle.fw_explore_told.proofs.past.tells.Given as goal

abbrev pub invariant-loop-size : goal.invariant-loop-size
invariant-loop-size l = (epoch : ℕ) (more : List Timed) → All TimedFits more → l.fn.bytes ≡ entries_bytes Two epoch more → Walked [] more l.rest []

abbrev pub decreases-loop-size : goal.decreases-loop-size
decreases-loop-size l = length l.rest
