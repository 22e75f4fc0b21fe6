use Rattle.std.proofs.Common.{◌≡◌, ℕ, List, length}
use Rattle.std.specs.List.{All}
use Rattle.fw_log_entry.specs.Log.{entries_bytes, TimedFits}
use Rattle.fw_log_entry.specs.declared.version.Version.TheVariants.{Two}
use Rattle.fw_log_entry.specs.declared.entry.Timed.{Timed}
use Rattle.fw_script_gen.specs.Summary.{Counts}
use Rattle.fw_script_gen.proofs.TallyLaws.{Walked}
use Rattle.fw_script_gen.proofs.tally.Tally.take.Given as goal

abbrev pub invariant-loop-size : goal.invariant-loop-size
invariant-loop-size l = (epoch : ℕ) (log more : List Timed) → All TimedFits more → l.fn.bytes ≡ entries_bytes Two epoch more → Counts log l.fn.self → Walked log more l.rest l.self

abbrev pub decreases-loop-size : goal.decreases-loop-size
decreases-loop-size l = length l.rest
