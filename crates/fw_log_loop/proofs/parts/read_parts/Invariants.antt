use Rattle.std.proofs.Common.{◌≡◌, ◌+◌, ◌-◌, ◌≤◌, ◌++◌, [], ℕ, List, length, Option}
use Rattle.fw_outside.specs.Outside.{Takes}
use Rattle.fw_log.specs.Reader.{total}
use Rattle.fw_log_loop.specs.Endings.{piece_size}
use Rattle.fw_log_loop.specs.Pieces.{IsUnderWay, DecodedTo}
use Rattle.fw_log_loop.specs.Parts.{PartsLeft}
use Rattle.fw_log_loop.proofs.parts.read_parts.Given as goal

abbrev pub invariant-loop-rest : goal.invariant-loop-rest
invariant-loop-rest g l = record {
  begun : IsUnderWay (g.O.Reading.took l.output) l.reader;
  few : length l.rest ≤ length l.fn.bytes;
  count : total l.reader + length l.rest ≡ l.fn.taken + length l.fn.bytes;
  parts : (left now after held : Option (List ℕ)) (following : List ℕ) (more : ℕ)
      → DecodedTo (g.O.Reading.form l.fn.output) (g.O.Reading.took l.fn.output) left now held (g.K.Sink.held l.fn.sink) l.fn.reader more
      → Takes now after (l.fn.bytes ++ following) → length l.fn.bytes ≤ more → length l.fn.bytes + length following ≤ piece_size
      → PartsLeft (g.O.Reading.form l.fn.output) (g.O.Reading.took l.output) left after held (g.K.Sink.held l.sink) l.reader l.rest following (more - length l.fn.bytes);
  same : g.O.Reading.form l.output ≡ g.O.Reading.form l.fn.output;
  empty : g.O.Reading.gathered l.output ≡ [];
  written : g.K.Sink.faults l.sink ≡ g.K.Sink.faults l.fn.sink;
}

abbrev pub decreases-loop-rest : goal.decreases-loop-rest
decreases-loop-rest g l = length l.rest
