use Rattle.std.proofs.Common.{◌≡◌, ◌+◌, List, ℕ, None, length}
use Rattle.fw_log_entry.specs.declared.entry.Timed.{Timed}
use Rattle.fw_log.specs.History.{HasRead}
use Rattle.fw_log.specs.Reader.{total}
use Rattle.fw_log_loop.specs.Pieces.{GatheredTo}
use Rattle.fw_log_loop.proofs.piece.take_entries.Given as goal

abbrev pub invariant-loop-rest : goal.invariant-loop-rest
invariant-loop-rest g l = record {
  fresh : l.reader.fault ≡ None;
  count : total l.reader + length l.rest ≡ total l.fn.reader + length l.fn.piece;
  text : (entries : List Timed) (bytes : List ℕ) → HasRead entries bytes l.fn.reader → g.O.Reading.took l.fn.output entries
      → GatheredTo (g.O.Reading.form l.fn.output).text (g.O.Reading.took l.output) (g.O.Reading.gathered l.fn.output) (g.O.Reading.gathered l.output) entries bytes l.fn.piece l.rest l.reader;
  same : g.O.Reading.form l.output ≡ g.O.Reading.form l.fn.output;
}

abbrev pub decreases-loop-rest : goal.decreases-loop-rest
decreases-loop-rest g l = length l.rest
