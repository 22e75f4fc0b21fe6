use Rattle.std.proofs.Common.{◌≡◌, []}
use Rattle.fw_log_loop.specs.Pieces.{DecodedTo}
use Rattle.fw_log_loop.proofs.log.read_pieces.Given as goal

abbrev pub invariant-loop-count : goal.invariant-loop-count
invariant-loop-count g l = record {
  decoded : DecodedTo (g.O.Reading.form l.fn.output) (g.O.Reading.took l.output) (g.S.Source.left l.fn.source) (g.S.Source.left l.source) (g.K.Sink.held l.fn.sink)
      (g.K.Sink.held l.sink) l.reader l.left;
  same : g.O.Reading.form l.output ≡ g.O.Reading.form l.fn.output;
  empty : g.O.Reading.gathered l.output ≡ [];
  read : g.S.Source.faults l.source ≡ g.S.Source.faults l.fn.source;
  written : g.K.Sink.faults l.sink ≡ g.K.Sink.faults l.fn.sink;
}

abbrev pub decreases-loop-count : goal.decreases-loop-count
decreases-loop-count g l = l.left
