use Rattle.fw_trace.proofs.Common.{◌≡◌, Base}
use Rattle.fw_trace.proofs.Framings.{frame_writes}
use Rattle.fw_trace.proofs.telling.sink.TellingSinkSink.write.Goals as goal

pub returns-clause-bytes : goal.returns-clause-bytes
returns-clause-bytes g c =
    let old = c.args.self.now.teller.now in
    let new = c.write.new.self in
    let name = c.args.self.now.inner.ghost_name in
    let base : Base = (name, (g.K.Sink.held old.passed.start.value, (g.K.Sink.faults old.passed.start.value, (old.origin.value, old.earlier.value.bytes)))) in
    let base' : Base = (name, (g.K.Sink.held new.passed.start.value, (g.K.Sink.faults new.passed.start.value, (new.origin.value, new.earlier.value.bytes)))) in
    let same : base' ≡ base =
    λ i. (name, (g.K.Sink.held (c.write.ensures.start i), (g.K.Sink.faults (c.write.ensures.start i), (c.write.ensures.origin i, c.write.ensures.earlier i)))) in
    frame_writes base base' old.history.bytes new.history.bytes c.args.piece.now c.write.result same c.write.ensures.bytes
