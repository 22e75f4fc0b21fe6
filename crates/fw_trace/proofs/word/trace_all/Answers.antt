use Rattle.fw_trace.proofs.Common.{◌∙◌, refl}
use Rattle.fw_trace.proofs.HeaderLaws.{first_stops, first_tracing}
use Rattle.fw_trace.proofs.word.trace_all.Goals as goal

pub loop-ending-init : goal.loop-ending-init
loop-ending-init g c =
    let new = c.read_header.new.telling in
    let b = c.in_default.ensures.begins in
    record {
      tracing = first_tracing (g.S.Source.left c.args.source.now) (g.K.Sink.held c.args.telling.now.inner.now) (g.K.Sink.held new.inner.now) new.teller.now.lack c.args.reader.now c.args.bus.now
          new.teller.now.tracer new.teller.now.history.bytes c.requires.unread c.requires.first c.requires.fresh b;
      lack = b.1;
      reference = c.read_header.ensures.reference;
      unread = refl;
      unwritten = c.in_default.ensures.writes;
    }

pub loop-ending-preserved : goal.loop-ending-preserved
loop-ending-preserved g c =
    let i = c.loop-ending.invariant in
    let on = c.in_default-trace_next.ensures.goes (g.S.Source.left c.args.source.now) (g.K.Sink.held c.args.telling.now.inner.now) i.tracing in
    record {
      tracing = on.0;
      lack = c.in_default-trace_next.ensures.lack;
      reference = c.trace_next.ensures.reference ∙ i.reference;
      unread = c.in_default-trace_next.ensures.reads ∙ i.unread;
      unwritten = c.in_default-trace_next.ensures.writes ∙ i.unwritten;
    }

pub loop-ending-smaller : goal.loop-ending-smaller
loop-ending-smaller g c =
    let i = c.loop-ending.invariant in
    (c.in_default-trace_next.ensures.goes (g.S.Source.left c.args.source.now) (g.K.Sink.held c.args.telling.now.inner.now) i.tracing).1

pub returns-in-Some-clause-traces : goal.returns-in-Some-clause-traces
returns-in-Some-clause-traces g c =
    let new = c.read_header.new.telling in
    first_stops _ (g.S.Source.left c.args.source.now) (g.K.Sink.held c.args.telling.now.inner.now) (g.K.Sink.held new.inner.now) new.teller.now.lack
    new.teller.now.tracer new.teller.now.history.bytes c.in-Some.ending c.in-Some.ensures.begins
