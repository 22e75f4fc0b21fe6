use Rattle.fw_trace.proofs.Common.{◌≡◌, None, Tracing}
use Rattle.fw_script_words.specs.Going.{to_read}
use Rattle.fw_trace.proofs.word.trace_all.Given as goal

-- the lines so far were told, and nothing failed
abbrev pub invariant-loop-ending : goal.invariant-loop-ending
invariant-loop-ending g l = record {
  tracing : Tracing (record { blocks = goal.F-post g l.desk.blocks; vendor = goal.H-post g l.desk.vendor }) (g.S.Source.left l.fn.source) (g.S.Source.left l.source)
      (g.K.Sink.held l.fn.telling.inner.now) (g.K.Sink.held l.telling.inner.now) l.reader l.bus l.telling.teller.now.tracer l.telling.teller.now.history.bytes;
  lack : l.telling.teller.now.lack ≡ None;
  reference : l.telling.inner.ghost_name ≡ l.fn.telling.inner.ghost_name;
  unread : g.S.Source.faults l.source ≡ g.S.Source.faults l.fn.source;
  unwritten : g.K.Sink.faults l.telling.inner.now ≡ g.K.Sink.faults l.fn.telling.inner.now;
}

abbrev pub decreases-loop-ending : goal.decreases-loop-ending
decreases-loop-ending g l = to_read l.reader
