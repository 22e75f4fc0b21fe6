use Rattle.fw_script_words.proofs.Common.{◌≡◌, Going, to_read}
use Rattle.fw_script_words.proofs.script.run.Given as goal

-- the commands so far were carried out, and nothing failed
abbrev pub invariant-loop-ending : goal.invariant-loop-ending
invariant-loop-ending g l = record {
  going : Going (record { blocks = goal.F-post g l.desk.blocks; vendor = goal.H-post g l.desk.vendor }) (g.S.Source.left l.fn.source) (g.S.Source.left l.source) (g.K.Sink.held l.fn.sink)
      (g.K.Sink.held l.sink) l.reader l.bus;
  unread : g.S.Source.faults l.source ≡ g.S.Source.faults l.fn.source;
  unwritten : g.K.Sink.faults l.sink ≡ g.K.Sink.faults l.fn.sink;
}

abbrev pub decreases-loop-ending : goal.decreases-loop-ending
decreases-loop-ending g l = to_read l.reader
