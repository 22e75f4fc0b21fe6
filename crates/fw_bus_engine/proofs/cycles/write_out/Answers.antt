use Rattle.fw_bus_engine.proofs.Common.{[], refl, Grows-nothing}
use Rattle.fw_log_entry.proofs.WriteLaws.{writes_same}
use Rattle.fw_bus_engine.proofs.OneAction.{no_faults}
use Rattle.fw_bus_engine.proofs.Gathering.{is_empty, is_full, passes_all}
use Rattle.fw_bus_engine.proofs.cycles.write_out.Goals as goal

pub returns-then-is_empty : goal.returns-then-is_empty
returns-then-is_empty g c = record {
  passes = ([], refl, Grows-nothing (g.K.Sink.held c.args.sink.now));
  empty = is_empty c.as_slice-entries.result.now _ _ c.as_slice-entries.ensures c.is_empty.ensures c.if-is_empty.true;
  faults = no_faults (g.K.Sink.faults c.args.sink.now) (tt {0});
}

pub returns : goal.returns
returns g c = record {
  passes = passes_all _ _ c.write-result.result c.args.room.now _
      (is_full c.as_slice-entries.result.now _ _ c.as_slice-entries.ensures c.is_empty.ensures c.if-is_empty.false) c.clear.ensures
      (writes_same (g.K.Sink.held c.args.sink.now) (g.K.Sink.held c.write-result.new.self) c.write-result.result _ _ c.as_slice-entries.ensures c.write-result.ensures.bytes);
  empty = c.clear.ensures;
  faults = record { cause = c.write-result.ensures.cause; same = c.write-result.ensures.same };
}
