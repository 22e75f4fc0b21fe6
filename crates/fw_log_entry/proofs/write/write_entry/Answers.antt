use Rattle.std.proofs.Common.{◌∙◌}
use Rattle.fw_log_entry.specs.Log.{entry_bytes}
use Rattle.fw_log_entry.proofs.WriteLaws.{writes_same}
use Rattle.fw_log_entry.proofs.write.write_entry.Goals as goal

pub returns-clause-bytes : goal.returns-clause-bytes
returns-clause-bytes g c =
    writes_same (g.K.Sink.held c.args.sink.now) (g.K.Sink.held c.write_to.new.sink) c.write_to.result _ (entry_bytes c.args.version c.args.epoch c.args.t.now)
    (c.deref.ensures ∙ c.put_entry.ensures)
    c.write_to.ensures.bytes
