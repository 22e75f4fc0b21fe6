use Rattle.std.proofs.Common.{ap, ◌∙◌}
use Rattle.std.specs.Int.{to_be_bytes, w32}
use Rattle.fw_log_entry.specs.Log.{header_bytes}
use Rattle.fw_log_entry.proofs.WriteLaws.{writes_same, one_more}
use Rattle.fw_log_entry.proofs.write.write_header.Goals as goal

pub returns-clause-bytes : goal.returns-clause-bytes
returns-clause-bytes g c =
    writes_same (g.K.Sink.held c.args.sink.now) (g.K.Sink.held c.write.new.self) c.write.result c.as_slice.result.now (header_bytes c.args.version)
    (c.as_slice.ensures.value
    ∙ one_more _ _ _ _ _ c.append-4.ensures (one_more _ _ _ _ _ c.append-3.ensures
    (one_more _ _ _ _ _ c.append-2.ensures (one_more _ _ _ _ _ c.append.ensures c.new-header.ensures c.put_quadlet.ensures.bytes)
    (c.put_quadlet-2.ensures.bytes ∙ ap (to_be_bytes w32) c.number.ensures)) c.put_quadlet-3.ensures.bytes) c.put_quadlet-4.ensures.bytes)
    c.write.ensures.bytes
