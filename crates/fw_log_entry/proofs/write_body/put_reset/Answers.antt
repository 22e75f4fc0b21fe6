use Rattle.std.proofs.Common.{arith}
use Rattle.fw_log_entry.proofs.SizeLaws.{reset_parts}
use Rattle.fw_log_entry.proofs.write_body.put_reset.Goals as goal

pub returns : goal.returns
returns c =
    reset_parts c.args.r.now c.as_slice-rows.result.now c.as_slice-ids.result.now c.args.out.now c.put_quad.new.out c.put_quad-2.new.out c.put_nodes.new.out c.put_ids.new.out c.with_field.result
    c.as_slice-rows.ensures.value c.as_slice-ids.ensures.value (grind arith) c.put_quad.ensures c.put_quad-2.ensures c.put_nodes.ensures.written c.put_ids.ensures
