use Rattle.fw_trace.proofs.Common.{◌∙◌, sym, subst}
use Rattle.fw_log_entry.specs.declared.entry.ResetEntry.{ResetEntry}
use Rattle.fw_log_latest.specs.Latest.{IsBusOf}
use Rattle.fw_trace.proofs.PieceLaws.{puts_entry}
use Rattle.fw_trace.proofs.ResetLaws.{bus_puts}
use Rattle.fw_trace.proofs.bodies.put_reset.Goals as goal

pub returns : goal.returns
returns c r f e =
    let P : ResetEntry → Type 0 = IsBusOf r in
    let is = sym (c.new.ensures ∙ c.get.ensures) in
    bus_puts c.args.cycle r _ c.args.tracer.now c.put.new.self c.put.result (subst P is (c.in_ok-take.ensures r f e))
    (puts_entry c.put.result _ c.args.tracer.now c.put.new.self c.put.ensures.text c.put.ensures.kept)
