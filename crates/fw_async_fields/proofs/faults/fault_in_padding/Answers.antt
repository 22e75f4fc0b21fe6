use Rattle.fw_async_fields.proofs.Common.{◌≡◌, ◌+◌, ◌-◌, arith, sym, ◌∙◌, ap, length, fault_in_padding}
use Rattle.fw_async_fields.proofs.ReadingLaws.{padding_none, padding_here, padding_next}
use Rattle.fw_async_fields.proofs.faults.fault_in_padding.Goals as goal

pub returns-then-bytes-place-ne0 : goal.returns-then-bytes-place-ne0
returns-then-bytes-place-ne0 c = padding_here _ _ _ (omega arith) c.if-bytes-place-ne0.true ∙ sym c.loop-place.invariant

pub loop-place-preserved : goal.loop-place-preserved
loop-place-preserved c =
    let less : length c.args.bytes.now - c.loop-place.place - 1 ≡ length c.args.bytes.now - (c.loop-place.place + 1) = omega arith in
    c.loop-place.invariant ∙ padding_next _ _ _ (omega arith) c.if-bytes-place-ne0.false ∙ ap (fault_in_padding c.args.bytes.now (c.loop-place.place + 1)) less

pub returns : goal.returns
returns c = padding_none _ _ _ (omega arith) ∙ sym c.loop-place.invariant
