use Rattle.fw_async.proofs.Common.{◌/◌, length, arith, ap, sym, ◌∙◌}
use Rattle.fw_async.specs.Plain.{is_plain_form}
use Rattle.fw_async.proofs.PlainLaws.{plain_packet}
use Rattle.fw_async.proofs.plain.is_plain_packet.Goals as goal

pub returns-in-Some-clause-packet : goal.returns-in-Some-clause-packet
returns-in-Some-clause-packet c plain whole =
    let bytes = c.args.bytes.now in
    plain_packet bytes (length bytes / 4) (λ i. omega (arith, c.type_inv.bytes i)) (omega (arith, whole))
    (ap (λ t. is_plain_form t bytes) (sym c.in-Some.ensures.same) ∙ sym c.is_plain_form.ensures ∙ plain)
