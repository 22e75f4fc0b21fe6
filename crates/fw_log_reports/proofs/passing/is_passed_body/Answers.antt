use Rattle.std.proofs.Common.{refl, sym, subst, ◌∙◌}
use Rattle.fw_audit.proofs.Audits.{other_clear}
use Rattle.fw_audit.specs.Found.{IsPassedOver}
use Rattle.fw_log.specs.Passing.{HasBody}
use Rattle.fw_log.specs.declared.plain.PlainBody.{PlainBody}
use Rattle.fw_log_reports.proofs.passing.is_passed_body.Goals as goal

pub has_other_label-requires : goal.has_other_label-requires
has_other_label-requires c =
    let P : PlainBody → Type 0 = λ b. HasBody b c.requires.0 in
    let made = subst P c.in-Packet.is c.requires.1 in
    record { packet = made.0; spells = record { fits = made.2.fits; same = made.2.same ∙ sym c.as_slice.ensures } }

pub returns-in-Packet : goal.returns-in-Packet
returns-in-Packet c = λ yes e h.
    let P : PlainBody → Type 0 = λ b. HasBody b e in
    let made = subst P c.in-Packet.is h in
    subst IsPassedOver (sym made.1) (c.has_other_label.ensures yes made.0 (record { fits = made.2.fits; same = made.2.same ∙ sym c.as_slice.ensures }))

pub returns-in-Iso : goal.returns-in-Iso
returns-in-Iso c = λ yes e h.
    let P : PlainBody → Type 0 = λ b. HasBody b e in
    let made = subst P c.in-Iso.is h in
    subst IsPassedOver (sym made.1) (λ l. (refl, other_clear l))
