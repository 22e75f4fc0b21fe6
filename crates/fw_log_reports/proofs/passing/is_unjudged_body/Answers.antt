use Rattle.std.proofs.Common.{◌≡◌, refl, sym, subst, ◌∙◌}
use Rattle.fw_audit.specs.Unjudged.{is_unjudged}
use Rattle.fw_log_entry.specs.declared.entry.Entry.{Entry}
use Rattle.fw_log.specs.Passing.{HasBody}
use Rattle.fw_log.specs.declared.plain.PlainBody.{PlainBody}
use Rattle.fw_log_reports.proofs.passing.is_unjudged_body.Goals as goal

pub is_unjudged_packet-requires : goal.is_unjudged_packet-requires
is_unjudged_packet-requires c =
    let P : PlainBody → Type 0 = λ b. HasBody b c.requires.0 in
    let made = subst P c.in-Packet.is c.requires.1 in
    record { packet = made.0; spells = record { fits = made.2.fits; same = made.2.same ∙ sym c.as_slice.ensures } }

pub returns-in-Packet : goal.returns-in-Packet
returns-in-Packet c = λ e h.
    let P : PlainBody → Type 0 = λ b. HasBody b e in
    let made = subst P c.in-Packet.is h in
    let Q : Entry → Type 0 = λ x. c.is_unjudged_packet.result ≡ is_unjudged x in
    subst Q (sym made.1) (c.is_unjudged_packet.ensures made.0 (record { fits = made.2.fits; same = made.2.same ∙ sym c.as_slice.ensures }))

pub returns-in-Iso : goal.returns-in-Iso
returns-in-Iso c = λ e h.
    let P : PlainBody → Type 0 = λ b. HasBody b e in
    let made = subst P c.in-Iso.is h in
    rw made.1 refl

pub returns-in-Reset : goal.returns-in-Reset
returns-in-Reset c = λ e h.
    let P : PlainBody → Type 0 = λ b. HasBody b e in
    let made = subst P c.in-Reset.is h in
    rw made.1 refl
