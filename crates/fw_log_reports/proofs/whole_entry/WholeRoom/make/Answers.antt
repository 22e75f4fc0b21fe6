use Rattle.std.proofs.Common.{◌≡◌, List, ℕ, ap, sym, subst, ◌∙◌}
use Rattle.fw_async.specs.Reader.{Spells}
use Rattle.fw_log_entry.specs.declared.entry.Entry.TheVariants.{Async, Iso, Reset}
use Rattle.fw_log.specs.Passing.{HasBody}
use Rattle.fw_log.specs.declared.plain.PlainBody.{PlainBody}
use Rattle.fw_log_reports.proofs.whole_entry.WholeRoom.make.Goals as goal

pub whole_packet-requires : goal.whole_packet-requires
whole_packet-requires c =
    let P : PlainBody → Type 0 = λ b. HasBody b c.requires.0 in
    let made = subst P c.in-Packet.is c.requires.1 in
    let S : List ℕ → Type 0 = Spells made.0 in
    record { packet = made.0; spells = subst S (sym c.as_slice.ensures) made.2 }

pub returns-in-Packet : goal.returns-in-Packet
returns-in-Packet c e m =
    let P : PlainBody → Type 0 = λ b. HasBody b e in
    let made = subst P c.in-Packet.is m in
    let S : List ℕ → Type 0 = Spells made.0 in
    ap Async (c.whole_packet.ensures.same made.0 (subst S (sym c.as_slice.ensures) made.2)) ∙ sym made.1

pub whole_iso-requires : goal.whole_iso-requires
whole_iso-requires c =
    let P : PlainBody → Type 0 = λ b. HasBody b c.requires.0 in
    let made = subst P c.in-Iso.is c.requires.1 in
    record { packet = made.0; fits = made.2; same = made.3 ∙ sym c.as_slice-in-Iso.ensures }

pub returns-in-Iso : goal.returns-in-Iso
returns-in-Iso c e m =
    let P : PlainBody → Type 0 = λ b. HasBody b e in
    let made = subst P c.in-Iso.is m in
    ap Iso (c.whole_iso.ensures.same made.0 made.2 (made.3 ∙ sym c.as_slice-in-Iso.ensures)) ∙ sym made.1

pub read_whole_reset-requires : goal.read_whole_reset-requires
read_whole_reset-requires c =
    let P : PlainBody → Type 0 = λ b. HasBody b c.requires.0 in
    let made = subst P c.in-Reset.is c.requires.1 in
    record { reset = made.0; fits = made.2; same = made.3 ∙ sym c.as_slice-in-Reset.ensures }

pub returns-in-Reset : goal.returns-in-Reset
returns-in-Reset c e m =
    let P : PlainBody → Type 0 = λ b. HasBody b e in
    let made = subst P c.in-Reset.is m in
    let inside = c.read_whole_reset.ensures made.0 made.2 (made.3 ∙ sym c.as_slice-in-Reset.ensures) in
    let whole : c.new.result ≡ made.0 = cc (c.new.ensures, c.deref.ensures, inside) in
    ap Reset whole ∙ sym made.1
