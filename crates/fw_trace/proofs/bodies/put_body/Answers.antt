use Rattle.fw_trace.proofs.Common.{List, ℕ, sym, subst, ◌∙◌, PutsEntry}
use Rattle.fw_async.specs.Reader.{Spells}
use Rattle.fw_log_entry.specs.declared.entry.Entry.{Entry}
use Rattle.fw_log.specs.Passing.{HasBody}
use Rattle.fw_log.specs.declared.plain.PlainBody.{PlainBody}
use Rattle.fw_trace.proofs.bodies.put_body.Goals as goal

pub put_packet-requires : goal.put_packet-requires
put_packet-requires c =
    let P : PlainBody → Type 0 = λ b. HasBody b c.requires.0 in
    let made = subst P c.in-Packet.is c.requires.1 in
    let S : List ℕ → Type 0 = Spells made.0 in
    record { packet = made.0; spells = subst S (sym c.as_slice.ensures) made.2 }

pub put_iso-requires : goal.put_iso-requires
put_iso-requires c =
    let P : PlainBody → Type 0 = λ b. HasBody b c.requires.0 in
    let made = subst P c.in-Iso.is c.requires.1 in
    record { packet = made.0; fits = made.2; same = made.3 ∙ sym c.as_slice-in-Iso.ensures }

pub put_reset-requires : goal.put_reset-requires
put_reset-requires c =
    let P : PlainBody → Type 0 = λ b. HasBody b c.requires.0 in
    let made = subst P c.in-Reset.is c.requires.1 in
    (made.0, made.2, made.3 ∙ sym c.as_slice-in-Reset.ensures)

pub returns-in-Packet : goal.returns-in-Packet
returns-in-Packet c e m =
    let P : PlainBody → Type 0 = λ b. HasBody b e in
    let made = subst P c.in-Packet.is m in
    let S : List ℕ → Type 0 = Spells made.0 in
    let R : Entry → Type 0 = λ w. PutsEntry (record { cycle = c.args.cycle; what = w }) c.args.tracer.now c.put_packet.new.tracer c.put_packet.result in
    subst R (sym made.1) (c.put_packet.ensures made.0 (subst S (sym c.as_slice.ensures) made.2))

pub returns-in-Iso : goal.returns-in-Iso
returns-in-Iso c e m =
    let P : PlainBody → Type 0 = λ b. HasBody b e in
    let made = subst P c.in-Iso.is m in
    let R : Entry → Type 0 = λ w. PutsEntry (record { cycle = c.args.cycle; what = w }) c.args.tracer.now c.put_iso.new.tracer c.put_iso.result in
    subst R (sym made.1) (c.put_iso.ensures made.0 made.2 (made.3 ∙ sym c.as_slice-in-Iso.ensures))

pub returns-in-Reset : goal.returns-in-Reset
returns-in-Reset c e m =
    let P : PlainBody → Type 0 = λ b. HasBody b e in
    let made = subst P c.in-Reset.is m in
    let R : Entry → Type 0 = λ w. PutsEntry (record { cycle = c.args.cycle; what = w }) c.args.tracer.now c.put_reset.new.tracer c.put_reset.result in
    subst R (sym made.1) (c.put_reset.ensures made.0 made.2 (made.3 ∙ sym c.as_slice-in-Reset.ensures))
