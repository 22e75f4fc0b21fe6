use Rattle.std.proofs.Common.{◌≡◌, List, ℕ, ◌++◌, ◌∷◌, [], ap, sym, subst, ◌∙◌, OnOk}
use Rattle.fw_async.specs.Reader.{Spells}
use Rattle.fw_log_entry.specs.declared.entry.Entry.{Entry}
use Rattle.fw_log_entry.specs.declared.entry.Entry.TheVariants.{Async, Iso, Reset}
use Rattle.fw_log.specs.Passing.{HasBody}
use Rattle.fw_log.specs.declared.plain.PlainBody.{PlainBody}
use Rattle.fw_log_entry.specs.declared.entry.ResetEntry.{ResetEntry}
use Rattle.fw_log_latest.specs.Latest.{IsBusOf}
use Rattle.fw_watch.specs.Steps.{at_cycle}
use Rattle.fw_watch.specs.Watched.{Watches, watched}
use Rattle.fw_log_reports.proofs.watching.Watching.put.Goals as goal

pub put_packet-requires : goal.put_packet-requires
put_packet-requires c =
    let P : PlainBody → Type 0 = λ b. HasBody b c.requires.0 in
    let made = subst P c.in-Packet.is c.requires.1 in
    let S : List ℕ → Type 0 = Spells made.0 in
    record { packet = made.0; spells = subst S (sym c.as_slice.ensures) made.2 }

pub returns-in-Packet-clause-lines : goal.returns-in-Packet-clause-lines
returns-in-Packet-clause-lines c e m before w =
    let P : PlainBody → Type 0 = λ b. HasBody b e in
    let made = subst P c.in-Packet.is m in
    let S : List ℕ → Type 0 = Spells made.0 in
    let L : Entry → Type 0 = λ x. OnOk c.put_packet.result (c.put_packet.new.self.told.text ≡ c.args.self.now.watch.told.text ++ watched before (at_cycle c.args.cycle x ∷ [])) in
    subst L (sym made.1) (c.put_packet.ensures.lines made.0 (subst S (sym c.as_slice.ensures) made.2) before w)

pub returns-in-Packet-clause-following : goal.returns-in-Packet-clause-following
returns-in-Packet-clause-following c e m before w =
    let P : PlainBody → Type 0 = λ b. HasBody b e in
    let made = subst P c.in-Packet.is m in
    let S : List ℕ → Type 0 = Spells made.0 in
    let L : Entry → Type 0 = λ x. OnOk c.put_packet.result (Watches c.put_packet.new.self (before ++ at_cycle c.args.cycle x ∷ [])) in
    subst L (sym made.1) (c.put_packet.ensures.following made.0 (subst S (sym c.as_slice.ensures) made.2) before w)

pub whole_iso-requires : goal.whole_iso-requires
whole_iso-requires c =
    let P : PlainBody → Type 0 = λ b. HasBody b c.requires.0 in
    let made = subst P c.in-Iso.is c.requires.1 in
    record { packet = made.0; fits = made.2; same = made.3 ∙ sym c.as_slice-in-Iso.ensures }

pub returns-in-Iso-clause-lines : goal.returns-in-Iso-clause-lines
returns-in-Iso-clause-lines c e m before w =
    let P : PlainBody → Type 0 = λ b. HasBody b e in
    let made = subst P c.in-Iso.is m in
    let is : e ≡ Iso c.whole_iso.result = made.1 ∙ ap Iso (sym (c.whole_iso.ensures.same made.0 made.2 (made.3 ∙ sym c.as_slice-in-Iso.ensures))) in
    let L : Entry → Type 0 = λ x. OnOk c.put_iso.result (c.put_iso.new.self.told.text ≡ c.args.self.now.watch.told.text ++ watched before (at_cycle c.args.cycle x ∷ [])) in
    subst L (sym is) (c.put_iso.ensures.lines before w)

pub returns-in-Iso-clause-following : goal.returns-in-Iso-clause-following
returns-in-Iso-clause-following c e m before w =
    let P : PlainBody → Type 0 = λ b. HasBody b e in
    let made = subst P c.in-Iso.is m in
    let is : e ≡ Iso c.whole_iso.result = made.1 ∙ ap Iso (sym (c.whole_iso.ensures.same made.0 made.2 (made.3 ∙ sym c.as_slice-in-Iso.ensures))) in
    let L : Entry → Type 0 = λ x. OnOk c.put_iso.result (Watches c.put_iso.new.self (before ++ at_cycle c.args.cycle x ∷ [])) in
    subst L (sym is) (c.put_iso.ensures.following before w)

pub read_bus-requires : goal.read_bus-requires
read_bus-requires c =
    let P : PlainBody → Type 0 = λ b. HasBody b c.requires.0 in
    let made = subst P c.in-Reset.is c.requires.1 in
    (made.0, made.2, made.3 ∙ sym c.as_slice-in-Reset.ensures)

pub returns-in-Reset-clause-lines : goal.returns-in-Reset-clause-lines
returns-in-Reset-clause-lines c e m before w =
    let P : PlainBody → Type 0 = λ b. HasBody b e in
    let made = subst P c.in-Reset.is m in
    let B : ResetEntry → Type 0 = IsBusOf made.0 in
    let bus = subst B (sym c.deref.ensures) (c.read_bus.ensures made.0 made.2 (made.3 ∙ sym c.as_slice-in-Reset.ensures)) in
    let L : Entry → Type 0 = λ x. OnOk c.put_reset.result (c.put_reset.new.self.told.text ≡ c.args.self.now.watch.told.text ++ watched before (at_cycle c.args.cycle x ∷ [])) in
    subst L (sym made.1) (c.put_reset.ensures.lines made.0 bus before w)

pub returns-in-Reset-clause-following : goal.returns-in-Reset-clause-following
returns-in-Reset-clause-following c e m before w =
    let P : PlainBody → Type 0 = λ b. HasBody b e in
    let made = subst P c.in-Reset.is m in
    let B : ResetEntry → Type 0 = IsBusOf made.0 in
    let bus = subst B (sym c.deref.ensures) (c.read_bus.ensures made.0 made.2 (made.3 ∙ sym c.as_slice-in-Reset.ensures)) in
    let L : Entry → Type 0 = λ x. OnOk c.put_reset.result (Watches c.put_reset.new.self (before ++ at_cycle c.args.cycle x ∷ [])) in
    subst L (sym made.1) (c.put_reset.ensures.following made.0 bus before w)
