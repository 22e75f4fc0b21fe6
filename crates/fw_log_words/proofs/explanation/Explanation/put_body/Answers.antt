use Rattle.std.proofs.Common.{◌++◌, List, ℕ, ap, sym, subst, ◌∙◌}
use Rattle.std.proofs.lemmas.Result.{on_ok_weaker}
use Rattle.fw_async.specs.Reader.{Spells}
use Rattle.fw_log_entry.specs.declared.entry.Entry.{Entry}
use Rattle.fw_log_entry.specs.declared.entry.Entry.TheVariants.{Iso}
use Rattle.fw_log.specs.Passing.{HasBody}
use Rattle.fw_log.specs.declared.plain.PlainBody.{PlainBody}
use Rattle.fw_log_explain.specs.Explained.{ExplainerState}
use Rattle.fw_log_explain.specs.Lines.{line}
use Rattle.fw_log_requests.specs.Requests.{standing_after}
use Rattle.fw_log_words.proofs.explanation.Explanation.put_body.Goals as goal

pub put_reset-requires : goal.put_reset-requires
put_reset-requires c =
    let P : PlainBody → Type 0 = λ b. HasBody b c.requires.0 in
    let made = subst P c.in-Reset.is c.requires.1 in
    record { reset = made.0; fits = made.2; same = made.3 ∙ sym c.as_slice-in-Reset.ensures }

pub returns-in-Reset-clause-line : goal.returns-in-Reset-clause-line
returns-in-Reset-clause-line c e m =
    let P : PlainBody → Type 0 = λ b. HasBody b e in
    let made = subst P c.in-Reset.is m in
    let old : ExplainerState = c.args.self.now.explainer in
    on_ok_weaker c.put_reset.result (λ l. l ∙ ap (λ (w : Entry). old.text ++ line old.requests (record { cycle = c.args.cycle; what = w })) (sym made.1))
    (c.put_reset.ensures.line made.0 made.2 (made.3 ∙ sym c.as_slice-in-Reset.ensures))

pub returns-in-Reset-clause-requests : goal.returns-in-Reset-clause-requests
returns-in-Reset-clause-requests c e m =
    let P : PlainBody → Type 0 = λ b. HasBody b e in
    let made = subst P c.in-Reset.is m in
    let old : ExplainerState = c.args.self.now.explainer in
    on_ok_weaker c.put_reset.result (λ l. l ∙ ap (λ (w : Entry). standing_after w old.requests) (sym made.1)) c.put_reset.ensures.requests

pub put_packet_from-requires : goal.put_packet_from-requires
put_packet_from-requires c =
    let P : PlainBody → Type 0 = λ b. HasBody b c.requires.0 in
    let made = subst P c.in-Packet.is c.requires.1 in
    let S : List ℕ → Type 0 = Spells made.0 in
    record { packet = made.0; spells = subst S (sym c.as_slice.ensures) made.2 }

pub returns-in-Packet-clause-line : goal.returns-in-Packet-clause-line
returns-in-Packet-clause-line c e m =
    let P : PlainBody → Type 0 = λ b. HasBody b e in
    let made = subst P c.in-Packet.is m in
    let S : List ℕ → Type 0 = Spells made.0 in
    let old : ExplainerState = c.args.self.now.explainer in
    on_ok_weaker c.put_packet_from.result (λ l. l ∙ ap (λ (w : Entry). old.text ++ line old.requests (record { cycle = c.args.cycle; what = w })) (sym made.1))
    (c.put_packet_from.ensures.line made.0 (subst S (sym c.as_slice.ensures) made.2))

pub returns-in-Packet-clause-requests : goal.returns-in-Packet-clause-requests
returns-in-Packet-clause-requests c e m =
    let P : PlainBody → Type 0 = λ b. HasBody b e in
    let made = subst P c.in-Packet.is m in
    let S : List ℕ → Type 0 = Spells made.0 in
    let old : ExplainerState = c.args.self.now.explainer in
    on_ok_weaker c.put_packet_from.result (λ l. l ∙ ap (λ (w : Entry). standing_after w old.requests) (sym made.1))
    (c.put_packet_from.ensures.requests made.0 (subst S (sym c.as_slice.ensures) made.2))

pub whole_iso-requires : goal.whole_iso-requires
whole_iso-requires c =
    let P : PlainBody → Type 0 = λ b. HasBody b c.requires.0 in
    let made = subst P c.in-Iso.is c.requires.1 in
    record { packet = made.0; fits = made.2; same = made.3 ∙ sym c.as_slice-in-Iso.ensures }

pub returns-in-Iso-clause-line : goal.returns-in-Iso-clause-line
returns-in-Iso-clause-line c e m =
    let P : PlainBody → Type 0 = λ b. HasBody b e in
    let made = subst P c.in-Iso.is m in
    let is = made.1 ∙ ap Iso (sym (c.whole_iso.ensures.same made.0 made.2 (made.3 ∙ sym c.as_slice-in-Iso.ensures))) in
    let old : ExplainerState = c.args.self.now.explainer in
    on_ok_weaker c.put_iso_from.result (λ l. l ∙ ap (λ (w : Entry). old.text ++ line old.requests (record { cycle = c.args.cycle; what = w })) (sym is))
    c.put_iso_from.ensures.line

pub returns-in-Iso-clause-requests : goal.returns-in-Iso-clause-requests
returns-in-Iso-clause-requests c e m =
    let P : PlainBody → Type 0 = λ b. HasBody b e in
    let made = subst P c.in-Iso.is m in
    let old : ExplainerState = c.args.self.now.explainer in
    on_ok_weaker c.put_iso_from.result (λ l. l ∙ ap (λ (w : Entry). standing_after w old.requests) (sym made.1)) c.put_iso_from.ensures.requests
