use Rattle.fw_holders.proofs.Common.{◌≡◌, ◌++◌, OnOk, Option, Some, None, List, ℕ, Bool, sym, ◌∙◌, ap, subst, append-nil, device_of_id, ResetEntry, Replies, StandsFor, Tables, packet_told, nodes_of}
use Rattle.fw_holders.proofs.Common.{line_of}
use Rattle.std.proofs.Common.{option_map}
use Rattle.fw_holders_text.specs.declared.deed.Deed.{Deed}
use Rattle.fw_holders.specs.Found.{answer_deed}
use Rattle.fw_holders_text.specs.Deeds.{done_text}
use Rattle.fw_holders.proofs.ReplyLaws.{response_tells}
use Rattle.fw_holders.proofs.lines.put_answer.Goals as goal

not_none : {X : Type 0} (x : X) → None ≡ Some x → ⊥
not_none x e = cc

same_some : {X : Type 0} (x y : X) → Some x ≡ Some y → x ≡ y
same_some x y e = cc

pub returns-in_default-clause-text : goal.returns-in_default-clause-text
returns-in_default-clause-text c = λ l k r s h is e w.
    let a = c.args.answer.now in
    let shown : StandsFor c.tables-tables.result.now k = subst (λ (t : Tables). StandsFor t k) (sym c.tables-tables.ensures.same) h in
    let x = response_tells l k r a s is w e in
    let none : answer_deed l.latest w.request a.rcode a.shown ≡ None =
    ap (λ (o : Option ResetEntry). answer_deed o w.request a.rcode a.shown) (sym x.latest) ∙ sym (c.deed_of.ensures k w.request shown w.asked) ∙ c.in_default.is in
    let told : packet_told l (Replies r) ≡ None = x.text ∙ ap (λ (o : Option Deed). option_map (done_text (nodes_of l.latest) l.reclaiming w.answer.controller) o) none in
    subst (λ (o : Option (List ℕ)). c.args.text.now.items ≡ c.args.text.now.items ++ line_of c.args.cycle o (Some k)) (sym told) (sym (append-nil c.args.text.now.items))

pub returns-in-None-clause-text : goal.returns-in-None-clause-text
returns-in-None-clause-text c = λ l k r s h is e w.
    let a = c.args.answer.now in
    let shown : StandsFor c.tables-tables.result.now k = subst (λ (t : Tables). StandsFor t k) (sym c.tables-tables.ensures.same) h in
    let x = response_tells l k r a s is w e in
    let there : c.device.result ≡ Some w.answer.controller =
    c.device.ensures.device k h ∙ ap (λ (o : Option ResetEntry). device_of_id o a.requester) x.latest ∙ ap (λ (n : ℕ). device_of_id l.latest n) w.requester ∙ w.answer.device in
    absurd (not_none w.answer.controller (sym c.in-None.is ∙ there))

pub returns-in-Some-device-clause-text : goal.returns-in-Some-device-clause-text
returns-in-Some-device-clause-text c = λ l k r s h is e w.
    let a = c.args.answer.now in
    let shown : StandsFor c.tables-tables.result.now k = subst (λ (t : Tables). StandsFor t k) (sym c.tables-tables.ensures.same) h in
    let x = response_tells l k r a s is w e in
    let d = c.in-Some.deed in
    let there : c.device.result ≡ Some w.answer.controller =
    c.device.ensures.device k h ∙ ap (λ (o : Option ResetEntry). device_of_id o a.requester) x.latest ∙ ap (λ (n : ℕ). device_of_id l.latest n) w.requester ∙ w.answer.device in
    let same : c.in-Some-device.controller ≡ w.answer.controller = same_some c.in-Some-device.controller w.answer.controller (sym c.in-Some-device.is ∙ there) in
    let found : answer_deed l.latest w.request a.rcode a.shown ≡ Some d =
    ap (λ (o : Option ResetEntry). answer_deed o w.request a.rcode a.shown) (sym x.latest) ∙ sym (c.deed_of.ensures k w.request shown w.asked) ∙ c.in-Some.is in
    let told : packet_told l (Replies r) ≡ Some (done_text (nodes_of l.latest) l.reclaiming w.answer.controller d) =
    x.text ∙ ap (λ (o : Option Deed). option_map (done_text (nodes_of l.latest) l.reclaiming w.answer.controller) o) found in
    let what : Some (done_text (nodes_of k.latest) k.reclaiming c.in-Some-device.controller d) ≡ packet_told l (Replies r) =
    ap (λ (o : Option ResetEntry). Some (done_text (nodes_of o) k.reclaiming c.in-Some-device.controller d)) x.latest
    ∙ ap (λ (b : Bool). Some (done_text (nodes_of l.latest) b c.in-Some-device.controller d)) x.reclaiming
    ∙ ap (λ (n : ℕ). Some (done_text (nodes_of l.latest) l.reclaiming n d)) same
    ∙ sym told in
    subst (λ (o : Option (List ℕ)). OnOk c.put_done_line.result (c.put_done_line.new.text.items ≡ c.args.text.now.items ++ line_of c.args.cycle o (Some k))) what (c.put_done_line.ensures.text k shown)
