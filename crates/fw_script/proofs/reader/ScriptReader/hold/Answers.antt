use Rattle.std.proofs.Common.{◌≡◌, ℕ, ◌++◌, ◌-◌, List, length, take, drop, arith, rules, ap, sym, ◌∙◌, subst}
use Rattle.std.proofs.lemmas.List.{take_rest}
use Rattle.fw_script.specs.Reader.{IsNear}
use Rattle.fw_script.specs.Reading.{Reading}
use Rattle.fw_script.proofs.LineLaws.{near_taken}
use Rattle.fw_script.proofs.reader.ScriptReader.hold.Goals as goal

pub invariant_of-self : goal.invariant_of-self
invariant_of-self c =
    let at : ℕ = c.self.inside.at in
    let bytes : List ℕ = c.deref.result.now in
    let text : c.as_slice-3.result.now ≡ c.as_slice.result.now = c.as_slice-3.ensures.value ∙ sym c.as_slice.ensures.value in
    let long : length c.as_slice-3.result.now ≡ length c.as_slice.result.now = ap (λ (l : List ℕ). length l) text in
    let prefix : c.as_slice-2.result.now ≡ c.args.self.now.rest =
    c.as_slice-2.ensures.value ∙ c.append-2.ensures ∙ ap (λ (l : List ℕ). l ++ take (length bytes - at) (drop at bytes)) c.new-prefix.ensures
    ∙ take_rest bytes at ∙ ap (λ (l : List ℕ). drop at l) c.deref.ensures.value ∙ ap (λ (p : Reading). p.rest) c.self.view_is in
    let held : drop (length c.as_slice-3.result.now) c.refill.new.bytes.items ≡ c.args.self.now.rest ++ c.args.piece.now =
    ap (λ (l : List ℕ). drop (length l) c.refill.new.bytes.items) text ∙ c.refill.ensures.rest ∙ ap (λ (l : List ℕ). l ++ c.args.piece.now) prefix in
    let near = subst (λ (l : List ℕ). IsNear l) (sym held) (near_taken c.args.self.now c.args.piece.now c.requires.cut c.requires.few) in
    (omega (arith, long, c.refill.ensures.len), search rules, near, search rules, search rules, search rules, omega (arith, long, c.refill.ensures.len), search rules)
