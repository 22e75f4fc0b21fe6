use Rattle.std.proofs.Common.{◌≡◌, ◌++◌, ◌∙◌, ◌≤◌, List, ℕ, length, ap, refl, sym, append_assoc}
use Rattle.std.specs.Int.{from_be_bytes, w32}
use Rattle.fw_words.specs.Quadlet.{quadlet_at}
use Rattle.fw_text.specs.Texts.{quadlet_text, quadlets_text}
use Rattle.fw_text.proofs.BodyLaws.{quadlets_then}
use Rattle.fw_log_names.proofs.hex.put_quadlets.Goals as goal

pub loop-four-preserved : goal.loop-four-preserved
loop-four-preserved c =
    let rest : List ℕ = c.loop-four.rest.now in
    let q : c.get_quadlet.result.0 ≡ quadlet_at rest 0 = c.get_quadlet.ensures.value ∙ ap (from_be_bytes w32) c.in-Some.ensures.cases.0 in
    let some : 4 ≤ length rest = c.in-Some.ensures.variant.0 refl in
    ap (λ (t : List ℕ). t ++ quadlets_text c.in-Some.more.now) (c.in_ok-put_quadlet.ensures ∙ ap (λ (n : ℕ). c.loop-four.text.items ++ quadlet_text n) q)
    ∙ append_assoc c.loop-four.text.items (quadlet_text (quadlet_at rest 0)) (quadlets_text c.in-Some.more.now)
    ∙ ap (λ (t : List ℕ). c.loop-four.text.items ++ (quadlet_text (quadlet_at rest 0) ++ quadlets_text t)) c.in-Some.ensures.cases.1
    ∙ ap (λ (t : List ℕ). c.loop-four.text.items ++ t) (sym (quadlets_then rest some)) ∙ c.loop-four.invariant
