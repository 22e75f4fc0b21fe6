use Rattle.std.proofs.Common.{◌≡◌, ◌++◌, ◌∙◌, ◌≤◌, List, ℕ, length, take, arith, ap, refl, sym, append_assoc}
use Rattle.std.proofs.lemmas.List.{length-drop}
use Rattle.std.specs.Int.{from_be_bytes, w32}
use Rattle.fw_words.specs.Quadlet.{quadlet_at}
use Rattle.fw_log_text.specs.Line.{quadlet_text, quadlets_text}
use Rattle.fw_log_text.proofs.BodyLaws.{quadlets_then}
use Rattle.fw_log_text.proofs.rows.write_quadlets.Goals as goal

pub loop-four-preserved : goal.loop-four-preserved
loop-four-preserved c =
    let i = c.loop-four.invariant in
    let rest : List ℕ = c.loop-four.rest.now in
    let before : List ℕ = take c.loop-four.end c.loop-four.out in
    let q : c.word_from.result ≡ quadlet_text (quadlet_at rest 0) = c.word_from.ensures ∙ ap (λ (x : List ℕ). quadlet_text (from_be_bytes w32 x)) c.in-Some.ensures.cases.0 in
    let some : 4 ≤ length rest = c.in-Some.ensures.variant.0 refl in
    record {
      size = c.write_word.ensures.size ∙ i.size;
      end = omega (arith, i.end, some, ap length c.in-Some.ensures.cases.1, length-drop 4 rest);
      text = ap (λ t. t ++ quadlets_text c.in-Some.more.now) (c.write_word.ensures.text ∙ ap (λ (w : List ℕ). before ++ w) q)
          ∙ append_assoc before (quadlet_text (quadlet_at rest 0)) (quadlets_text c.in-Some.more.now)
          ∙ ap (λ t. before ++ (quadlet_text (quadlet_at rest 0) ++ quadlets_text t)) c.in-Some.ensures.cases.1
          ∙ ap (λ t. before ++ t) (sym (quadlets_then rest some)) ∙ i.text;
    }
