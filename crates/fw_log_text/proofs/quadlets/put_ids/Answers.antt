use Rattle.std.proofs.Common.{◌≡◌, ◌<◌, ◌*◌, ◌++◌, ◌∙◌, List, ℕ, length, flat_map, take, arith, ap, sym, append_assoc}
use Rattle.fw_words.specs.Quadlet.{quadlet_at}
use Rattle.fw_log_text.specs.Line.{id_text, quadlet_text}
use Rattle.fw_log_text.proofs.BodyLaws.{ids_next, length-spellings}
use Rattle.fw_log_text.proofs.quadlets.put_ids.Goals as goal

pub quadlet_at-requires : goal.quadlet_at-requires
quadlet_at-requires c = omega (arith, ap length c.requires, length-spellings c.args.ids.now, c.loop-i-test.true, c.loop-i.auto.i-end)

pub loop-i-preserved : goal.loop-i-preserved
loop-i-preserved c =
    let i : ℕ = c.loop-i.i in
    let within : i < length c.args.ids.now = omega (arith, c.loop-i-test.true, c.loop-i.auto.i-end) in
    let before : List ℕ = flat_map id_text (take i c.args.ids.now) in
    let q : c.quadlet_at.result.0 ≡ quadlet_at _ (8 * i) = c.quadlet_at.ensures.value ∙ ap (λ (b : List ℕ). quadlet_at b (8 * i)) c.requires in
    c.in_ok-put_quadlet.ensures ∙ ap (λ (t : List ℕ). t ++ quadlet_text c.quadlet_at.result.0) c.loop-i.invariant
    ∙ append_assoc c.args.text.now before (quadlet_text c.quadlet_at.result.0)
    ∙ ap (λ (x : List ℕ). c.args.text.now ++ x) (ap (λ (n : ℕ). before ++ quadlet_text n) q ∙ sym (ids_next c.args.ids.now i within))
