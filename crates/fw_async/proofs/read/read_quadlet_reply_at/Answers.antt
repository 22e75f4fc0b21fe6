use Rattle.fw_async.proofs.Common.{rules, ℕ, ◌<◌, [], ◌∷◌, slice_index, arith, refl, ap, ◌∙◌, quadlet_at}
use Rattle.fw_async.proofs.KindLaws.{response_at}
use Rattle.fw_async.proofs.read.read_quadlet_reply_at.Goals as goal

pub returns : goal.returns
returns c =
    let fit = λ (i : ℕ). let x : slice_index c.args.bytes.now i < 256 = omega (arith, c.type_inv.bytes i) in x in
    record {
      fits = search rules;
      quadlets = response_at 6 c.args.bytes.now c.head_at.result c.rcode_at.result (c.quadlet_at.result.0 ∷ []) fit c.requires.kind c.head_at.ensures.first c.head_at.ensures.source c.rcode_at.ensures
          (c.requires.sound.response refl)
          ∙ ap (λ t. quadlet_at c.args.bytes.now 0 ∷ quadlet_at c.args.bytes.now 4 ∷ quadlet_at c.args.bytes.now 8 ∷ t) (ap (λ q. q ∷ []) c.quadlet_at.ensures.value);
      rest = search rules;
    }
