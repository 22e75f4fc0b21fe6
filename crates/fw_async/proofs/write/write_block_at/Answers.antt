use Rattle.fw_async.proofs.Common.{rules, ℕ, ◌<◌, [], ◌∷◌, slice_index, length, arith, refl, ap, sym, ◌∙◌, quadlet_at, size}
use Rattle.fw_async.proofs.KindLaws.{request_at, size_at}
use Rattle.fw_async.proofs.write.write_block_at.Goals as goal

pub returns : goal.returns
returns c =
    let fit = λ (i : ℕ). let x : slice_index c.args.bytes.now i < 256 = omega (arith, c.type_inv.bytes i) in x in
    record {
      fits = search rules;
      quadlets = request_at 1 c.args.bytes.now c.head_at.result c.offset_at.result
          (size (length c.block_at.result) 0 ∷ []) fit c.requires.kind c.head_at.ensures.first c.head_at.ensures.source c.offset_at.ensures.high c.offset_at.ensures.low
          ∙ ap (λ t. quadlet_at c.args.bytes.now 0 ∷ quadlet_at c.args.bytes.now 4 ∷ quadlet_at c.args.bytes.now 8 ∷ t)
          (size_at c.args.bytes.now (length c.block_at.result) 0 fit c.block_at.ensures.size (sym (c.requires.sound.block refl).0));
      rest = c.block_at.ensures.value;
    }
