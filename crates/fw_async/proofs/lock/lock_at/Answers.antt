use Rattle.fw_async.proofs.Common.{rules, ℕ, ◌<◌, [], ◌∷◌, slice_index, length, arith, refl, ap, ◌∙◌, field, quadlet_at, size}
use Rattle.fw_async.proofs.KindLaws.{request_at, size_at, all_there, lock_most}
use Rattle.fw_async.proofs.lock.lock_at.Goals as goal

pub function_at-requires : goal.function_at-requires
function_at-requires c = (all_there (length c.args.bytes.now) (field (quadlet_at c.args.bytes.now 12) 0 15) c.requires.begun c.requires.all).0

pub overflow_cast-result : goal.overflow_cast-result
overflow_cast-result c = omega (arith, (c.requires.sound.lock refl).1, c.function_at.ensures)

pub data_at-requires : goal.data_at-requires
data_at-requires c =
    let there = all_there (length c.args.bytes.now) (field (quadlet_at c.args.bytes.now 12) 0 15) c.requires.begun c.requires.all in
    (omega arith, (there.0, (lock_most (field (quadlet_at c.args.bytes.now 12) 16 31) (field (quadlet_at c.args.bytes.now 12) 0 15) (c.requires.sound.lock_request refl), there.1)))

pub returns : goal.returns
returns c =
    let fit = λ (i : ℕ). let x : slice_index c.args.bytes.now i < 256 = omega (arith, c.type_inv.bytes i) in x in
    record {
      fits = search rules;
      quadlets = request_at 9 c.args.bytes.now c.head_at.result c.offset_at.result
          (size (length c.data_at.result) c.function_at.result ∷ []) fit c.requires.kind c.head_at.ensures.first c.head_at.ensures.source c.offset_at.ensures.high c.offset_at.ensures.low
          ∙ ap (λ t. quadlet_at c.args.bytes.now 0 ∷ quadlet_at c.args.bytes.now 4 ∷ quadlet_at c.args.bytes.now 8 ∷ t)
          (size_at c.args.bytes.now (length c.data_at.result) c.function_at.result fit c.data_at.ensures.size c.function_at.ensures);
      rest = c.data_at.ensures.value;
    }
