use Rattle.fw_async.proofs.Common.{◌≡◌, ◌+◌, None, Some, sym, subst, ◌∙◌, common_steps, arith}
use Rattle.std.proofs.Common.{slice_index_or}
use Rattle.fw_async.specs.Wire.{Pairs}
use Rattle.fw_async.proofs.LetterLaws.{AreLaid, laid_one, laid_none}
use Rattle.fw_async.proofs.wire.Wire.set_letters.Goals.{in-Some, in_default}
use Rattle.fw_async.proofs.wire.Wire.set_letters.Goals as goal

pub loop-node-preserved : goal.loop-node-preserved
loop-node-preserved c =
    let letters = c.args.letters.now in
    let node = c.loop-node.node in
    let P : Pairs → Type 0 = λ t. AreLaid t letters (node + 1) in
    elim c.match-index.branch [
      | in-Some w ↦
          let at : slice_index_or letters node None ≡ Some w.in-Some.letter = grind (arith, common_steps) in
          subst P (sym (w.self-is ∙ w.put_letter.ensures)) (laid_one c.loop-node.self letters node w.in-Some.letter at c.loop-node.invariant)
      | in_default w ↦
          let at : slice_index_or letters node None ≡ None = grind (arith, common_steps) in
          subst P (sym w.self-is) (laid_none c.loop-node.self letters node at c.loop-node.invariant)
    ]
