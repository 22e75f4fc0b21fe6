use Rattle.fw_async.proofs.Common.{◌≡◌, ap, length, sym, ◌∙◌, arith, common_steps}
use Rattle.fw_async.proofs.LetterLaws.{told_next, told_all}
use Rattle.fw_async.proofs.wire.Wire.has_letters.Goals as goal

pub loop-node-preserved : goal.loop-node-preserved
loop-node-preserved c = told_next c.args.self.now c.args.letters.now c.loop-node.node (grind (arith, common_steps, c.is_letter.ensures, c.standing.ensures.bytes)) c.loop-node.invariant

pub returns : goal.returns
returns c = λ found.
    let letters = c.args.letters.now in
    let node = c.loop-node.node in
    let all : length c.letters.inside.list.items ≡ node = omega (arith, c.letters.inside.list.ok.0, c.len-count.ensures, c.loop-node-test.false, c.loop-node.auto.node-end) in
    told_all c.args.self.now letters node (ap length (sym c.letters.view_is) ∙ all)
    (λ m more. c.end.ensures.none m (omega (arith, more, c.if-end-count.false, c.loop-node-test.false))) c.loop-node.invariant
