use Rattle.fw_async.proofs.Common.{arith}
use Rattle.fw_async.proofs.LetterLaws.{told_all}
use Rattle.fw_async.proofs.wire.Wire.letters.Goals as goal

pub returns : goal.returns
returns c =
    let told = c.loop-node.invariant in
    told_all c.args.self.now c.loop-node.list.items c.loop-node.node told.0 (λ m more. c.end-node-end.ensures.none m (omega (arith, more, c.loop-node-test.false))) told.1
