use Rattle.fw_async.proofs.Common.{arith}
use Rattle.fw_async.proofs.SenderLaws.{no_member}
use Rattle.fw_async.proofs.senders.end_of.Goals as goal

pub returns : goal.returns
returns c = λ sender beyond. no_member sender c.args.senders.now (λ i less is. let low = c.loop-n.invariant i (omega (arith, less, c.loop-n-test.false)) in absurd (omega (arith, low, is, beyond)))
