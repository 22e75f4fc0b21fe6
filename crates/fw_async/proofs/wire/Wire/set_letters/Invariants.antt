use Rattle.fw_async.proofs.LetterLaws.{AreLaid}
use Rattle.fw_async.proofs.wire.Wire.set_letters.Given as goal

abbrev pub invariant-loop-node : goal.invariant-loop-node
invariant-loop-node l = AreLaid l.self l.letters l.node
