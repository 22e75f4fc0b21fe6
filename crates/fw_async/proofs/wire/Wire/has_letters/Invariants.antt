use Rattle.fw_async.proofs.LetterLaws.{AreTold}
use Rattle.fw_async.proofs.wire.Wire.has_letters.Given as goal

abbrev pub invariant-loop-node : goal.invariant-loop-node
invariant-loop-node l = AreTold l.self l.letters l.node
