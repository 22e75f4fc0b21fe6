use Rattle.fw_async.proofs.Common.{◌≡◌, length}
use Rattle.fw_async.proofs.LetterLaws.{AreTold}
use Rattle.fw_async.proofs.wire.Wire.letters.Given as goal

abbrev pub invariant-loop-node : goal.invariant-loop-node
invariant-loop-node l = (length l.list.items ≡ l.node) × AreTold l.self l.list.items l.node
