use Rattle.std.proofs.Common.{◌≡◌, take}
use Rattle.fw_dub.proofs.reel.Reel.copy_from.Given as goal

abbrev pub invariant-loop-block : goal.invariant-loop-block
invariant-loop-block l = l.self ≡ take l.block-index l.other
