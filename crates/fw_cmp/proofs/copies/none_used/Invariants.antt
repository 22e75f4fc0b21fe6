use Rattle.fw_cmp.proofs.Common.{◌≡◌, IsTrue, take}
use Rattle.fw_cmp.proofs.copies.none_used.Given as goal

abbrev pub invariant-loop-n : goal.invariant-loop-n
invariant-loop-n l = IsTrue l.free → take l.from l.slots ≡ take l.from l.others → take l.n l.slots ≡ take l.n l.others
