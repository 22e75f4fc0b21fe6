use Rattle.fw_cmp.proofs.Common.{◌≡◌, take}
use Rattle.fw_cmp.proofs.copies.are_same.Given as goal

abbrev pub invariant-loop-n : goal.invariant-loop-n
invariant-loop-n l = take l.from l.slots ≡ take l.from l.others → take l.n l.slots ≡ take l.n l.others
