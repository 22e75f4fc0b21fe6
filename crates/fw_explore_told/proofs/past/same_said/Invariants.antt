use Rattle.std.proofs.Common.{◌≡◌, take}
use Rattle.fw_explore_told.proofs.past.same_said.Given as goal

abbrev pub invariant-loop-n : goal.invariant-loop-n
invariant-loop-n l = take l.n l.said ≡ take l.n l.other
