use Rattle.std.proofs.Common.{◌≡◌, ◌++◌, take}
use Rattle.fw_explore_told.specs.Sayings.{unmarked_from}
use Rattle.fw_explore_told.proofs.telling.put_left.Given as goal

abbrev pub invariant-loop-at : goal.invariant-loop-at
invariant-loop-at l = l.out.items ≡ l.fn.out.items ++ unmarked_from l.done 0 (take l.at l.movers)
