use Rattle.std.proofs.Common.{◌≡◌, ◌++◌, take}
use Rattle.fw_explore_told.specs.Sayings.{said_by, test_of}
use Rattle.fw_explore_told.proofs.telling.put_whose.Given as goal

abbrev pub invariant-loop-told : goal.invariant-loop-told
invariant-loop-told l = l.out.items ≡ l.fn.out.items ++ said_by (test_of l.whose) (take l.told-index l.said)
