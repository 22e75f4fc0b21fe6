use Rattle.std.proofs.Common.{◌≡◌, ◌++◌}
use Rattle.fw_explore_told.specs.Sayings.{said_of}
use Rattle.fw_explore_told.proofs.telling.put_said.Given as goal

abbrev pub invariant-loop-device : goal.invariant-loop-device
invariant-loop-device l = l.out.items ≡ l.fn.out.items ++ said_of l.device l.said
