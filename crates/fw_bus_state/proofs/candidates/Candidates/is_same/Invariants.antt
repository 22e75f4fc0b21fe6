use Rattle.fw_bus_state.proofs.Common.{◌≡◌, take}
use Rattle.fw_bus_state.proofs.candidates.Candidates.is_same.Given as goal

abbrev pub invariant-loop-n : goal.invariant-loop-n
invariant-loop-n l = take l.n l.self.list ≡ take l.n l.other.list
