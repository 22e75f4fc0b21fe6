use Rattle.std.proofs.Common.{ℕ, ◌<◌, ◌≤◌, take}
use Rattle.std.specs.List.{All}
use Rattle.fw_explore_told.specs.Sayings.{IsNotOf}
use Rattle.fw_explore_told.proofs.telling.end_of.Given as goal

abbrev pub invariant-loop-told : goal.invariant-loop-told
invariant-loop-told l = record {
  few : l.end ≤ 63;
  others : (d : ℕ) → l.end ≤ d → d < 63 → All (IsNotOf d) (take l.told-index l.said);
}
