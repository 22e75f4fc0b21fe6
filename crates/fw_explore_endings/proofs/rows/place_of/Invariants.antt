use Rattle.std.proofs.Common.{◌≢◌, take}
use Rattle.std.specs.List.{All}
use Rattle.fw_explore_endings.specs.declared.rows.Row.{Row}
use Rattle.fw_explore_endings.proofs.rows.place_of.Given as goal

abbrev pub invariant-loop-place : goal.invariant-loop-place
invariant-loop-place l = All (λ (r : Row). r.ending.items ≢ l.ending) (take l.place l.list)
