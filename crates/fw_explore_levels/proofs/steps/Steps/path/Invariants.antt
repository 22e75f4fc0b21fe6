use Rattle.std.proofs.Common.{◌≡◌, ◌<◌, [], ◌++◌, length, get_or, reverse}
use Rattle.fw_explore_levels.specs.Steps.{paths_of}
use Rattle.fw_explore_levels.proofs.steps.Steps.path.Given as goal

abbrev pub invariant-loop-at : goal.invariant-loop-at
invariant-loop-at l =
    (l.at < length (paths_of l.self-inside.list.items)) × (get_or (paths_of l.self-inside.list.items) l.step [] ≡ get_or (paths_of l.self-inside.list.items) l.at [] ++ reverse l.moves.items)

abbrev pub decreases-loop-at : goal.decreases-loop-at
decreases-loop-at l = l.at
