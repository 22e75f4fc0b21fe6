-- The steps that led to places first, as paths: each is that of the place before it, and one move more.
use Rattle.std.specs.Prelude.{ℕ, ◌<◌, ◌+◌, List, [], ◌∷◌, ◌++◌, length, slice_index_or}
use Rattle.fw_explore_levels.specs.declared.steps.PathStep.{PathStep}

-- the paths with those of more steps
abbrev pub paths_on : List (List ℕ) → List PathStep → List (List ℕ)
paths_on paths [] = paths
paths_on paths (s ∷ steps) = paths_on (paths ++ (slice_index_or paths s.before [] ++ s.mover ∷ []) ∷ []) steps

-- number 0 is the empty path
abbrev pub paths_of : List PathStep → List (List ℕ)
paths_of steps = paths_on ([] ∷ []) steps

-- each step comes after the one before it
abbrev pub AreSteps : List PathStep → Type 0
AreSteps steps = (k : ℕ) (d : PathStep) → k < length steps → (slice_index_or steps k d).before < k + 1
