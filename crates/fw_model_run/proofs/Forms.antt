-- The deeds whose form the state decides: what holds of each form holds of the deed.
use Rattle.fw_model_run.proofs.Common.{ℕ, List, [], ◌∷◌, Bool, true, false, DeviceKind, ResetEntry, State, is_deaf, is_on, after_half, counted, half, with_topology}
use Rattle.fw_tree.specs.declared.facts.End.{End}
use Rattle.fw_model_run.specs.Afterwards.{beginning, counting}
use Rattle.fw_model_run.specs.BusDeeds.{declaring, declaring_beside, joining, joining_ends, with_declared}
use Rattle.fw_model_run.specs.ControllerDeeds.{MayStep, stepping, stepping_as}
use Rattle.fw_model_run.specs.Deed.{Deed, reset_by, silent}
use Rattle.fw_model_run.specs.Found.{FoundBefore, FoundBetween, FoundCable, FoundInHalf}
use Rattle.fw_model_run.specs.HalfSteps.{is_waiting}

-- the first device begins a bus reset, any other none
pub of_declaring : (P : Deed → Type 0) (s : State) (name : List ℕ) (kind : DeviceKind) (ports speed : ℕ) (found : FoundBefore s.declared.names)
    → ((may : Type 0) (e : ResetEntry) → P (reset_by (beginning (with_declared s name kind ports speed)) may e)) → ((may : Type 0) → P (silent s may (with_declared s name kind ports speed)))
    → P (declaring s name kind ports speed found)
of_declaring P s name kind ports speed found begins adds = go s.declared.names found
  where
    go : (names : List (List ℕ)) (f : FoundBefore names) → P (declaring_beside names s name kind ports speed f)
    go [] e = begins _ e
    go (x ∷ names) f = adds _

-- a cable begins one, or none
pub of_joining : (P : Deed → Type 0) (s : State) (a b : End) (found : FoundCable (is_on s a.device) (is_on s b.device))
    → ((may : Type 0) (e : ResetEntry) → P (reset_by (counting (with_topology s found.topology)) may e)) → ((may : Type 0) → P (silent s may (with_topology s found.topology)))
    → P (joining s a b found)
of_joining P s a b found begins adds = go (is_on s a.device) (is_on s b.device) found.begun
  where
    go : (one other : Bool) (f : FoundBetween one other) → P (joining_ends one other s a b found.topology f)
    go true false e = begins _ e
    go false true e = begins _ e
    go true true f = adds _
    go false false f = adds _

-- a half step is one of a controller that hears, of one that waits for the end of its split timeout, or of one that forces a bus reset
pub of_stepping : (P : Deed → Type 0) (s : State) (d : ℕ) (found : FoundInHalf (is_deaf s d) (is_waiting s d))
    → P (record { may = MayStep s d; cycle = s.clock.cycle; says = (half s d).says; after = counted (after_half s d) 1 }) → P (silent s (MayStep s d) (counted s 1))
    → ((may : Type 0) (e : ResetEntry) → P (reset_by (counted s 1) may e)) → P (stepping s d found)
of_stepping P s d found hears waits forces = go (is_deaf s d) (is_waiting s d) found
  where
    go : (deaf waiting : Bool) (f : FoundInHalf deaf waiting) → P (stepping_as deaf waiting s d f)
    go false waiting f = hears
    go true true f = waits
    go true false e = forces _ e
