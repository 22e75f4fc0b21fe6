-- What a call did, by another answer of the same kind.
use Rattle.std.proofs.Common.{◌≡◌, refl, sym, subst, ℕ, List, ◌∷◌, [], arith}
use Rattle.std.specs.Prelude.{Ok, Err, IsErr}
use Rattle.std.specs.declared.result.Result.{Result}
use Rattle.fw_model_run.specs.Actions.{Action}
use Rattle.fw_model_run.specs.Carrying.{times}
use Rattle.fw_model_run.specs.Desks.{DeskRelations}
use Rattle.fw_bus_state.specs.Faults.{CountsFaults}
use Rattle.fw_bus_state.specs.Giving.{Sides}
use Rattle.fw_bus_state.specs.declared.machine.Machine.{Machine}
use Rattle.fw_bus_engine.specs.Framing.{PerformedWithDesk}
use Rattle.fw_bus_engine.specs.Performing.{Execution, Performed, Performs}

faults_ok : {T E U F : Type 0} {k l : ℕ} {u : T} {v : U} → CountsFaults {T = T} {E = E} k l (Ok u) → CountsFaults {T = U} {E = F} k l (Ok v)
faults_ok f = record { cause = record { later = f.cause.later; failed = tt }; same = f.same }

faults_err : {T E U F : Type 0} {k l : ℕ} {u : E} {v : F} → CountsFaults {T = T} {E = E} k l (Err u) → CountsFaults {T = U} {E = F} k l (Err v)
faults_err f = record { cause = record { later = f.cause.later; failed = f.cause.failed }; same = tt }

pub does_ok : {T E U F : Type 0} {P : Execution} {m now : Machine} {sides : Sides} {u : T} {v : U} → Performed {T = T} {E = E} P m now sides (Ok u) → Performed {T = U} {E = F} P m now sides (Ok v)
does_ok d = record { faults = faults_ok d.faults; shown = d.shown }

pub does_err : {T E U F : Type 0} {P : Execution} {m now : Machine} {sides : Sides} (q : Result T E) (r : Result U F) → IsErr q → IsErr r → Performed P m now sides q → Performed P m now sides r
does_err (Err u) (Err v) was is d = record { faults = faults_err d.faults; shown = d.shown }
does_err (Err u) (Ok v) was is d = let no : ⊥ = grind (arith, is) in absurd no
does_err (Ok u) r was is d = let no : ⊥ = grind (arith, was) in absurd no

pub desk_ok : {T E U F : Type 0} {D : DeskRelations} {P : Execution} {m now : Machine} {sides : Sides} {u : T} {v : U}
    → PerformedWithDesk {T = T} {E = E} D P m now sides (Ok u) → PerformedWithDesk {T = U} {E = F} D P m now sides (Ok v)
desk_ok d = record { faults = faults_ok d.faults; shown = d.shown }

pub desk_err : {T E U F : Type 0} {D : DeskRelations} {P : Execution} {m now : Machine} {sides : Sides} (q : Result T E) (r : Result U F) → IsErr q → IsErr r
    → PerformedWithDesk D P m now sides q → PerformedWithDesk D P m now sides r
desk_err (Err u) (Err v) was is d = record { faults = faults_err d.faults; shown = d.shown }
desk_err (Err u) (Ok v) was is d = let no : ⊥ = grind (arith, is) in absurd no
desk_err (Ok u) r was is d = let no : ⊥ = grind (arith, was) in absurd no

-- one action
once : (a : Action) → times 1 a ≡ a ∷ []
unfolding times
once a = refl

pub performed_once : {T E : Type 0} {m now : Machine} {sides : Sides} {r : Result T E} (a : Action) → Performed (Performs (a ∷ [])) m now sides r → Performed (Performs (times 1 a)) m now sides r
performed_once {m = m} {now} {sides} {r} a d = subst (λ xs. Performed (Performs xs) m now sides r) (sym (once a)) d
