-- One call after another with what a desk gives, and what was cut off.
use Rattle.fw_bus_engine.proofs.Common.{ℕ, List, [], ◌∷◌, ◌++◌, Option, sym, subst, append_assoc, arith, Ok, Err, IsErr, Result, Timed, Action, Transitions, DeskRelations, IsGood, State, steps_then}
use Rattle.fw_bus_engine.proofs.Common.{steps_good, Machine, PerformedWhere, between, Execution, StandsFor}
use Rattle.fw_model_run.proofs.Given.{given_then}
use Rattle.fw_bus_engine.proofs.OneAction.{grew_then, prefix_then_prefix, parts_then, faults_then}
use Rattle.fw_bus_engine.proofs.Doings.{Follows, GoesOn}

-- ---- one after another

-- what is known of the state that the one leads to
abbrev pub LeadsTo : Machine → (State → Type 0) → Execution → (State → Type 0) → Type 0
LeadsTo m A P B = (s t : State) (xs : List Action) (out : List Timed) → IsGood s → StandsFor m s → A s → P s xs out t → Transitions s xs out t → B t

pub where_then : {T E U F : Type 0} {A B : State → Type 0} {D : DeskRelations} {P Q R : Execution}
    {m mid now : Machine} {a b c : Option (List ℕ)} {k l n : ℕ} {u : T} (r : Result U F)
    → Follows m P Q R → LeadsTo m A P B → PerformedWhere {T = T} {E = E} A D P m mid (between a b k l) (Ok u) → PerformedWhere B D Q mid now (between b c l n) r
    → PerformedWhere A D R m now (between a c k n) r
where_then {D = D} {a = a} {b} {c} {k} {l} {n} (Ok w) follows leads f g = record {
  faults = faults_then k l n (Ok w) f.faults.same g.faults;
  shown = λ s good st known.
      let x = f.shown s good st known in
      let y = g.shown x.state (steps_good s x.state x.actions x.out good x.steps) x.stands (leads s x.state x.actions x.out good st known x.whole.0 x.steps) in
      record {
        actions = x.actions ++ y.actions;
        out = x.out ++ y.out;
        state = y.state;
        whole = (
          follows s x.state y.state x.actions y.actions x.out y.out good st x.whole.0 x.steps y.whole.0 y.steps,
          given_then D x.actions y.actions x.whole.1 y.whole.1,
        );
        steps = steps_then s x.state y.state x.actions y.actions x.out y.out x.steps y.steps;
        stands = y.stands;
        grew = grew_then s x.state x.actions x.out y.out a b c good x.steps x.grew y.grew;
      };
}
where_then {D = D} {R = R} {a = a} {b} {c} {k} {l} {n} (Err w) follows leads f g = record {
  faults = faults_then k l n (Err w) f.faults.same g.faults;
  shown = λ s good st known.
      let x = f.shown s good st known in
      let z = g.shown x.state (steps_good s x.state x.actions x.out good x.steps) x.stands (leads s x.state x.actions x.out good st known x.whole.0 x.steps) in
      let y = z.0 in
      let assoc = append_assoc x.actions y.done y.later in (
        record {
          done = x.actions ++ y.done;
          later = y.later;
          all = x.out ++ y.all;
          last = y.last;
          whole = subst (λ z. R s z (x.out ++ y.all) y.last) (sym assoc)
              (follows s x.state y.last x.actions (y.done ++ y.later) x.out y.all good st x.whole.0 x.steps y.whole y.goes);
          goes = subst (λ z. Transitions s z (x.out ++ y.all) y.last) (sym assoc)
              (steps_then s x.state y.last x.actions (y.done ++ y.later) x.out y.all x.steps y.goes);
          given = x.out ++ y.given;
          next = y.next;
          state = y.state;
          steps = subst (λ z. Transitions s (x.actions ++ y.done) z y.state) (sym (append_assoc x.out y.given (y.next ∷ [])))
              (steps_then s x.state y.state x.actions y.done x.out (y.given ++ y.next ∷ []) x.steps y.steps);
          prefix = y.prefix;
          rest = y.rest;
          parts = parts_then s x.state x.actions x.out y.given y.next (y.prefix ++ y.rest) good x.steps y.parts;
          appended = prefix_then_prefix s x.state x.actions x.out y.given y.prefix a b c good x.steps x.grew y.appended;
        },
        given_then D x.actions y.done x.whole.1 z.1,
      );
}

-- ---- what was cut off

-- what was done could have been gone on with, whatever a desk gives
pub where_cut : {U F V G : Type 0} {A : State → Type 0} {D : DeskRelations} {P R : Execution}
    {m now last : Machine} {a b : Option (List ℕ)} {k l : ℕ} (q : Result U F) (r : Result V G)
    → GoesOn m P R → IsErr q → IsErr r → PerformedWhere A D P m now (between a b k l) q → PerformedWhere A D R m last (between a b k l) r
where_cut (Ok u) r on is was f = let no : ⊥ = grind (arith, is) in absurd no
where_cut (Err u) (Ok v) on is was f = let no : ⊥ = grind (arith, was) in absurd no
where_cut {R = R} (Err u) (Err v) on is was f = record {
  faults = record { cause = record { later = f.faults.cause.later; failed = f.faults.cause.failed }; same = tt };
  shown = λ s good st known.
      let z = f.shown s good st known in
      let y = z.0 in
      let x = on s y.last (y.done ++ y.later) y.all good st y.whole y.goes in
      let assoc = append_assoc y.done y.later x.0 in (
        record {
          done = y.done;
          later = y.later ++ x.0;
          all = y.all ++ x.1;
          last = x.2;
          whole = subst (λ z. R s z (y.all ++ x.1) x.2) assoc x.3;
          goes = subst (λ z. Transitions s z (y.all ++ x.1) x.2) assoc (steps_then s y.last x.2 (y.done ++ y.later) x.0 y.all x.1 y.goes x.4);
          given = y.given;
          next = y.next;
          state = y.state;
          steps = y.steps;
          prefix = y.prefix;
          rest = y.rest;
          parts = y.parts;
          appended = y.appended;
        },
        z.1,
      );
}
