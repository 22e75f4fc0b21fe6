-- Orders, by the actions that carry them out, with what a desk gives.
use Rattle.fw_bus_engine.proofs.Common.{◌≡◌, ℕ, List, Option, Some, refl, ap, sym, subst, Ok, Err}
use Rattle.fw_bus_engine.proofs.Common.{Result, Timed, at_most, State, entered, Action, Transitions, Carries, DeskRelations, PerformedWithDesk, Machine}
use Rattle.fw_bus_engine.proofs.Common.{between, Performs, Performed, TakesAction}
use Rattle.fw_log_entry.specs.declared.entry.Entry.TheVariants.{End as EndEntry}
use Rattle.fw_order.specs.declared.order.Order.{Order}
use Rattle.fw_model_run.specs.Actions.{Finish}
use Rattle.fw_model_run.specs.Given.{AsksNoDesk}
use Rattle.fw_model_run.proofs.Given.{carries_given, given_append}
use Rattle.fw_bus_engine.specs.Framing.{CarriesWithDesk}
use Rattle.fw_bus_engine.proofs.OneAction.{does_as}

-- if all that was to be done is what the desk gives, so is what was done
pub given_prefix : {T E : Type 0} {D : DeskRelations} {m now : Machine} {a b : Option (List ℕ)} {k l : ℕ} {r : Result T E} (o : Order)
    → Performed (CarriesWithDesk D o) m now (between a b k l) r → PerformedWithDesk D (λ s. Carries s o) m now (between a b k l) r
given_prefix {r = Ok u} o d = record { faults = d.faults; shown = λ s g st. d.shown s g st }
given_prefix {D = D} {r = Err u} o d = record {
  faults = d.faults;
  shown = λ s g st. let x = d.shown s g st in (
    record {
      done = x.done;
      later = x.later;
      all = x.all;
      last = x.last;
      whole = x.whole.0;
      goes = x.goes;
      given = x.given;
      next = x.next;
      state = x.state;
      steps = x.steps;
      prefix = x.prefix;
      rest = x.rest;
      parts = x.parts;
      appended = x.appended;
    },
    (given_append D x.done x.later x.whole.1).0,
  );
}

-- an order in whose course no desk is asked, once it is known which one it is
pub by_desk : {T E : Type 0} {D : DeskRelations} {m now : Machine} {a b : Option (List ℕ)} {k l : ℕ} {r : Result T E} {order o : Order}
    → order ≡ o → AsksNoDesk o → Performed (λ s. Carries s o) m now (between a b k l) r → PerformedWithDesk D (λ s. Carries s order) m now (between a b k l) r
by_desk {D = D} {m} {now} {a} {b} {k} {l} {r} {o = o} is free d =
    subst (λ x. PerformedWithDesk D (λ s. Carries s x) m now (between a b k l) r) (sym is) (given_prefix o (does_as (λ s t ys out p. (p, carries_given D s o ys out t free p)) d))

-- one that is carried out by these actions
pub carried : {T E : Type 0} {D : DeskRelations} {m now : Machine} {a b : Option (List ℕ)} {k l : ℕ} {r : Result T E} {order o : Order} (xs : List Action)
    → order ≡ o → AsksNoDesk o → ((s t : State) (out : List Timed) → Transitions s xs out t → Carries s o xs out t) → Performed (Performs xs) m now (between a b k l) r
    → PerformedWithDesk D (λ s. Carries s order) m now (between a b k l) r
carried {o = o} xs is free by d = by_desk is free (does_as (λ s t ys out p. subst (λ z. Carries s o z out t) (sym p.0) (by s t out p.1)) d)

-- the end of the log
pub finish_turns : (m : Machine) → TakesAction Finish m m m.cycle (Some EndEntry)
finish_turns m = record {
  shown = λ s g st. (
    record s { account = entered s.account EndEntry },
    record { found = tt; waits = st.answered; may = tt; out_is = ap (λ c. at_most c (Some EndEntry)) st.clock.cycle; state_is = refl },
    st,
  );
}
