-- What was done with what a desk gave: one call after another.
use Rattle.fw_bus_engine.proofs.Common.{ℕ, List, [], ◌∷◌, ◌++◌, Option, Some, refl, ap, sym, ◌∙◌, ◌≡◌, Ok, Err, Result, Grows-nothing, at_plug, Entry, Timed, epoch_after, entry_bytes, Two, Action}
use Rattle.fw_bus_engine.proofs.Common.{Transition, Transitions, DeskRelations, at_cycle, at_most, GivesEntry, IsGood, State, Machine, PerformedWhere, between, Recording, Execution, Performed}
use Rattle.fw_bus_engine.proofs.Common.{CountsFaults, PerformedWithDesk, StandsFor}
use Rattle.fw_model_run.specs.Actions.{SendPacket}
use Rattle.fw_model_run.specs.Given.{IsGiven, AreGiven}
use Rattle.fw_model_run.specs.Streams.{GivenBlock, bytes_of}
use Rattle.fw_model_run.proofs.Given.{given_append}
use Rattle.fw_bus_engine.specs.Cycling.{SendsHeard}
use Rattle.fw_bus_state.specs.Recording.{hearing_of}
use Rattle.fw_bus_engine.proofs.OneAction.{one_grew, does_as, no_faults, one_step}

-- ---- what is known of the state

-- it holds of all states that the machine stands for
pub by_where : {T E : Type 0} {A : State → Type 0} {D : DeskRelations} {P : Execution} {m now : Machine} {a b : Option (List ℕ)} {k l : ℕ} {r : Result T E}
    → ((s : State) → IsGood s → StandsFor m s → A s) → PerformedWhere A D P m now (between a b k l) r → PerformedWithDesk D P m now (between a b k l) r
by_where holds d = record { faults = d.faults; shown = λ s g st. d.shown s g st (holds s g st) }

-- nothing is asked of them
pub where_by : {T E : Type 0} {A : State → Type 0} {D : DeskRelations} {P : Execution} {m now : Machine} {a b : Option (List ℕ)} {k l : ℕ} {r : Result T E}
    → PerformedWithDesk D P m now (between a b k l) r → PerformedWhere A D P m now (between a b k l) r
where_by d = record { faults = d.faults; shown = λ s g st known. d.shown s g st }

-- ---- what is done

-- if all that was to be done is what the desk gives, so is what was done
pub given_prefix : {T E : Type 0} {D : DeskRelations} {P : Execution} {m now : Machine} {a b : Option (List ℕ)} {k l : ℕ} {r : Result T E}
    → Performed (λ s xs out t. P s xs out t × AreGiven D xs) m now (between a b k l) r → PerformedWithDesk D P m now (between a b k l) r
given_prefix {r = Ok u} d = record { faults = d.faults; shown = λ s g st. d.shown s g st }
given_prefix {D = D} {r = Err u} d = record {
  faults = d.faults;
  shown = λ s g st. let x = d.shown s g st in (
    record {
      done = x.done;
      later = x.later;
      all = x.all;
      last = x.last;
      whole = x.whole.0;
      goes = x.goes;
      given = x.given;
      next = x.next;
      state = x.state;
      steps = x.steps;
      prefix = x.prefix;
      rest = x.rest;
      parts = x.parts;
      appended = x.appended;
    },
    (given_append D x.done x.later x.whole.1).0,
  );
}

-- a desk has nothing to give in it, or what it gives is known
pub does_given : {T E : Type 0} {D : DeskRelations} {P : Execution} {m now : Machine} {a b : Option (List ℕ)} {k l : ℕ} {r : Result T E}
    → ((s t : State) (xs : List Action) (out : List Timed) → P s xs out t → AreGiven D xs) → Performed P m now (between a b k l) r → PerformedWithDesk D P m now (between a b k l) r
does_given {D = D} {P} given d = given_prefix (does_as {Q = λ s xs out t. P s xs out t × AreGiven D xs} (λ s t xs out p. (p, given s t xs out p)) d)

-- what is done of the one is done of the other, in the states that the machine stood for
pub where_when : {T E : Type 0} {A : State → Type 0} {D : DeskRelations} {P Q : Execution} {m now : Machine} {a b : Option (List ℕ)} {k l : ℕ} {r : Result T E}
    → ((s t : State) (xs : List Action) (out : List Timed) → IsGood s → StandsFor m s → P s xs out t → Transitions s xs out t → Q s xs out t)
    → PerformedWhere A D P m now (between a b k l) r → PerformedWhere A D Q m now (between a b k l) r
where_when {r = Ok u} to d = record {
  faults = d.faults;
  shown = λ s g st known. let x = d.shown s g st known in record {
    actions = x.actions;
    out = x.out;
    state = x.state;
    whole = (to s x.state x.actions x.out g st x.whole.0 x.steps, x.whole.1);
    steps = x.steps;
    stands = x.stands;
    grew = x.grew;
  };
}
where_when {r = Err u} to d = record {
  faults = d.faults;
  shown = λ s g st known.
      let y = d.shown s g st known in
      let x = y.0 in (
        record {
          done = x.done;
          later = x.later;
          all = x.all;
          last = x.last;
          whole = to s x.last (x.done ++ x.later) x.all g st x.whole x.goes;
          goes = x.goes;
          given = x.given;
          next = x.next;
          state = x.state;
          steps = x.steps;
          prefix = x.prefix;
          rest = x.rest;
          parts = x.parts;
          appended = x.appended;
        },
        y.1,
      );
}

-- nothing was done
pub where_nothing : {T E : Type 0} {A : State → Type 0} {D : DeskRelations} {P : Execution} (m : Machine) (held : Option (List ℕ)) (k : ℕ) (u : T)
    → ((s : State) → IsGood s → StandsFor m s → P s [] [] s) → PerformedWhere {T = T} {E = E} A D P m m (between held held k k) (Ok u)
where_nothing m held k u nothing = record {
  faults = no_faults k u;
  shown = λ s g st known. record {
    actions = [];
    out = [];
    state = s;
    whole = (nothing s g st, tt);
    steps = (refl, refl);
    stands = st;
    grew = Grows-nothing held;
  };
}

-- the entry of a packet was written, or cut off; the machine stays
pub where_sent : {T E : Type 0} {A : State → Type 0} {D : DeskRelations}
    (m : Machine) (d channel cycle : ℕ) (old new : Option Recording) (held after : Option (List ℕ)) (k l : ℕ) (e : Entry) (r : Result T E)
    → ((s : State) → IsGood s → StandsFor m s → A s → (block : Option GivenBlock) × IsGiven D (SendPacket (at_plug d 0) block)
    × Transition s (SendPacket (at_plug d 0) block) (at_most cycle (Some e)) s × (new ≡ hearing_of channel (bytes_of block) old))
    → GivesEntry held after r cycle m.devices.epoch (Some e) → CountsFaults k l r → PerformedWhere A D (SendsHeard d channel old new) m m (between held after k l) r
where_sent m d channel cycle old new held after k l e (Ok u) turn gives faults = record {
  faults = faults;
  shown = λ s g st known.
      let x = turn s g st known in
      let f = one_step s s (SendPacket (at_plug d 0) x.0) (at_cycle cycle e ∷ []) x.2 in record {
        actions = SendPacket (at_plug d 0) x.0 ∷ [];
        out = at_cycle cycle e ∷ [];
        state = s;
        whole = ((x.0, (refl, f), x.3), (x.1, tt));
        steps = f;
        stands = st;
        grew = one_grew s (at_cycle cycle e) (epoch_after m.devices.epoch e) held after (ap (λ (n : ℕ). epoch_after n e) st.devices.epoch) gives;
      };
}
where_sent m d channel cycle old new held after k l e (Err u) turn gives faults = record {
  faults = faults;
  shown = λ s g st known.
      let x = turn s g st known in
      let f = one_step s s (SendPacket (at_plug d 0) x.0) (at_cycle cycle e ∷ []) x.2 in (
        record {
          done = SendPacket (at_plug d 0) x.0 ∷ [];
          later = [];
          all = at_cycle cycle e ∷ [];
          last = s;
          whole = (x.0, (refl, f), x.3);
          goes = f;
          given = [];
          next = at_cycle cycle e;
          state = s;
          steps = f;
          prefix = gives.prefix;
          rest = gives.rest;
          parts = ap (λ (n : ℕ). entry_bytes Two (epoch_after n e) (at_cycle cycle e)) (sym st.devices.epoch) ∙ gives.parts;
          appended = gives.appended;
        },
        (x.1, tt),
      );
}

-- ---- the machine is ready for what comes next

-- what is known of a call, without the desk
pub by_does : {T E : Type 0} {D : DeskRelations} {P : Execution} {m now : Machine} {a b : Option (List ℕ)} {k l : ℕ} {u : T}
    → PerformedWithDesk {T = T} {E = E} D P m now (between a b k l) (Ok u) → Performed {T = T} {E = E} P m now (between a b k l) (Ok u)
by_does {D = D} {P} d =
    does_as {P = λ s xs out t. P s xs out t × AreGiven D xs} {Q = P} (λ s t xs out p. p.0) (record { faults = d.faults; shown = λ s g st. d.shown s g st })
