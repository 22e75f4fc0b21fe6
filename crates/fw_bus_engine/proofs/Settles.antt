-- Rounds, and what is written after them.
use Rattle.fw_bus_engine.proofs.Common.{◌≡◌, ◌⊎◌, inl, inr, ℕ, suc, ◌+◌, ◌*◌, ◌-◌, ◌<◌, ◌≤◌, List, [], ◌∷◌, ◌++◌, length, Bool, true, false, Option, None, Some, refl, ap, sym, subst, ◌∙◌, arith}
use Rattle.fw_bus_engine.proofs.Common.{append_assoc, append-nil, IsTrue, IsFalse, Ok, IsErr, Result, Grows-nothing, Timed}
use Rattle.fw_bus_engine.proofs.Common.{MOST_HALF_STEPS, at_most, State, entered, numbers_to, Action, Transitions, counted, Transition}
use Rattle.fw_bus_engine.proofs.Common.{Carries, half_steps_of, IsGood, steps_good, Machine, between, StandsFor, is_living_in, living_in, Performs, Performed, TakesAction}
use Rattle.fw_order.specs.declared.order.Order.TheVariants.{Settle}
use Rattle.fw_model_run.specs.State.{living}
use Rattle.fw_model_run.specs.Entries.{unsettled as unsettled_entry}
use Rattle.fw_model_run.specs.HalfSteps.{is_unsettled}
use Rattle.fw_model_run.specs.Actions.{Rest, Unsettled}
use Rattle.fw_model_run.specs.Carrying.{Rounds}
use Rattle.fw_model_run.proofs.Runs.{rounds_steps}
use Rattle.fw_bus_engine.specs.Performing.{Execution, TellsUnsettled, OneRound, RoundsFirst, SomeRounds}
use Rattle.fw_bus_engine.proofs.Doings.{GoesOn, Follows, does_cut, does_then}
use Rattle.fw_bus_engine.proofs.OneAction.{does_as, does_nothing, no_faults, one_step}
use Rattle.fw_bus_engine.proofs.Halves.{halves_after, living_still, rounds_given}
use Rattle.fw_bus_state.proofs.Living.{living_list}
use Rattle.fw_model_run.proofs.Taking.{Taken, listens, keeps_deaf, forces_reset, taken_as}
use Rattle.fw_bus_state.proofs.Standing.{counted_stands}

-- ---- rounds one after another

pub rounds_none : {T E : Type 0} (m : Machine) (held : Option (List ℕ)) (k : ℕ) (u : T) → Performed {T = T} {E = E} (RoundsFirst 0) m m (between held held k k) (Ok u)
rounds_none m held k u = does_nothing m held k u (λ s g st. (refl, omega arith, st.answered, λ k zs more t r. subst (λ n. Rounds n s zs more t) (omega arith) r))

rounds_follow : {m : Machine} (i : ℕ) → Follows m (RoundsFirst i) OneRound (RoundsFirst (i + 1))
rounds_follow i s mid t xs ys a b g st p f q h =
    let good = steps_good s mid xs a g f in
    let after = halves_after (living mid) mid b t good p.2 q.1 in
    let still : living t ≡ living s = living_still mid t _ after ∙ p.0 in
    let count = after.half_steps in
    let before = p.1 in
    let size : length (living mid) ≡ length (living s) = ap (λ (z : List ℕ). length z) p.0 in
    let more : (i + 1) * length (living s) ≡ i * length (living s) + length (living s) = omega arith in (
      still,
      omega (arith, count, before, size, more),
      after.answered,
      λ k zs last u r.
          let one : i + suc k ≡ i + 1 + k = omega arith in
          let prefix = subst (λ z. Rounds (suc k) mid (z ++ zs) (b ++ last) u) (sym q.0) (Rounds.round t zs b last q.1 r) in
          let all = p.3 (suc k) (ys ++ zs) (b ++ last) u prefix in
          subst (λ n. Rounds n s ((xs ++ ys) ++ zs) ((a ++ b) ++ last) u) one
          (subst (λ z. Rounds (i + suc k) s z ((a ++ b) ++ last) u) (sym (append_assoc xs ys zs))
          (subst (λ z. Rounds (i + suc k) s (xs ++ (ys ++ zs)) z u) (sym (append_assoc a b last)) all)),
    )

pub rounds_then : {T E U F : Type 0} (i : ℕ) {m mid now : Machine} {a b c : Option (List ℕ)} {k l n : ℕ} {u : T} {r : Result U F}
    → Performed {T = T} {E = E} (RoundsFirst i) m mid (between a b k l) (Ok u) → Performed OneRound mid now (between b c l n) r → Performed (RoundsFirst (i + 1)) m now (between a c k n) r
rounds_then i {r = r} d e = does_then r (rounds_follow i) d e

-- all were taken
pub rounds_all : {T E : Type 0} (i n : ℕ) {m now : Machine} {a b : Option (List ℕ)} {k l : ℕ} {u : T} → i ≡ n
    → Performed {T = T} {E = E} (RoundsFirst i) m now (between a b k l) (Ok u) → Performed {T = T} {E = E} (SomeRounds n) m now (between a b k l) (Ok u)
rounds_all i n e d = does_as (λ s t xs out p.
    let none = p.3 0 [] [] t Rounds.none in
    let same : i + 0 ≡ n = omega arith ∙ e in
    subst (λ k. Rounds k s xs out t) same (subst (λ z. Rounds (i + 0) s z out t) (append-nil xs) (subst (λ z. Rounds (i + 0) s (xs ++ []) z t) (append-nil out) none))) d

-- ---- if nobody has anything to do, all others are taken at once

-- rounds after which no controller has anything to do, nor waits for an answer
abbrev LastRounds : ℕ → Execution
LastRounds n s ys out t = Rounds n s ys out t × IsFalse (is_unsettled t)

-- the half steps of a rest
rest_follows : {m : Machine} (i n : ℕ) → i ≤ n → Follows m (RoundsFirst i) (LastRounds (n - i)) (λ s. Carries s (Settle n))
rest_follows i n le s mid t xs ys a b g st p f q h =
    let all : i + (n - i) ≡ n = omega (arith, le) in Carries.settled (subst (λ k. Rounds k s (xs ++ ys) (a ++ b) t) all (p.3 (n - i) ys b t q.0)) q.1

does_rest : {T E : Type 0} (n : ℕ) (m : Machine) (held : Option (List ℕ)) (k : ℕ) (u : T)
    → ((s : State) → IsGood s → StandsFor m s → IsFalse (is_unsettled s)) → m.half_steps + n * length (living_in m) ≤ MOST_HALF_STEPS
    → Performed {T = T} {E = E} (LastRounds n) m (record m { half_steps = m.half_steps + n * length (living_in m) }) (between held held k k) (Ok u)
does_rest n m held k u calm few = record {
  faults = no_faults k u;
  shown = λ s g st.
      let same : length (living_in m) ≡ length (living s) = ap (λ (z : List ℕ). length z) (living_list m s g st) in
      let half_steps = st.clock.half_steps in
      let many : n * length (living_in m) ≡ n * length (living s) = ap (λ j. n * j) same in
      let t = counted s (n * length (living s)) in
      let rests : Transition s (Rest (n * length (living s))) [] t = record {
        found = tt;
        waits = st.answered;
        may = record { settled = calm s g st; few = omega (arith, few, half_steps, many) };
        out_is = refl;
        state_is = refl;
      } in
      let f : Transitions s (Rest (n * length (living s)) ∷ []) [] t = one_step s t (Rest (n * length (living s))) [] rests in
      record {
        actions = Rest (n * length (living s)) ∷ [];
        out = [];
        state = t;
        whole = (Rounds.rest f, calm s g st);
        steps = f;
        stands = subst (λ j. StandsFor (record m { half_steps = m.half_steps + j }) t) (sym many) (counted_stands m s (n * length (living s)) st);
        grew = Grows-nothing held;
      };
}

-- so nothing is written after them
pub rounds_rest : {T E : Type 0} (i n : ℕ) {m mid : Machine} {a b : Option (List ℕ)} {k l : ℕ} {u : T} → i ≤ n
    → ((s : State) → IsGood s → StandsFor mid s → IsFalse (is_unsettled s)) → mid.half_steps + (n - i) * length (living_in mid) ≤ MOST_HALF_STEPS
    → Performed {T = T} {E = E} (RoundsFirst i) m mid (between a b k l) (Ok u)
    → Performed {T = T} {E = E} (λ s. Carries s (Settle n)) m (record mid { half_steps = mid.half_steps + (n - i) * length (living_in mid) }) (between a b k l) (Ok u)
rounds_rest {E = E} i n {mid = mid} {b = b} {l = l} {u = u} le calm few d = does_then (Ok u) (rest_follows i n le) d (does_rest {E = E} (n - i) mid b l u calm few)

-- ---- a round was cut off

rounds_go_on : (m : Machine) (j n : ℕ) → j ≤ n → m.half_steps + n * length (living_in m) ≤ MOST_HALF_STEPS → GoesOn m (RoundsFirst j) (SomeRounds n)
rounds_go_on m j n le few s u xs a g st p f =
    let good = steps_good s u xs a g f in
    let size : length (living_in m) ≡ length (living s) = ap (λ (z : List ℕ). length z) (living_list m s g st) in
    let same : length (living u) ≡ length (living s) = ap (λ (z : List ℕ). length z) p.0 in
    let steps = st.clock.half_steps in
    let given = p.1 in
    let rest : (n - j) * length (living u) ≡ (n - j) * length (living s) = ap (λ k. (n - j) * k) same in
    let sum : j + (n - j) ≡ n = omega (arith, le) in
    let parts : j * length (living s) + (n - j) * length (living s) ≡ n * length (living s) = sym (times_sum j (n - j) (length (living s))) ∙ ap (λ k. k * length (living s)) sum in
    let whole : n * length (living_in m) ≡ n * length (living s) = ap (λ k. n * k) size in
    let r = rounds_given (n - j) u good p.2 (omega (arith, few, steps, given, rest, parts, whole)) in (
      r.actions,
      r.out,
      r.state,
      subst (λ k. Rounds k s (xs ++ r.actions) (a ++ r.out) r.state) sum (p.3 (n - j) r.actions r.out r.state r.rounds),
      rounds_steps (n - j) u r.actions r.out r.state r.rounds,
    )
  where
    times_sum : (x y z : ℕ) → (x + y) * z ≡ x * z + y * z
    times_sum x y z = omega arith

pub rounds_cut : {T E U F V G : Type 0} (i n : ℕ) {m mid now : Machine} {a b c : Option (List ℕ)} {k l o : ℕ} {u : T} (q : Result U F) (r : Result V G)
    → i < n → m.half_steps + n * length (living_in m) ≤ MOST_HALF_STEPS → IsErr q → IsErr r
    → Performed {T = T} {E = E} (RoundsFirst i) m mid (between a b k l) (Ok u) → Performed OneRound mid now (between b c l o) q → Performed (SomeRounds n) m now (between a c k o) r
rounds_cut i n {m} q r lt few was is f e = does_cut q r (rounds_go_on m (i + 1) n (omega (arith, lt)) few) was is (rounds_then i f e)

-- ---- what is written after them

unsettled_step : (s : State) → s.transaction ≡ None → IsTrue (is_unsettled s)
    → Transitions s (Unsettled ∷ []) (at_most s.clock.cycle (Some unsettled_entry)) (record s { account = entered s.account unsettled_entry })
unsettled_step s quiet busy = one_step s _ Unsettled _ (record { found = tt; waits = quiet; may = busy; out_is = refl; state_is = refl })

pub busy_looks_back : {T E : Type 0} {m now : Machine} {a b : Option (List ℕ)} {k l : ℕ} {r : Result T E} → Performed (Performs (Unsettled ∷ [])) m now (between a b k l) r
    → Performed TellsUnsettled m now (between a b k l) r
busy_looks_back d = does_as (λ s t xs out p. inr (p.0, subst (λ z. Transitions s z out t) (sym p.0) p.1)) d

settles : {m : Machine} (n : ℕ) → Follows m (SomeRounds n) TellsUnsettled (λ s. Carries s (Settle n))
settles n s mid t xs ys a b g st p f q h = go q
  where
    go : (((ys ≡ []) × IsFalse (is_unsettled mid) × (b ≡ []) × (t ≡ mid)) ⊎ ((ys ≡ Unsettled ∷ []) × Transitions mid ys b t)) → Carries s (Settle n) (xs ++ ys) (a ++ b) t
    go (inl x) =
        let actions = ap (λ z. xs ++ z) x.0 ∙ append-nil xs in
        let out = ap (λ z. a ++ z) x.2 ∙ append-nil a in
        subst (λ z. Carries s (Settle n) z (a ++ b) t) (sym actions) (subst (λ z. Carries s (Settle n) xs z t) (sym out)
        (subst (λ z. Carries s (Settle n) xs a z) (sym x.3) (Carries.settled p x.1)))
    go (inr x) = subst (λ z. Carries s (Settle n) (xs ++ z) (a ++ b) t) (sym x.0) (Carries.unsettled mid xs a b p (subst (λ z. Transitions mid z b t) x.0 x.1))

pub settle_then : {T E U F : Type 0} (n : ℕ) {m mid now : Machine} {a b c : Option (List ℕ)} {k l o : ℕ} {u : T} (r : Result U F)
    → Performed {T = T} {E = E} (SomeRounds n) m mid (between a b k l) (Ok u) → Performed TellsUnsettled mid now (between b c l o) r → Performed (λ s. Carries s (Settle n)) m now (between a c k o) r
settle_then n r d e = does_then r (settles n) d e

-- half steps leave no transaction open
taken_answered : (s : State) (d : ℕ) (out : List Timed) (t : State) → s.transaction ≡ None → Taken s d out t → t.transaction ≡ None
taken_answered s d out t quiet (listens hears said is) = ap (λ (z : State). z.transaction) is ∙ quiet
taken_answered s d out t quiet (keeps_deaf deaf said is) = ap (λ (z : State). z.transaction) is ∙ quiet
taken_answered s d out t quiet (forces_reset deaf r) = ap (λ (z : State). z.transaction) r.state_is ∙ quiet

halves_answered : (ds : List ℕ) (s : State) (out : List Timed) (t : State) → s.transaction ≡ None → Transitions s (half_steps_of ds) out t → t.transaction ≡ None
halves_answered [] s out t quiet f = ap (λ (z : State). z.transaction) f.1 ∙ quiet
halves_answered (d ∷ ds) s out t quiet f = halves_answered ds f.2 f.1 t (taken_answered s d f.0 f.2 quiet (taken_as s d f.0 f.2 f.3)) f.5

rounds_answered : (n : ℕ) (s : State) (xs : List Action) (out : List Timed) (t : State) → s.transaction ≡ None → Rounds n s xs out t → t.transaction ≡ None
rounds_answered n s xs out t quiet Rounds.none = quiet
rounds_answered n s xs out t quiet (Rounds.round {n = k} mid more first last f r) = rounds_answered k mid more last t (halves_answered (living s) s first mid quiet f) r
rounds_answered n s xs out t quiet (Rounds.rest f) = ap (λ (z : State). z.transaction) f.5.1 ∙ (ap (λ (z : State). z.transaction) f.3.state_is ∙ quiet)

settle_goes_on : (m : Machine) (n : ℕ) → (m.half_steps + n * length (living_in m) ≤ MOST_HALF_STEPS) → GoesOn m (SomeRounds n) (λ s. Carries s (Settle n))
settle_goes_on m n few s u xs a g st p f = go (is_unsettled u) refl
  where
    quiet : u.transaction ≡ None
    quiet = rounds_answered n s xs a u st.answered p

    go : (b : Bool) → is_unsettled u ≡ b → (ys : List Action) × (b : List Timed) × (t : State) × Carries s (Settle n) (xs ++ ys) (a ++ b) t × Transitions u ys b t
    go false e = ([], [], u, subst (λ z. Carries s (Settle n) z (a ++ []) u) (sym (append-nil xs)) (subst (λ z. Carries s (Settle n) xs z u) (sym (append-nil a)) (Carries.settled p e)), (refl, refl))
    go true e =
        let last = unsettled_step u quiet e in (
          Unsettled ∷ [],
          at_most u.clock.cycle (Some unsettled_entry),
          record u { account = entered u.account unsettled_entry },
          Carries.unsettled u xs a (at_most u.clock.cycle (Some unsettled_entry)) p last,
          last,
        )

pub settle_cut : {U F V G : Type 0} (n : ℕ) {m now : Machine} {a b : Option (List ℕ)} {k l : ℕ} (q : Result U F) (r : Result V G)
    → m.half_steps + n * length (living_in m) ≤ MOST_HALF_STEPS → IsErr q → IsErr r → Performed (SomeRounds n) m now (between a b k l) q
    → Performed (λ s. Carries s (Settle n)) m now (between a b k l) r
settle_cut n {m} q r few was is d = does_cut q r (settle_goes_on m n few) was is d

-- ---- who lives, while rounds are taken

pub living_kept : (m now : Machine) → now.devices.names ≡ m.devices.names → ((d : ℕ) → is_living_in now d ≡ is_living_in m d) → living_in now ≡ living_in m
living_kept m now names living = λ i. numbers_to (length (names i)) (λ d. living d i)

-- what is left of the rounds is within the limit
pub rounds_within : (m now : Machine) (i n : ℕ) → i ≤ n → living_in now ≡ living_in m → now.half_steps ≡ m.half_steps + i * length (living_in m)
    → m.half_steps + n * length (living_in m) ≤ MOST_HALF_STEPS → now.half_steps + (n - i) * length (living_in now) ≤ MOST_HALF_STEPS
rounds_within m now i n le same count few =
    let size : (n - i) * length (living_in now) ≡ (n - i) * length (living_in m) = ap (λ (z : List ℕ). (n - i) * length z) same in
    let parts : i * length (living_in m) + (n - i) * length (living_in m) ≡ n * length (living_in m) = sum i (n - i) n (length (living_in m)) (omega (arith, le)) in
    omega (arith, few, count, size, parts)
  where
    sum : (x y z w : ℕ) → x + y ≡ z → x * w + y * w ≡ z * w
    sum x y z w e = (let d : x * w + y * w ≡ (x + y) * w = omega arith in d) ∙ ap (λ k. k * w) e

-- ---- the event

-- it changes nothing else
pub unsettled_turns : (m : Machine) → ((s : State) → IsGood s → StandsFor m s → IsTrue (is_unsettled s)) → TakesAction Unsettled m m m.cycle (Some unsettled_entry)
unsettled_turns m busy = record {
  shown = λ s g st.
      let t = record s { account = entered s.account unsettled_entry } in
      (t, record { found = tt; waits = st.answered; may = busy s g st; out_is = ap (λ c. at_most c (Some unsettled_entry)) st.clock.cycle; state_is = refl }, st);
}

-- so is the next one
pub round_within : (m now : Machine) (i n : ℕ) → i < n → living_in now ≡ living_in m → now.half_steps ≡ m.half_steps + i * length (living_in m)
    → m.half_steps + n * length (living_in m) ≤ MOST_HALF_STEPS → now.half_steps + length (living_in now) ≤ MOST_HALF_STEPS
round_within m now i n lt same count few =
    let all = rounds_within m now i n (omega (arith, lt)) same count few in
    let one : n - i ≡ suc (n - i - 1) = omega (arith, lt) in
    let parts : (n - i) * length (living_in now) ≡ length (living_in now) + (n - i - 1) * length (living_in now) = ap (λ k. k * length (living_in now)) one ∙ omega arith in
    omega (arith, all, parts)
