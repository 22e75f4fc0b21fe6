-- Half steps can be given, one after another, to controllers that live.
use Rattle.fw_bus_engine.proofs.Common.{◌≡◌, ℕ, zero, suc, ◌+◌, ◌*◌, ◌<◌, ◌≤◌, ◌&&◌, not, List, [], ◌∷◌, ◌++◌, length, Bool, true, false, cond, None, Some, is_some, refl, ap, sym, subst, ◌∙◌, arith}
use Rattle.fw_bus_engine.proofs.Common.{
  IsTrue,
  Timed,
  MOST_HALF_STEPS,
  at_most,
  State,
  is_deaf,
  is_living,
  linked_number,
  numbers_to,
  half,
  after_half,
  Action,
  HalfStep,
  Transition,
  Transitions,
  counted,
}
use Rattle.fw_bus_engine.proofs.Common.{half_steps_of, IsGood, Reset}
use Rattle.std.specs.Prelude.{⊤}
use Rattle.fw_model_run.specs.State.{living}
use Rattle.fw_model_run.specs.HalfSteps.{is_waiting}
use Rattle.fw_model_run.specs.Afterwards.{after_reset_entry}
use Rattle.fw_model_run.specs.ControllerDeeds.{MayStep, stepping_as}
use Rattle.fw_model_run.proofs.Done.{Done}
use Rattle.fw_model_run.specs.Carrying.{Rounds, round}
use Rattle.fw_model_run.proofs.Settling.{half_turn}
use Rattle.fw_model_run.proofs.Forced.{forced_exists, forced_living}
use Rattle.fw_model_run.proofs.Taking.{Taken, listens, keeps_deaf, forces_reset, taken_as, may_step}
use Rattle.fw_model_run.proofs.Steps.{step_good}

-- what a state has after half steps of it: the same devices live
pub record After (s t : State) (count : ℕ) : Type 0 where
  pub good : IsGood t
  pub answered : t.transaction ≡ None
  pub declared : t.declared ≡ s.declared
  pub lives : (d : ℕ) → is_living t d ≡ is_living s d
  pub half_steps : t.half_steps ≡ s.half_steps + count

pub living_still : (s t : State) (count : ℕ) → After s t count → living t ≡ living s
living_still s t count h = λ i. numbers_to (length (h.declared i).names) (λ d. h.lives d i)

pub after_none : (s : State) → IsGood s → s.transaction ≡ None → After s s 0
after_none s g quiet = record { good = g; answered = quiet; declared = refl; lives = λ d. refl; half_steps = omega arith }

pub after_more : (s t u : State) (j k : ℕ) → After s t j → After t u k → After s u (j + k)
after_more s t u j k f g = record {
  good = g.good;
  answered = g.answered;
  declared = g.declared ∙ f.declared;
  lives = λ d. g.lives d ∙ f.lives d;
  half_steps = let a = f.half_steps in let b = g.half_steps in omega (arith, a, b);
}

-- ---- one

taken_leaves : (s : State) (d : ℕ) (out : List Timed) (t : State) → IsGood s → s.transaction ≡ None → IsTrue (is_living s d) → s.half_steps < MOST_HALF_STEPS
    → IsGood t → Taken s d out t → After s t 1
taken_leaves s d out t g quiet lives few good (listens hears said is) = subst (λ z. IsGood z → After s z 1) (sym is) (λ good.
    let h = half_turn s d g lives in record {
      good = good;
      answered = quiet;
      declared = h.1.declared;
      lives = λ k i. is_some (linked_number (h.1.latest i) k) && not (h.1.dead i k);
      half_steps = refl;
    }) good
taken_leaves s d out t g quiet lives few good (keeps_deaf deaf said is) =
    subst (λ z. IsGood z → After s z 1) (sym is) (λ good. record { good = good; answered = quiet; declared = refl; lives = λ k. refl; half_steps = refl }) good
taken_leaves s d out t g quiet lives few good (forces_reset deaf r) = record {
  good = good;
  answered = ap (λ (z : State). z.transaction) r.state_is ∙ quiet;
  declared = ap (λ (z : State). z.declared) r.state_is;
  lives = forced_living s t d out g lives deaf few r;
  half_steps = ap (λ (z : State). z.half_steps) r.state_is;
}

pub half_leaves : (s : State) (d : ℕ) (out : List Timed) (t : State) → IsGood s → Transition s (HalfStep d) out t → After s t 1
half_leaves s d out t g f = let may = may_step s d f.found f.may in taken_leaves s d out t g f.waits may.lives may.few (step_good s (HalfStep d) out t g f) (taken_as s d out t f)

pub record OneGiven (s : State) (d : ℕ) : Type 0 where
  pub out : List Timed
  pub state : State
  pub step : Transition s (HalfStep d) out state

-- of one that has lost a response the time says what it does
pub steps_deaf : (s : State) (d : ℕ) (waiting : Bool) (out : List Timed) (t : State) → IsTrue (is_deaf s d) → is_waiting s d ≡ waiting → s.transaction ≡ None
    → Done (stepping_as true waiting s d) out t → Transition s (HalfStep d) out t
steps_deaf s d waiting out t deaf e free x =
    let z : Done (stepping_as (is_deaf s d) (is_waiting s d) s d) out t =
    subst (λ b. Done (stepping_as b (is_waiting s d) s d) out t) (sym deaf) (subst (λ w. Done (stepping_as true w s d) out t) (sym e) x) in
    record { found = z.found; waits = free; may = z.may; out_is = z.out_is; state_is = z.state_is }

pub half_given : (s : State) (d : ℕ) → IsGood s → s.transaction ≡ None → IsTrue (is_living s d) → s.half_steps < MOST_HALF_STEPS → OneGiven s d
half_given s d g quiet lives few = by_deaf (is_deaf s d) refl
  where
    may : MayStep s d
    may = record { lives = lives; few = few }

    by_time : IsTrue (is_deaf s d) → (w : Bool) → is_waiting s d ≡ w → OneGiven s d
    by_time deaf true e =
        let waits : Done (stepping_as true true s d) [] (counted s 1) = record { found = tt; may = may; out_is = refl; state_is = refl } in
        record { out = []; state = counted s 1; step = steps_deaf s d true [] (counted s 1) deaf e quiet waits }
    by_time deaf false e =
        let x = forced_exists s d g lives in
        let low = g.losses.counted d deaf in
        let most = g.losses.few in
        let t : State = after_reset_entry (counted s 1) x.entry in
        let out : List Timed = at_most s.clock.cycle (Some (Reset x.entry)) in
        let forces : Done (stepping_as true false s d) out t =
        record { found = x.entry; may = record { step = may; reset = record { is_entry = x.is; few = omega (arith, low, most) } }; out_is = refl; state_is = refl } in
        record { out = out; state = t; step = steps_deaf s d false out t deaf e quiet forces }

    by_deaf : (b : Bool) → is_deaf s d ≡ b → OneGiven s d
    by_deaf true e = by_time e (is_waiting s d) refl
    by_deaf false e =
        let t = counted (after_half s d) 1 in
        let out = at_most s.clock.cycle (half s d).says in
        let z = subst (λ b. Done (stepping_as b (is_waiting s d) s d) out t) (sym e) (record { found = tt; may = may; out_is = refl; state_is = refl }) in
        record { out = out; state = t; step = record { found = z.found; waits = quiet; may = z.may; out_is = z.out_is; state_is = z.state_is } }

-- ---- of several controllers

abbrev pub AllLive : State → List ℕ → Type 0
AllLive s [] = ⊤
AllLive s (d ∷ ds) = IsTrue (is_living s d) × AllLive s ds

pub all_live_still : (s t : State) (count : ℕ) (ds : List ℕ) → After s t count → AllLive s ds → AllLive t ds
all_live_still s t count [] h f = tt
all_live_still s t count (d ∷ ds) h f = (h.lives d ∙ f.0, all_live_still s t count ds h f.1)

-- what half steps of these controllers leave
pub halves_after : (ds : List ℕ) (s : State) (out : List Timed) (t : State) → IsGood s → s.transaction ≡ None → Transitions s (half_steps_of ds) out t → After s t (length ds)
halves_after [] s out t g quiet f = subst (λ z. After s z 0) (sym f.1) (after_none s g quiet)
halves_after (d ∷ ds) s out t g quiet f =
    let mid = f.2 in
    let a = half_leaves s d f.0 mid g f.3 in
    let r = halves_after ds mid f.1 t a.good a.answered f.5 in
    let same : 1 + length ds ≡ length (d ∷ ds) = omega arith in
    subst (λ k. After s t k) same (after_more s mid t 1 (length ds) a r)

pub record Given (s : State) (actions : List Action) (count : ℕ) : Type 0 where
  pub out : List Timed
  pub state : State
  pub steps : Transitions s actions out state
  pub after : After s state count

pub halves_given : (ds : List ℕ) (s : State) → IsGood s → s.transaction ≡ None → AllLive s ds → s.half_steps + length ds ≤ MOST_HALF_STEPS → Given s (half_steps_of ds) (length ds)
halves_given [] s g quiet lives few = record { out = []; state = s; steps = (refl, refl); after = after_none s g quiet }
halves_given (d ∷ ds) s g quiet lives few =
    let x = half_given s d g quiet lives.0 (omega (arith, few)) in
    let t = x.state in
    let a = half_leaves s d x.out t g x.step in
    let count = a.half_steps in
    let r = halves_given ds t a.good a.answered (all_live_still s t 1 ds a lives.1) (omega (arith, few, count)) in
    record {
      out = x.out ++ r.out;
      state = r.state;
      steps = (x.out, r.out, t, x.step, refl, r.steps);
      after = let same : 1 + length ds ≡ length (d ∷ ds) = omega arith in subst (λ k. After s r.state k) same (after_more s t r.state 1 (length ds) a r.after);
    }

-- ---- rounds

live_append : (s : State) (xs ys : List ℕ) → AllLive s xs → AllLive s ys → AllLive s (xs ++ ys)
live_append s [] ys f g = g
live_append s (x ∷ xs) ys f g = (f.0, live_append s xs ys f.1 g)

-- those that are found living live
pub all_live : (s : State) (n : ℕ) → AllLive s (numbers_to n (is_living s))
unfolding numbers_to
all_live s zero = tt
all_live s (suc n) = live_append s (numbers_to n (is_living s)) (cond (is_living s n) (n ∷ []) []) (all_live s n) (last (is_living s n) refl)
  where
    last : (b : Bool) → is_living s n ≡ b → AllLive s (cond b (n ∷ []) [])
    last true lives = (lives, tt)
    last false rests = tt

pub record RoundsGiven (n : ℕ) (s : State) : Type 0 where
  pub actions : List Action
  pub out : List Timed
  pub state : State
  pub rounds : Rounds n s actions out state
  pub after : After s state (n * length (living s))

pub rounds_given : (n : ℕ) (s : State) → IsGood s → s.transaction ≡ None → s.half_steps + n * length (living s) ≤ MOST_HALF_STEPS → RoundsGiven n s
rounds_given zero s g quiet few = record { actions = []; out = []; state = s; rounds = Rounds.none; after = subst (λ k. After s s k) (omega arith) (after_none s g quiet) }
rounds_given (suc n) s g quiet few =
    let one : suc n * length (living s) ≡ length (living s) + n * length (living s) = omega arith in
    let f = halves_given (living s) s g quiet (all_live s (length s.declared.names)) (omega (arith, few, one)) in
    let same : length (living f.state) ≡ length (living s) = ap (λ (ds : List ℕ). length ds) (living_still s f.state _ f.after) in
    let again : n * length (living f.state) ≡ n * length (living s) = ap (λ k. n * k) same in
    let count = f.after.half_steps in
    let r = rounds_given n f.state f.after.good f.after.answered (omega (arith, few, one, again, count)) in
    record {
      actions = half_steps_of (living s) ++ r.actions;
      out = f.out ++ r.out;
      state = r.state;
      rounds = round {t = r.state} f.state r.actions f.out r.out f.steps r.rounds;
      after = subst (λ k. After s r.state k) (ap (λ k. length (living s) + k) again ∙ sym one) (after_more s f.state r.state (length (living s)) (n * length (living f.state)) f.after r.after);
    }
