-- So many half steps of one that takes them: of a controller, or of a candidate.
use Rattle.fw_bus_engine.proofs.Common.{◌≡◌, ℕ, zero, suc, ◌+◌, ◌-◌, ◌<◌, ◌≤◌, List, [], ◌∷◌, ◌++◌, Option, None, refl, ap, sym, subst, ◌∙◌, arith, append_assoc, append-nil, IsTrue, Ok, IsErr, Result}
use Rattle.fw_bus_engine.proofs.Common.{Timed, MOST_HALF_STEPS, State, is_living, Action, HalfStep, Transitions, times}
use Rattle.fw_bus_engine.proofs.Common.{IsGood, Machine, between, is_living_in, Performs, Performed, living_same}
use Rattle.fw_bus_engine.proofs.Common.{StandsFor, Transition, steps_then}
use Rattle.std.proofs.Common.{add-one}
use Rattle.fw_bus_engine.proofs.Doings.{GoesOn, acts_follow, does_cut, does_then}
use Rattle.fw_bus_engine.proofs.OneAction.{does_none, one_step}
use Rattle.fw_bus_engine.proofs.Halves.{half_given, half_leaves}

-- ---- the same action so many times

pub times_prefix : (k : ℕ) (x : Action) → times k x ++ x ∷ [] ≡ x ∷ times k x
unfolding times
times_prefix zero x = refl
times_prefix (suc k) x = ap (λ z. z ++ x ∷ []) (times_prefix k x)

pub times_add : (j k : ℕ) (x : Action) → times j x ++ times k x ≡ times (j + k) x
unfolding times
times_add j zero x = let none : j ≡ j + 0 = omega arith in append-nil (times j x) ∙ ap (λ n. times n x) none
times_add j (suc k) x =
    let one : j + suc k ≡ suc (j + k) = omega arith in
    sym (append_assoc (times j x) (times k x) (x ∷ [])) ∙ (ap (λ z. z ++ x ∷ []) (times_add j k x) ∙ sym (ap (λ n. times n x) one))

-- ---- an action that may be taken again and again

-- from a state of this kind it may be taken if the limit leaves a half step, and then the state is of this kind again
pub record Repeats (a : Action) (P : State → Type 0) : Type 0 where
  pub one : (s : State) → P s → s.half_steps < MOST_HALF_STEPS → (out : List Timed) × (t : State) × Transition s a out t
  pub again : (s t : State) (out : List Timed) → P s → Transition s a out t → P t × (t.half_steps ≡ s.half_steps + 1)

-- what it leaves
repeats_after : (n : ℕ) (a : Action) (P : State → Type 0) (s : State) (out : List Timed) (t : State) → Repeats a P → P s → Transitions s (times n a) out t → P t × (t.half_steps ≡ s.half_steps + n)
unfolding times
repeats_after zero a P s out t r p f = (subst P (sym f.1) p, let same = ap (λ (z : State). z.half_steps) f.1 in omega (arith, same))
repeats_after (suc n) a P s out t r p f =
    let h = subst (λ xs. Transitions s xs out t) (times_prefix n a) f in
    let x = r.again s h.2 h.0 p h.3 in
    let y = repeats_after n a P h.2 h.1 t r x.0 h.5 in
    (y.0, let first = x.1 in let rest = y.1 in omega (arith, first, rest))

-- so many can be given
repeats_given : (n : ℕ) (a : Action) (P : State → Type 0) (s : State) → Repeats a P → P s → s.half_steps + n ≤ MOST_HALF_STEPS → (out : List Timed) × (t : State) × Transitions s (times n a) out t
unfolding times
repeats_given zero a P s r p few = ([], s, (refl, refl))
repeats_given (suc n) a P s r p few =
    let f = r.one s p (omega (arith, few)) in
    let x = r.again s f.1 f.0 p f.2 in
    let count = x.1 in
    let more = repeats_given n a P f.1 r x.0 (omega (arith, few, count)) in (
      f.0 ++ more.0,
      more.1,
      subst (λ xs. Transitions s xs (f.0 ++ more.0) more.1) (sym (times_prefix n a)) (steps_then s f.1 more.1 (a ∷ []) (times n a) f.0 more.0 (one_step s f.1 a f.0 f.2) more.2),
    )

-- ---- calls of the machine

pub times_none : {T E : Type 0} (x : Action) (m : Machine) (held : Option (List ℕ)) (k : ℕ) (u : T) → Performed {T = T} {E = E} (Performs (times 0 x)) m m (between held held k k) (Ok u)
unfolding times
times_none x m held k u = does_none m held k u

pub times_then : {T E U F : Type 0} (x : Action) (i : ℕ) {m mid now : Machine} {a b c : Option (List ℕ)} {k l n : ℕ} {u : T} {r : Result U F}
    → Performed {T = T} {E = E} (Performs (times i x)) m mid (between a b k l) (Ok u) → Performed (Performs (x ∷ [])) mid now (between b c l n) r
    → Performed (Performs (times (i + 1) x)) m now (between a c k n) r
unfolding times
times_then x i {r = r} d e = rw add-one (does_then r (acts_follow (times i x) (x ∷ [])) d e)

-- the rest of them can be given
repeats_go_on : (m : Machine) (a : Action) (P : State → Type 0) (j count : ℕ) → Repeats a P → ((s : State) → IsGood s → StandsFor m s → P s) → j ≤ count → m.half_steps + count ≤ MOST_HALF_STEPS
    → GoesOn m (Performs (times j a)) (Performs (times count a))
repeats_go_on m a P j count r begins le few s u xs out g st p f =
    let steps = st.clock.half_steps in
    let after = repeats_after j a P s out u r (begins s g st) p.1 in
    let given = after.1 in
    let more = repeats_given (count - j) a P u r after.0 (omega (arith, le, few, steps, given)) in
    let sum : j + (count - j) ≡ count = omega (arith, le) in
    let all : times j a ++ times (count - j) a ≡ times count a = times_add j (count - j) a ∙ ap (λ n. times n a) sum in
    let both = ap (λ z. z ++ times (count - j) a) p.0 ∙ all in (
      times (count - j) a,
      more.0,
      more.1,
      (both, subst (λ z. Transitions s z (out ++ more.0) more.1) both (steps_then s u more.1 xs (times (count - j) a) out more.0 f more.2)),
      more.2,
    )

-- one of them was cut off
pub repeats_cut : {T E U F V G : Type 0} (a : Action) (P : State → Type 0) (i : ℕ) {m mid now : Machine} {b c d : Option (List ℕ)} {k l n : ℕ} {u : T} (count : ℕ) (q : Result U F) (r : Result V G)
    → Repeats a P → ((s : State) → IsGood s → StandsFor m s → P s) → i < count → m.half_steps + count ≤ MOST_HALF_STEPS → IsErr q → IsErr r
    → Performed {T = T} {E = E} (Performs (times i a)) m mid (between b c k l) (Ok u) → Performed (Performs (a ∷ [])) mid now (between c d l n) q
    → Performed (Performs (times count a)) m now (between b d k n) r
repeats_cut a P i {m} count q r again begins lt few was is f e =
    does_cut q r (repeats_go_on m a P (i + 1) count again begins (omega (arith, lt)) few) was is (times_then a i f e)

-- all were given
pub times_all : {T E : Type 0} (x : Action) (i n : ℕ) {m now : Machine} {a b : Option (List ℕ)} {k l : ℕ} {u : T} → i ≡ n
    → Performed {T = T} {E = E} (Performs (times i x)) m now (between a b k l) (Ok u) → Performed {T = T} {E = E} (Performs (times n x)) m now (between a b k l) (Ok u)
times_all {E = E} x i n {m = m} {now} {a} {b} {k} {l} {u} e d = subst (λ z. Performed {E = E} (Performs (times z x)) m now (between a b k l) (Ok u)) e d

-- ---- half steps of a controller that lives

abbrev Lives : ℕ → State → Type 0
Lives d s = IsGood s × (s.transaction ≡ None) × IsTrue (is_living s d)

halves_repeat : (d : ℕ) → Repeats (HalfStep d) (Lives d)
halves_repeat d = record {
  one = λ s p few. let x = half_given s d p.0 p.1 p.2 few in (x.out, x.state, x.step);
  again = λ s t out p f. let x = half_leaves s d out t p.0 f in ((x.good, x.answered, x.lives d ∙ p.2), x.half_steps);
}

pub times_cut : {T E U F V G : Type 0} (d i : ℕ) {m mid now : Machine} {a b c : Option (List ℕ)} {k l n : ℕ} {u : T} (count : ℕ) (q : Result U F) (r : Result V G)
    → i < count → IsTrue (is_living_in m d) → m.half_steps + count ≤ MOST_HALF_STEPS → IsErr q → IsErr r
    → Performed {T = T} {E = E} (Performs (times i (HalfStep d))) m mid (between a b k l) (Ok u) → Performed (Performs (HalfStep d ∷ [])) mid now (between b c l n) q
    → Performed (Performs (times count (HalfStep d))) m now (between a c k n) r
times_cut d i {m} count q r lt lives = repeats_cut (HalfStep d) (Lives d) i count q r (halves_repeat d) (λ s g st. (g, st.answered, sym (living_same m s d g st) ∙ lives)) lt
