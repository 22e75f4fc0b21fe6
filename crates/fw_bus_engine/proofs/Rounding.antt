-- One round: a half step of each living controller.
use Rattle.fw_bus_engine.proofs.Common.{◌≡◌, ℕ, ◌+◌, ◌-◌, ◌<◌, ◌≤◌, List, [], ◌∷◌, ◌++◌, length, true, false, cond}
use Rattle.fw_bus_engine.proofs.Common.{Option, refl, ap, sym, subst, ◌∙◌, arith, append-nil, IsTrue, IsFalse, Ok, IsErr, Result}
use Rattle.fw_bus_engine.proofs.Common.{MOST_HALF_STEPS, State, is_living, numbers_to, HalfStep, Transitions, half_steps_of, steps_then, Machine, between, is_living_in, living_in, Performs, Performed}
use Rattle.fw_bus_engine.proofs.Common.{living_same}
use Rattle.std.proofs.lemmas.List.{map-append, length-append}
use Rattle.fw_bus_engine.specs.Performing.{RoundTo, OneRound}
use Rattle.fw_bus_engine.proofs.Doings.{GoesOn, Follows, does_cut, does_then}
use Rattle.fw_bus_engine.proofs.OneAction.{does_when, does_nothing}
use Rattle.fw_bus_engine.proofs.Halves.{AllLive, all_live, all_live_still, halves_after, halves_given}
use Rattle.fw_bus_state.proofs.Living.{living_list}
use Rattle.fw_bus_state.proofs.Numbers.{numbers_prefix, numbers_more}

-- ---- the others

live_rest : (s : State) (xs ys : List ℕ) → AllLive s (xs ++ ys) → AllLive s ys
live_rest s [] ys f = f
live_rest s (x ∷ xs) ys f = live_rest s xs ys f.1

halves_append : (xs ys : List ℕ) → half_steps_of (xs ++ ys) ≡ half_steps_of xs ++ half_steps_of ys
halves_append xs ys = map-append HalfStep xs ys

-- ---- calls of the machine

pub round_none : {T E : Type 0} (m : Machine) (held : Option (List ℕ)) (k : ℕ) (u : T) → Performed {T = T} {E = E} (RoundTo 0) m m (between held held k k) (Ok u)
unfolding numbers_to
round_none m held k u = does_nothing m held k u (λ s g st. (refl, (refl, refl)))

-- a device whose controller does not live takes none
pub round_skips : {T E : Type 0} (i : ℕ) {m now : Machine} {a b : Option (List ℕ)} {k l : ℕ} {u : T} → IsFalse (is_living_in m i)
    → Performed {T = T} {E = E} (RoundTo i) m now (between a b k l) (Ok u) → Performed {T = T} {E = E} (RoundTo (i + 1)) m now (between a b k l) (Ok u)
round_skips i {m} off d = does_when (λ s t xs out g st p f.
    let none : is_living s i ≡ false = sym (living_same m s i g st) ∙ off in
    let same : numbers_to i (is_living s) ≡ numbers_to (i + 1) (is_living s) =
    sym (append-nil (numbers_to i (is_living s))) ∙ (sym (ap (λ b. numbers_to i (is_living s) ++ cond b (i ∷ []) []) none) ∙ sym (numbers_more i (is_living s))) in
    (p.0 ∙ ap half_steps_of same, subst (λ z. Transitions s (half_steps_of z) out t) same p.1)) d

round_follows : {m : Machine} (i : ℕ) → IsTrue (is_living_in m i) → Follows m (RoundTo i) (Performs (HalfStep i ∷ [])) (RoundTo (i + 1))
round_follows {m} i lives s mid t xs ys a b g st p f q h =
    let on : is_living s i ≡ true = sym (living_same m s i g st) ∙ lives in
    let same : half_steps_of (numbers_to i (is_living s)) ++ HalfStep i ∷ [] ≡ half_steps_of (numbers_to (i + 1) (is_living s)) =
    sym (halves_append (numbers_to i (is_living s)) (i ∷ []))
    ∙ ap half_steps_of (sym (ap (λ b. numbers_to i (is_living s) ++ cond b (i ∷ []) []) on) ∙ sym (numbers_more i (is_living s))) in
    let both = (λ j. p.0 j ++ q.0 j) ∙ same in
    (both, subst (λ z. Transitions s z (a ++ b) t) both (steps_then s mid t xs ys a b f h))

-- one device more, whose controller lives
pub round_then : {T E U F : Type 0} (i : ℕ) {m mid now : Machine} {a b c : Option (List ℕ)} {k l n : ℕ} {u : T} {r : Result U F} → IsTrue (is_living_in m i)
    → Performed {T = T} {E = E} (RoundTo i) m mid (between a b k l) (Ok u) → Performed (Performs (HalfStep i ∷ [])) mid now (between b c l n) r → Performed (RoundTo (i + 1)) m now (between a c k n) r
round_then i {r = r} lives d e = does_then r (round_follows i lives) d e

-- the others can take theirs
round_goes_on : (m : Machine) (j : ℕ) → j ≤ length m.devices.names → m.half_steps + length (living_in m) ≤ MOST_HALF_STEPS → GoesOn m (RoundTo j) OneRound
round_goes_on m j le few s u xs a g st p f =
    let names = ap (λ (z : List (List ℕ)). length z) st.devices.names in
    let count = length s.declared.names in
    let all : j + (count - j) ≡ count = omega (arith, le, names) in
    let rest = numbers_prefix j (count - j) (is_living s) in
    let split : numbers_to count (is_living s) ≡ numbers_to j (is_living s) ++ rest.0 = ap (λ n. numbers_to n (is_living s)) (sym all) ∙ rest.1 in
    let lives : AllLive s rest.0 = live_rest s (numbers_to j (is_living s)) rest.0 (subst (AllLive s) split (all_live s count)) in
    let after = halves_after (numbers_to j (is_living s)) s a u g st.answered p.1 in
    let given = after.half_steps in
    let steps = st.clock.half_steps in
    let size : length (living_in m) ≡ length (numbers_to j (is_living s)) + length rest.0 =
    ap (λ (z : List ℕ). length z) (living_list m s g st ∙ split) ∙ length-append (numbers_to j (is_living s)) rest.0 in
    let r = halves_given rest.0 u after.good after.answered (all_live_still s u _ rest.0 after lives) (omega (arith, few, given, steps, size)) in
    let both : xs ++ half_steps_of rest.0 ≡ half_steps_of (numbers_to count (is_living s)) =
    ap (λ z. z ++ half_steps_of rest.0) p.0 ∙ (sym (halves_append (numbers_to j (is_living s)) rest.0) ∙ sym (ap half_steps_of split)) in (
      half_steps_of rest.0,
      r.out,
      r.state,
      (both, subst (λ z. Transitions s z (a ++ r.out) r.state) both (steps_then s u r.state xs (half_steps_of rest.0) a r.out f r.steps)),
      r.steps,
    )

-- a half step was cut off
pub round_cut : {T E U F V G : Type 0} (i : ℕ) {m mid now : Machine} {a b c : Option (List ℕ)} {k l n : ℕ} {u : T} (q : Result U F) (r : Result V G)
    → i < length m.devices.names → IsTrue (is_living_in m i) → m.half_steps + length (living_in m) ≤ MOST_HALF_STEPS → IsErr q → IsErr r
    → Performed {T = T} {E = E} (RoundTo i) m mid (between a b k l) (Ok u) → Performed (Performs (HalfStep i ∷ [])) mid now (between b c l n) q → Performed OneRound m now (between a c k n) r
round_cut i {m} q r lt lives few was is f e = does_cut q r (round_goes_on m (i + 1) (omega (arith, lt)) few) was is (round_then i lives f e)

-- each has taken its half step
pub round_all : {T E : Type 0} (i : ℕ) {m now : Machine} {a b : Option (List ℕ)} {k l : ℕ} {u : T} → i ≡ length m.devices.names
    → Performed {T = T} {E = E} (RoundTo i) m now (between a b k l) (Ok u) → Performed {T = T} {E = E} OneRound m now (between a b k l) (Ok u)
round_all i e d = does_when (λ s t xs out g st p f.
    let names = ap (λ (z : List (List ℕ)). length z) st.devices.names in subst (λ n. RoundTo n s xs out t) (e ∙ names) p) d
