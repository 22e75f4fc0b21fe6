-- Controllers that have nothing to do, while half steps are taken.
use Rattle.fw_bus_engine.proofs.Common.{◌≡◌, ◌≢◌, ◌⊎◌, inl, inr, ℕ, zero, suc, ◌+◌, ◌-◌, ◌<◌, ◌≤◌, List, [], ◌∷◌}
use Rattle.fw_bus_engine.proofs.Common.{length, Bool, true, false, cond, Option, refl, ap, sym, subst, ◌∙◌, arith, IsTrue, IsFalse}
use Rattle.fw_bus_engine.proofs.Common.{Ok, cases_eq, nat_tests, update, Timed, IsAtRest, MOST_HALF_STEPS, State, is_deaf}
use Rattle.fw_bus_engine.proofs.Common.{is_living, numbers_to, half, after_half, Action, Transitions, half_steps_of, IsGood}
use Rattle.fw_bus_engine.proofs.Common.{Machine, Execution, Performed, between, IsReady, is_living_in, living_in, states_of, quiet_here, state_same}
use Rattle.std.proofs.lemmas.Bool.{cases_lt}
use Rattle.fw_model_run.specs.State.{living}
use Rattle.fw_model_run.specs.HalfSteps.{is_busy_at}
use Rattle.fw_model_run.proofs.Idle.{half_stays}
use Rattle.fw_bus_engine.specs.Performing.{RoundTo, OneRound}
use Rattle.fw_bus_state.specs.Stands.{EndsAt}
use Rattle.fw_bus_engine.proofs.OneAction.{does_silent}
use Rattle.fw_bus_engine.proofs.Halves.{half_leaves}
use Rattle.fw_bus_state.proofs.Heard.{lost_same}
use Rattle.fw_model_run.proofs.Taking.{Taken, listens, keeps_deaf, forces_reset, taken_as}
use Rattle.fw_bus_state.proofs.Idles.{not_busy}
use Rattle.fw_bus_engine.proofs.Rounding.{round_skips, round_then, round_all}
use Rattle.fw_bus_state.proofs.Numbers.{count_more, count_prefix}
use Rattle.fw_bus_engine.proofs.StepTurns.{idle_turns}

-- ---- half steps leave a controller at rest that has nothing to do

calm_half : (s : State) (d e : ℕ) → IsGood s → IsAtRest (s.controllers e) → IsAtRest ((after_half s d).controllers e)
calm_half s d e g rests = at (cases_eq e d)
  where
    at : (e ≡ d) ⊎ (e ≢ d) → IsAtRest ((after_half s d).controllers e)
    at (inl is) =
        let idle : is_busy_at s d ≡ false = subst (λ k. is_busy_at s k ≡ false) is (not_busy s e rests) in
        subst (λ (t : State). IsAtRest (t.controllers e)) (sym (half_stays s d g idle)) rests
    at (inr ne) =
        let same : update s.controllers d (half s d).controller e ≡ s.controllers e = grind (arith, nat_tests, ne) in
        subst IsAtRest (sym same) rests

-- none has lost a response
abbrev pub NoneDeaf : State → Type 0
NoneDeaf s = (d : ℕ) → IsFalse (is_deaf s d)

calm_taken : (s : State) (d e : ℕ) (out : List Timed) (t : State) → IsGood s → NoneDeaf s → Taken s d out t → IsAtRest (s.controllers e) → IsAtRest (t.controllers e) × NoneDeaf t
calm_taken s d e out t g none (listens quiet said is) rests = subst (λ (z : State). IsAtRest (z.controllers e) × NoneDeaf z) (sym is) (calm_half s d e g rests, none)
calm_taken s d e out t g none (keeps_deaf deaf said is) rests = let clash : false ≡ true = sym (none d) ∙ deaf in absurd (grind (arith, clash))
calm_taken s d e out t g none (forces_reset deaf r) rests = let clash : false ≡ true = sym (none d) ∙ deaf in absurd (grind (arith, clash))

calm_halves : (ds : List ℕ) (s : State) (out : List Timed) (t : State) (e : ℕ) → IsGood s → NoneDeaf s → Transitions s (half_steps_of ds) out t
    → IsAtRest (s.controllers e) → IsAtRest (t.controllers e) × NoneDeaf t
calm_halves [] s out t e g none f rests = subst (λ (z : State). IsAtRest (z.controllers e) × NoneDeaf z) (sym f.1) (rests, none)
calm_halves (d ∷ ds) s out t e g none f rests =
    let a = half_leaves s d f.0 f.2 g f.3 in
    let c = calm_taken s d e f.0 f.2 g none (taken_as s d f.0 f.2 f.3) rests in
    calm_halves ds f.2 f.1 t e a.good c.1 f.5 c.0

-- Of the controllers from `from` on and before `end`, each that lives has nothing to do.
abbrev pub CalmFrom : ℕ → ℕ → Machine → Type 0
CalmFrom from end m = (d : ℕ) → from ≤ d → d < end → IsTrue (is_living_in m d) → IsAtRest (states_of m.controllers d).state

-- those before `mid`, and those from there on
pub calm_from : (mid from end : ℕ) (m : Machine) → CalmFrom from mid m → CalmFrom mid end m → CalmFrom from end m
calm_from mid from end m before after = λ d low lt lives. go d low lt lives (cases_lt d mid)
  where
    go : (d : ℕ) → from ≤ d → d < end → IsTrue (is_living_in m d) → (d < mid) ⊎ (mid ≤ d) → IsAtRest (states_of m.controllers d).state
    go d low lt lives (inl x) = before d low x lives
    go d low lt lives (inr x) = after d x lt lives

-- none of the machine's has lost a response
abbrev pub NoneDeafIn : Machine → Type 0
NoneDeafIn m = (d : ℕ) → IsFalse (states_of m.controllers d).lost

-- what is done is half steps
calm_kept : {T E : Type 0} {P : Execution} {m now : Machine} {a b : Option (List ℕ)} {k l : ℕ} {u : T} (d : ℕ)
    → ((s t : State) (xs : List Action) (out : List Timed) → P s xs out t → (ds : List ℕ) × Transitions s (half_steps_of ds) out t) → IsReady m → NoneDeafIn m
    → Performed {T = T} {E = E} P m now (between a b k l) (Ok u) → IsAtRest (states_of m.controllers d).state → IsAtRest (states_of now.controllers d).state
calm_kept {m = m} {now} d halves r none f rests =
    let s = r.state in
    let x = f.shown s r.good r.stands in
    let h = halves s x.state x.actions x.out x.whole in
    let before = subst IsAtRest (state_same m s d r.stands (none d)) rests in
    let after = calm_halves h.0 s x.out x.state d r.good (λ e. quiet_here m s e r.stands (none e)) h.1 before in
    let still : IsFalse (states_of now.controllers d).lost = lost_same now x.state d x.stands ∙ after.1 d in
    subst IsAtRest (sym (state_same now x.state d x.stands still)) after.0

calm_to : {T E : Type 0} (i : ℕ) {m now : Machine} {a b : Option (List ℕ)} {k l : ℕ} {u : T} (d : ℕ) → IsReady m → NoneDeafIn m
    → Performed {T = T} {E = E} (RoundTo i) m now (between a b k l) (Ok u) → IsAtRest (states_of m.controllers d).state → IsAtRest (states_of now.controllers d).state
calm_to i d r none f rests = calm_kept d (λ s t xs out p. (numbers_to i (is_living s), p.1)) r none f rests

pub calm_after : {T E : Type 0} {m now : Machine} {a b : Option (List ℕ)} {k l : ℕ} {u : T} (d : ℕ) → IsReady m → NoneDeafIn m
    → Performed {T = T} {E = E} OneRound m now (between a b k l) (Ok u) → IsAtRest (states_of m.controllers d).state → IsAtRest (states_of now.controllers d).state
calm_after d r none f rests = calm_kept d (λ s t xs out p. (living s, p.1)) r none f rests

-- ---- the half steps of those at the end of a round

-- what a machine has done of a round, if it has counted the half steps of the first n devices
abbrev Counted : (T E : Type 0) → ℕ → Machine → Machine → Option (List ℕ) → Option (List ℕ) → ℕ → ℕ → T → Type 0
Counted T E n m now a b c l u = Performed {T = T} {E = E} (RoundTo n) m (record now { half_steps = m.half_steps + length (numbers_to n (is_living_in m)) }) (between a b c l) (Ok u)

-- one device more: if it lives, it has nothing to do
rests_more : {T E : Type 0} (j : ℕ) (m now : Machine) {a b : Option (List ℕ)} {c l : ℕ} {u : T}
    → ((d : ℕ) → is_living_in now d ≡ is_living_in m d) → (IsTrue (is_living_in m j) → IsAtRest (states_of now.controllers j).state)
    → m.half_steps + length (numbers_to (j + 1) (is_living_in m)) ≤ MOST_HALF_STEPS → Counted T E j m now a b c l u → Counted T E (j + 1) m now a b c l u
rests_more {T} {E} j m now {a} {b} {c} {l} {u} lives rests few before = go (is_living_in m j) refl
  where
    size : ℕ → ℕ
    size n = length (numbers_to n (is_living_in m))

    as_counted : (h : ℕ) → h ≡ m.half_steps + size (j + 1) → Performed {T = T} {E = E} (RoundTo (j + 1)) m (record now { half_steps = h }) (between a b c l) (Ok u)
        → Counted T E (j + 1) m now a b c l u
    as_counted h is f = subst (λ k. Performed {T = T} {E = E} (RoundTo (j + 1)) m (record now { half_steps = k }) (between a b c l) (Ok u)) is f

    go : (x : Bool) → is_living_in m j ≡ x → Counted T E (j + 1) m now a b c l u
    go true on =
        let mid : Machine = record now { half_steps = m.half_steps + size j } in
        let more : size (j + 1) ≡ size j + 1 = count_more j (is_living_in m) ∙ ap (λ x. size j + cond x 1 0) on in
        let turns = idle_turns mid j (lives j ∙ on) (omega (arith, few, more)) (rests on) in
        as_counted (m.half_steps + size j + 1) (omega (arith, more)) (round_then j on before (does_silent {T = T} {E = E} b l now.cycle u turns))
    go false off =
        let more : size (j + 1) ≡ size j + 0 = count_more j (is_living_in m) ∙ ap (λ x. size j + cond x 1 0) off in
        as_counted (m.half_steps + size j) (omega (arith, more)) (round_skips j off before)

-- Each of the k next ones that lives has nothing to do: their half steps are only counted.
rests_to : {T E : Type 0} (k i : ℕ) (m now : Machine) {a b : Option (List ℕ)} {c l : ℕ} {u : T}
    → ((d : ℕ) → is_living_in now d ≡ is_living_in m d)
    → ((d : ℕ) → i ≤ d → d < i + k → IsTrue (is_living_in m d) → IsAtRest (states_of now.controllers d).state)
    → now.half_steps ≡ m.half_steps + length (numbers_to i (is_living_in m))
    → m.half_steps + length (numbers_to (i + k) (is_living_in m)) ≤ MOST_HALF_STEPS
    → Performed {T = T} {E = E} (RoundTo i) m now (between a b c l) (Ok u) → Counted T E (i + k) m now a b c l u
rests_to {T} {E} zero i m now {a} {b} {c} {l} {u} lives rests count few f =
    let none : i ≡ i + 0 = omega arith in
    subst (λ n. Counted T E n m now a b c l u) none (subst (λ h. Performed {T = T} {E = E} (RoundTo i) m (record now { half_steps = h }) (between a b c l) (Ok u)) count f)
rests_to {T} {E} (suc k) i m now {a} {b} {c} {l} {u} lives rests count few f =
    let one : i + suc k ≡ i + k + 1 = omega arith in
    let most : m.half_steps + length (numbers_to (i + k + 1) (is_living_in m)) ≤ MOST_HALF_STEPS = subst (λ n. m.half_steps + length (numbers_to n (is_living_in m)) ≤ MOST_HALF_STEPS) one few in
    let prefix = count_prefix (i + k) (i + k + 1) (is_living_in m) (omega arith) in
    let before = rests_to k i m now lives (λ d low lt. rests d low (omega (arith, lt))) count (omega (arith, most, prefix)) f in
    subst (λ n. Counted T E n m now a b c l u) (sym one) (rests_more {T = T} {E = E} (i + k) m now lives (rests (i + k) (omega arith) (omega arith)) most before)

-- those from `end` on have nothing to do
pub round_rests : {T E : Type 0} (end after : ℕ) {m now : Machine} {a b : Option (List ℕ)} {c l : ℕ} {u : T} → IsReady m
    → end ≤ length m.devices.names → after ≡ m.half_steps + length (living_in m) → after ≤ MOST_HALF_STEPS
    → ((d : ℕ) → is_living_in now d ≡ is_living_in m d)
    → EndsAt m end
    → now.half_steps ≡ m.half_steps + length (numbers_to end (is_living_in m))
    → Performed {T = T} {E = E} (RoundTo end) m now (between a b c l) (Ok u)
    → Performed {T = T} {E = E} OneRound m (record now { half_steps = after }) (between a b c l) (Ok u)
round_rests {T} {E} end after {m} {now} {a} {b} {c} {l} {u} ready within is few alive ends count f =
    let size : ℕ → ℕ = λ n. length (numbers_to n (is_living_in m)) in
    let k = length m.devices.names - end in
    let all : end + k ≡ length m.devices.names = omega (arith, within) in
    let whole : size (end + k) ≡ length (living_in m) = ap size all in
    let rests : (d : ℕ) → end ≤ d → d < end + k → IsTrue (is_living_in m d) → IsAtRest (states_of now.controllers d).state =
    λ d low lt lives. elim ends [
      | inl is ↦ absurd (omega (arith, low, lt, all, is))
      | inr h ↦ calm_to end d ready h.0 f (h.1 d low (omega (arith, lt, all)) lives)
    ] in
    let done = rests_to k end m now alive rests count (omega (arith, few, is, whole)) f in
    let counts : m.half_steps + size (end + k) ≡ after = omega (arith, is, whole) in
    round_all (end + k) all (subst (λ h. Performed {T = T} {E = E} (RoundTo (end + k)) m (record now { half_steps = h }) (between a b c l) (Ok u)) counts done)
