-- A wait by its parts: cycles go by, and if the second is over on the way, that comes at its own cycle.
use Rattle.fw_bus_engine.proofs.Common.{◌≡◌, ℕ, ◌+◌, ◌-◌, ◌<◌, ◌≤◌, ◌^◌, List, [], ◌∷◌, ◌++◌, true, false, Option}
use Rattle.fw_bus_engine.proofs.Common.{None, refl, ap, sym, subst, ◌∙◌, arith, IsTrue, Result, Ok, IsErr, Account, Timed, State}
use Rattle.fw_bus_engine.proofs.Common.{Action, Pass, EndSecond, Transitions, Carries, steps_then, Directory, Machine, between, IsReady, Performs, Performed, Failed}
use Rattle.fw_order.specs.declared.order.Order.TheVariants.{Wait}
use Rattle.fw_model_run.specs.Afterwards.{after_cycles, after_second}
use Rattle.fw_model_run.specs.Carrying.{waits, waits_over}
use Rattle.fw_model_run.proofs.Times.{second_ends}
use Rattle.fw_bus_engine.specs.Resetting.{RestsAfterSecond}
use Rattle.fw_bus_engine.proofs.Doings.{GoesOn, does_then, does_cut, acts_follow, ready_after}
use Rattle.fw_bus_engine.proofs.OneAction.{one_step, does_as, does_silent}
use Rattle.fw_bus_engine.proofs.SecondTurns.{pass_turns, passed_by}

-- ---- what is known of the time

-- while a second runs it is not over yet
pub ready_second : {m : Machine} → IsReady m → m.reclaiming ≡ true → m.cycle < m.directory.over_at
ready_second {m} r runs =
    let before = r.good.time.second (sym r.stands.clock.reclaiming ∙ runs) in
    let cycle = r.stands.clock.cycle in
    let over_at : m.directory.over_at ≡ r.state.clock.over_at = ap (λ (x : Directory). x.over_at) r.stands.directory in
    omega (arith, before, cycle, over_at)

-- ---- cycles alone

-- the end of the second lies after the cycles that go by, or none runs
pub waits_by : {T E : Type 0} (m now : Machine) (n : ℕ) (held : Option (List ℕ)) (k : ℕ) (u : T) → m.cycle + n ≤ 2 ^ 52
    → (m.reclaiming ≡ true → m.cycle + n < m.directory.over_at) → now ≡ passed_by m n
    → Performed {T = T} {E = E} (λ s. Carries s (Wait n)) m now (between held held k k) (Ok u)
waits_by {T} {E} m now n held k u few before is =
    does_as {P = Performs (Pass n ∷ [])} {Q = λ s. Carries s (Wait n)} carries (does_silent held k m.cycle u (pass_turns m now n few before is))
  where
    carries : (s t : State) (xs : List Action) (out : List Timed) → Performs (Pass n ∷ []) s xs out t → Carries s (Wait n) xs out t
    carries s t xs out f = subst (λ ys. Carries s (Wait n) ys out t) (sym f.0) (waits f.1)

-- ---- with the end of the second on the way

-- these actions carry a wait out
over_carries : (n before after : ℕ) → n ≡ before + 1 + after → (s t : State) (xs : List Action) (out : List Timed)
    → Performs (Pass before ∷ EndSecond ∷ Pass after ∷ []) s xs out t → Carries s (Wait n) xs out t
over_carries n before after same s t xs out f = subst (λ ys. Carries s (Wait n) ys out t) (sym f.0) (waits_over same f.1)

-- the state after the end of the second
ended_is : (s u : State) (a : List Timed) → Transitions s (EndSecond ∷ []) a u → u ≡ after_cycles (after_second s) 1
ended_is s u a f = f.5.1 ∙ f.3.state_is

-- it no longer runs
ended_rests : (s : State) → IsTrue s.account.reclaiming → (after_cycles (after_second s) 1).account.reclaiming ≡ false
ended_rests s runs = ap (λ (l : Account). l.reclaiming) (second_ends s.account runs)

-- cycles may go by after it
pass_goes : (m : Machine) (n : ℕ) → m.reclaiming ≡ true → m.cycle + 1 + n ≤ 2 ^ 52 → GoesOn m (Performs (EndSecond ∷ [])) (Performs (EndSecond ∷ Pass n ∷ []))
pass_goes m n runs few s u xs a g st p steps =
    let is = ended_is s u a p.1 in
    let t : State = after_cycles u n in
    let rests : u.account.reclaiming ≡ false = ap (λ (x : State). x.account.reclaiming) is ∙ ended_rests s (sym st.clock.reclaiming ∙ runs) in
    let cycle : u.clock.cycle ≡ s.clock.cycle + 1 = ap (λ (x : State). x.clock.cycle) is in
    let same = st.clock.cycle in
    let small : u.clock.cycle + n ≤ 2 ^ 52 = omega (arith, few, same, cycle) in
    let answered : u.transaction ≡ None = ap (λ (x : State). x.transaction) is ∙ st.answered in
    let second : IsTrue u.account.reclaiming → u.clock.cycle + n < u.clock.over_at =
    λ runs. let no : false ≡ true = sym rests ∙ runs in let bad : ⊥ = cc in absurd bad in
    let passes : Transitions u (Pass n ∷ []) [] t = one_step u t (Pass n) []
    (record { found = tt; waits = answered; may = record { fits = small; within = second }; out_is = refl; state_is = refl }) in
    (Pass n ∷ [], [], t, (ap (λ z. z ++ Pass n ∷ []) p.0, steps_then s u t (EndSecond ∷ []) (Pass n ∷ []) a [] p.1 passes), passes)

-- the machine at the cycle before the second is over
abbrev pub before_end : Machine → Machine
before_end m = passed_by m (m.directory.over_at - 1 - m.cycle)

-- all cycles went by, and the second was over on the way
pub waits_all : {T E : Type 0} (m mid now : Machine) (last : ℕ) (held after : Option (List ℕ)) (k l : ℕ) (u : T) → IsReady m → m.reclaiming ≡ true
    → m.directory.over_at ≤ last → last ≤ 2 ^ 52
    → Performed {T = T} {E = E} (Performs (EndSecond ∷ [])) (before_end m) mid (between held after k l) (Ok u) → RestsAfterSecond (before_end m) mid
    → now ≡ passed_by mid (last - mid.cycle)
    → Performed {T = T} {E = E} (λ s. Carries s (Wait (last - m.cycle))) m now (between held after k l) (Ok u)
waits_all {T} {E} m mid now last held after k l u ready runs late few ended rests is =
    does_as {P = Performs (Pass before ∷ EndSecond ∷ Pass following ∷ [])} {Q = λ s. Carries s (Wait (last - m.cycle))}
    (over_carries (last - m.cycle) before following same)
    (does_then (Ok u) (acts_follow (Pass before ∷ []) (EndSecond ∷ Pass following ∷ [])) first
    (does_then (Ok u) (acts_follow (EndSecond ∷ []) (Pass following ∷ [])) ended onward))
  where
    second : m.cycle < m.directory.over_at
    second = ready_second ready runs

    before : ℕ
    before = m.directory.over_at - 1 - m.cycle

    following : ℕ
    following = last - mid.cycle

    cycle : mid.cycle ≡ m.cycle + (m.directory.over_at - 1 - m.cycle) + 1
    cycle = ap (λ (x : Machine). x.cycle) rests.after

    same : last - m.cycle ≡ m.directory.over_at - 1 - m.cycle + 1 + (last - mid.cycle)
    same = omega (arith, second, late, cycle)

    first : Performed {T = T} {E = E} (Performs (Pass before ∷ [])) m (before_end m) (between held held k k) (Ok u)
    first = does_silent held k m.cycle u (pass_turns m (before_end m) before (omega (arith, second, late, few)) (λ x. omega (arith, second)) refl)

    none : mid.reclaiming ≡ true → mid.cycle + following < mid.directory.over_at
    none x = let no : false ≡ true = sym (ap (λ (z : Machine). z.reclaiming) rests.after) ∙ x in let bad : ⊥ = cc in absurd bad

    onward : Performed {T = T} {E = E} (Performs (Pass following ∷ [])) mid now (between after after l l) (Ok u)
    onward = does_silent after l mid.cycle u (pass_turns mid now following (omega (arith, second, late, few, cycle)) none is)

-- the entry of the end of the second was cut off
pub waits_cut : {T E U F : Type 0} (m mid now : Machine) (last : ℕ) (held after : Option (List ℕ)) (k l : ℕ) (u : T) (q : Result U F) (r : Result T E)
    → IsReady m → m.reclaiming ≡ true → m.directory.over_at ≤ last → last ≤ 2 ^ 52
    → IsErr q → IsErr r → Performed (Performs (EndSecond ∷ [])) (before_end m) mid (between held after k l) q
    → Performed (λ s. Carries s (Wait (last - m.cycle))) m now (between held after k l) r
waits_cut {T} {E} m mid now last held after k l u q r ready runs late few was is ended =
    does_as {P = Performs (Pass before ∷ EndSecond ∷ Pass following ∷ [])} {Q = λ s. Carries s (Wait (last - m.cycle))}
    (over_carries (last - m.cycle) before following same)
    (does_then r (acts_follow (Pass before ∷ []) (EndSecond ∷ Pass following ∷ [])) first
    (does_cut {P = Performs (EndSecond ∷ [])} {R = Performs (EndSecond ∷ Pass following ∷ [])} q r
    (pass_goes (before_end m) following runs (omega (arith, second, late, few))) was is ended))
  where
    second : m.cycle < m.directory.over_at
    second = ready_second ready runs

    before : ℕ
    before = m.directory.over_at - 1 - m.cycle

    following : ℕ
    following = last - m.directory.over_at

    same : last - m.cycle ≡ m.directory.over_at - 1 - m.cycle + 1 + (last - m.directory.over_at)
    same = omega (arith, second, late)

    first : Performed {T = T} {E = E} (Performs (Pass before ∷ [])) m (before_end m) (between held held k k) (Ok u)
    first = does_silent held k m.cycle u (pass_turns m (before_end m) before (omega (arith, second, late, few)) (λ x. omega (arith, second)) refl)

-- ---- the machine is ready between the parts

-- at the cycle before the second is over
pub ready_before : {m : Machine} → IsReady m → m.reclaiming ≡ true → m.directory.over_at ≤ 2 ^ 52 → IsReady (before_end m)
ready_before {m} r runs few =
    let second = ready_second r runs in
    ready_after {E = Failed} r (does_silent {T = Unit {0}} {E = Failed} None 0 m.cycle tt
    (pass_turns m (before_end m) (m.directory.over_at - 1 - m.cycle) (omega (arith, second, few)) (λ x. omega (arith, second)) refl))

-- and when it is over
pub ready_over : {T E : Type 0} {m mid : Machine} {a b : Option (List ℕ)} {k l : ℕ} {u : T} → IsReady m → m.reclaiming ≡ true → m.directory.over_at ≤ 2 ^ 52
    → Performed {T = T} {E = E} (Performs (EndSecond ∷ [])) (before_end m) mid (between a b k l) (Ok u) → IsReady mid
ready_over r runs few ended = ready_after (ready_before r runs few) ended
