-- What the orders of deaths and starts are, by their actions.
use Rattle.fw_bus_engine.proofs.Common.{◌≡◌, ℕ, ◌&&◌, not, List, [], ◌∷◌, ◌++◌, Bool, true, false, Some, None}
use Rattle.fw_bus_engine.proofs.Common.{is_some, refl, ap, sym, subst, ◌∙◌, IsTrue, Timed, at_most, State, is_living, linked_number}
use Rattle.fw_bus_engine.proofs.Common.{after_half, Action, Transitions, Carries, IsGood, Machine, Performs, StandsFor, is_living_in, states_of, dead_of, living_same}
use Rattle.std.specs.Prelude.{IsFalse}
use Rattle.fw_order.specs.declared.order.Order.TheVariants as Orders
use Rattle.fw_model_run.specs.Entries.{died}
use Rattle.fw_model_run.specs.Actions.{Die, CarryOut, Start}
use Rattle.fw_model_run.specs.Afterwards.{after_death}
use Rattle.fw_model_run.specs.Carrying.{dies, dies_late, dies_idle, starts, goes_on}
use Rattle.fw_model_run.proofs.Settling.{half_turn}
use Rattle.fw_bus_engine.proofs.Doings.{Follows, GoesOn, acts_follow}
use Rattle.fw_bus_engine.proofs.OneAction.{one_step}
use Rattle.fw_cmp.specs.Losses.{MayTurn}
use Rattle.fw_bus_state.proofs.Heard.{may_rest}

-- ---- what a death is

-- the order, if no request is to be carried out
pub dies_at : (m : Machine) (d : ℕ) (late : Bool) → (late ≡ true → MayTurn (states_of m.controllers d))
    → (s t : State) (xs : List Action) (out : List Timed) → IsGood s → StandsFor m s → Performs (Die d ∷ []) s xs out t → Transitions s xs out t
    → Carries s (Orders.Die d late) xs out t
dies_at m d false quiet s t xs out g st f p = subst (λ z. Carries s (Orders.Die d false) z out t) (sym f.0) (dies f.1)
dies_at m d true quiet s t xs out g st f p =
    subst (λ z. Carries s (Orders.Die d true) z out t) (sym f.0) (dies_idle (may_rest m s d g st (quiet refl)) f.1)

-- the request is carried out, and then it dies
pub late_follows : (m : Machine) (d : ℕ) → Follows m (Performs (CarryOut d ∷ [])) (Performs (Die d ∷ [])) (λ s. Carries s (Orders.Die d true))
late_follows m d s mid t xs ys a b good st f p g q =
    let both = acts_follow {m = m} (CarryOut d ∷ []) (Die d ∷ []) s mid t xs ys a b good st f p g q in
    subst (λ z. Carries s (Orders.Die d true) z (a ++ b) t) (sym both.0) (dies_late both.1)

-- it can die once the request is carried out
pub late_goes : (m : Machine) (d : ℕ) → IsTrue (is_living_in m d) → GoesOn m (Performs (CarryOut d ∷ [])) (λ s. Carries s (Orders.Die d true))
late_goes m d lives s u xs a g st f p =
    let living : IsTrue (is_living s d) = subst IsTrue (living_same m s d g st) lives in
    let still = (half_turn s d g living).1 in
    let is : u ≡ after_half s d = f.1.5.1 ∙ f.1.3.state_is in
    let lives_after : IsTrue (is_living (after_half s d) d) = (λ i. is_some (linked_number (still.latest i) d) && not (still.dead i d)) ∙ living in
    let lives_now : IsTrue (is_living u d) = subst (λ x. IsTrue (is_living x d)) (sym is) lives_after in
    let quiet : u.transaction ≡ None = ap (λ (x : State). x.transaction) is ∙ st.answered in
    let step = one_step u (after_death u d) (Die d) (at_most u.clock.cycle (Some (died d))) (record { found = tt; waits = quiet; may = lives_now; out_is = refl; state_is = refl }) in (
      Die d ∷ [],
      at_most u.clock.cycle (Some (died d)),
      after_death u d,
      late_follows m d s u (after_death u d) xs (Die d ∷ []) a (at_most u.clock.cycle (Some (died d))) g st f p (refl, step) step,
      step,
    )

-- ---- what a start is

pub starts_at : (d : ℕ) (s t : State) (xs : List Action) (out : List Timed) → Performs (Start d ∷ []) s xs out t → Carries s (Orders.Start d) xs out t
starts_at d s t xs out f = subst (λ z. Carries s (Orders.Start d) z out t) (sym f.0) (starts f.1)

-- a living controller goes on
pub goes_on_at : (m : Machine) (d : ℕ) → IsFalse (dead_of m.controllers d) → (s : State) → IsGood s → StandsFor m s → Carries s (Orders.Start d) [] [] s
goes_on_at m d lives s g st = goes_on (sym (ap (λ (c : ℕ → Bool). c d) st.table.dead_are) ∙ lives)
