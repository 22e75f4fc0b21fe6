-- What an order does: the actions that the state decides, if it decides them.
use Rattle.fw_model_run.proofs.Common.{◌≡◌, ◌⊎◌, inl, inr, ℕ, ◌+◌, ◌-◌, ◌<◌, ◌≤◌, ◌&&◌, nat_le, List, [], ◌∷◌, ◌++◌, Bool, true, false, Option, Some, None, is_some, refl, ap, sym, subst, ◌∙◌, arith}
use Rattle.fw_model_run.proofs.Common.{IsTrue, IsFalse, Timed, Order, State, has_request, Action, Withhold, Unsettled}
use Rattle.fw_model_run.proofs.Common.{Pass, EndSecond, Die, CarryOut, Start, SendCommand, Receive, InsertTape, EjectTape}
use Rattle.fw_model_run.proofs.Common.{BecomeCandidate, Transitions, Rounds, SendsAll, HasCycles, Obeyed, Carries, withholds}
use Rattle.fw_model_run.proofs.Common.{withholds_already, declares, joins, resets, connects, breaks, steps, settled, waits}
use Rattle.fw_model_run.proofs.Common.{waits_over, writes_cycles, dies, dies_late, dies_idle, loses, starts, goes_on, transacts, shows, commanded, inserts, ejects, ejects_nothing, becomes_candidate}
use Rattle.fw_model_run.proofs.Common.{stays_candidate, contends, dubs, ends}
use Rattle.std.specs.Prelude.{if◌then◌else◌}
use Rattle.std.proofs.lemmas.Bool.{and_from, le-leb, lt-leb}
use Rattle.fw_order.specs.declared.order.Order.TheVariants as Orders
use Rattle.fw_model_run.specs.Bidding.{is_candidate}
use Rattle.fw_model_run.specs.Carrying.{unsettled}
use Rattle.fw_model_run.specs.HalfSteps.{is_unsettled}
use Rattle.fw_model_run.specs.Orders.{actions_of, cycles_before, death, is_over_within, unless, waiting}

-- ---- the second on the way

-- the cycle in which the second is over, told from the actions
pub over_after : (s t : State) (before : ℕ) (xs : List Action) (out : List Timed) → Transitions s (Pass before ∷ EndSecond ∷ xs) out t
    → IsTrue s.account.reclaiming × (s.clock.cycle + before + 1 ≡ s.clock.over_at)
over_after s t before xs out f = (
  sym (ap (λ (z : State). z.account.reclaiming) f.3.state_is) ∙ f.5.3.may.runs,
  sym (ap (λ (z : State). z.clock.cycle + 1) f.3.state_is) ∙ (f.5.3.may.over ∙ ap (λ (z : State). z.clock.over_at) f.3.state_is),
)

-- the second is not over on the way
not_over : (reclaiming : Bool) (over_at cycle : ℕ) → (IsTrue reclaiming → cycle < over_at) → (reclaiming && nat_le over_at cycle) ≡ false
not_over false over_at cycle f = refl
not_over true over_at cycle f = lt-leb over_at cycle (f refl)

-- ---- what an order does is decided

-- what an order does whose actions hang on the states on the way, or on what a desk gives
abbrev pub Undecided : State → Order → List Action → List Timed → State → Type 0
Undecided s (Orders.Settle n) ys out t =
    (xs : List Action) × (m : State) × (first : List Timed) × Rounds n s xs first m
    × ((IsFalse (is_unsettled m) × (out ≡ first) × (t ≡ m)) ⊎ ((last : List Timed) × Transitions m (Unsettled ∷ []) last t × (out ≡ first ++ last)))
Undecided s (Orders.Cycles n) ys out t = HasCycles n s ys out t
Undecided s (Orders.Command a b bytes) ys out t =
    (x : Option Obeyed) × (m : State) × (more : List Action) × (first : List Timed) × (rest : List Timed)
    × Transitions s (SendCommand a b bytes ∷ Receive x ∷ []) first m × SendsAll b m more rest t × (ys ≡ SendCommand a b bytes ∷ Receive x ∷ more) × (out ≡ first ++ rest)
Undecided s (Orders.Insert d tape system) ys out t = (m : State) × (more : List Action) × (first : List Timed) × (rest : List Timed)
    × Transitions s (InsertTape d tape system ∷ []) first m × SendsAll d m more rest t × (out ≡ first ++ rest)
Undecided s (Orders.Eject d) ys out t =
    ((m : State) × (more : List Action) × (first : List Timed) × (rest : List Timed) × Transitions s (EjectTape d ∷ []) first m × SendsAll d m more rest t × (out ≡ first ++ rest))
    ⊎ (IsFalse (is_some (s.decks d).unit.tape) × (out ≡ []) × (t ≡ s))
Undecided s _ ys out t = ⊥

-- the actions that were decided, if any were
abbrev pub CarriedAs : Option (List Action) → State → Order → List Action → List Timed → State → Type 0
CarriedAs None s o ys out t = Undecided s o ys out t
CarriedAs (Some decided) s o ys out t = (ys ≡ decided) × Transitions s decided out t

-- what an order does
abbrev pub CarriedBy : State → Order → List Action → List Timed → State → Type 0
CarriedBy s o ys out t = CarriedAs (actions_of s o) s o ys out t

-- the same list under another name
as_decided : (s t : State) (actions decided : List Action) (out : List Timed) → actions ≡ decided → Transitions s actions out t
    → (actions ≡ decided) × Transitions s decided out t
as_decided s t actions decided out e f = (e, subst (λ z. Transitions s z out t) e f)

-- if it is not so, the action is done
once : (so : Bool) (a : Action) → IsFalse so → a ∷ [] ≡ unless so a
once so a e = sym (ap (λ b. unless b a) e)

-- if it is so, nothing is done
already : (so : Bool) (a : Action) → IsTrue so → [] ≡ unless so a
already so a e = sym (ap (λ b. unless b a) e)

wait_within : (s t : State) (n : ℕ) (out : List Timed) → Transitions s (Pass n ∷ []) out t → Pass n ∷ [] ≡ waiting s n
wait_within s t n out f =
    let early : is_over_within s n ≡ false = not_over s.account.reclaiming s.clock.over_at (s.clock.cycle + n) f.3.may.within in
    sym (ap (λ b. if b then Pass (cycles_before s) ∷ EndSecond ∷ Pass (n - (cycles_before s + 1)) ∷ [] else Pass n ∷ []) early)

wait_over : (s t : State) (n before after : ℕ) (out : List Timed) → n ≡ before + 1 + after → Transitions s (Pass before ∷ EndSecond ∷ Pass after ∷ []) out t
    → Pass before ∷ EndSecond ∷ Pass after ∷ [] ≡ waiting s n
wait_over s t n before after out e f =
    let over = over_after s t before (Pass after ∷ []) out f in
    let reached : s.clock.over_at ≤ s.clock.cycle + n = let at = over.1 in omega (arith, e, at) in
    let on_the_way : is_over_within s n ≡ true = and_from _ _ over.0 (le-leb s.clock.over_at (s.clock.cycle + n) reached) in
    let first : before ≡ cycles_before s = let at = over.1 in omega (arith, at) in
    let last : after ≡ n - (cycles_before s + 1) = omega (arith, e, first) in
    (λ i. Pass (first i) ∷ EndSecond ∷ Pass (last i) ∷ [])
    ∙ sym (ap (λ b. if b then Pass (cycles_before s) ∷ EndSecond ∷ Pass (n - (cycles_before s + 1)) ∷ [] else Pass n ∷ []) on_the_way)

late_after : (s t : State) (d : ℕ) (out : List Timed) → Transitions s (CarryOut d ∷ Die d ∷ []) out t → CarryOut d ∷ Die d ∷ [] ≡ death s d true
late_after s t d out f = sym (ap (λ b. if b then CarryOut d ∷ Die d ∷ [] else Die d ∷ []) f.3.may.stands)

idle_after : (s : State) (d : ℕ) → IsFalse (has_request (s.controllers d).current) → Die d ∷ [] ≡ death s d true
idle_after s d e = sym (ap (λ b. if b then CarryOut d ∷ Die d ∷ [] else Die d ∷ []) e)

start_once : (s t : State) (d : ℕ) (out : List Timed) → Transitions s (Start d ∷ []) out t → Start d ∷ [] ≡ (if s.dead d then Start d ∷ [] else [])
start_once s t d out f = sym (ap (λ b. if b then Start d ∷ [] else []) f.3.may.dead)

start_not : (s : State) (d : ℕ) → IsFalse (s.dead d) → [] ≡ (if s.dead d then Start d ∷ [] else [])
start_not s d e = sym (ap (λ b. if b then Start d ∷ [] else []) e)

pub carried : (s : State) (o : Order) (xs : List Action) (out : List Timed) (t : State) → Carries s o xs out t → CarriedBy s o xs out t
carried s o xs out t (withholds f) = as_decided s t _ _ out (once s.account.withheld Withhold f.3.may.once) f
carried s o xs out t (withholds_already e) = as_decided s s _ _ [] (already s.account.withheld Withhold e) (refl, refl)
carried s o xs out t (declares f) = (refl, f)
carried s o xs out t (joins f) = (refl, f)
carried s o xs out t (resets f) = (refl, f)
carried s o xs out t (connects f) = (refl, f)
carried s o xs out t (breaks f) = (refl, f)
carried s o xs out t (steps f) = (refl, f)
carried s o xs out t (settled f e) = (xs, t, out, f, inl (e, refl, refl))
carried s o xs out t (unsettled m more first last f g) = (more, m, first, f, inr (last, g, refl))
carried s o xs out t (waits {n} f) = as_decided s t _ _ out (wait_within s t n out f) f
carried s o xs out t (waits_over {n} {before} {after} e f) = as_decided s t _ _ out (wait_over s t n before after out e f) f
carried s o xs out t (writes_cycles f) = f
carried s o xs out t (dies f) = (refl, f)
carried s o xs out t (dies_late {d} f) = as_decided s t _ _ out (late_after s t d out f) f
carried s o xs out t (dies_idle {d} e f) = as_decided s t _ _ out (idle_after s d e) f
carried s o xs out t (loses f) = (refl, f)
carried s o xs out t (starts {d} f) = as_decided s t _ _ out (start_once s t d out f) f
carried s o xs out t (goes_on {d} e) = as_decided s s _ _ [] (start_not s d e) (refl, refl)
carried s o xs out t (transacts f) = (refl, f)
carried s o xs out t (shows f) = (refl, f)
carried s o xs out t (commanded x m more first last f g) = (x, m, more, first, last, f, g, refl, refl)
carried s o xs out t (inserts m more first last f g) = (m, more, first, last, f, g, refl)
carried s o xs out t (ejects m more first last f g) = inl (m, more, first, last, f, g, refl)
carried s o xs out t (ejects_nothing e) = inr (e, refl, refl)
carried s o xs out t (becomes_candidate {d} f) = as_decided s t _ _ out (once (is_candidate s d) (BecomeCandidate d) f.3.may.fresh) f
carried s o xs out t (stays_candidate {d} e) = as_decided s s _ _ [] (already (is_candidate s d) (BecomeCandidate d) e) (refl, refl)
carried s o xs out t (contends f) = (refl, f)
carried s o xs out t (dubs f) = (refl, f)
carried s o xs out t (ends f) = (refl, f)

pub actions_are_decided : (s : State) (o : Order) (decided actions : List Action) (out : List Timed) (t : State) → actions_of s o ≡ Some decided → Carries s o actions out t
    → (actions ≡ decided) × Transitions s decided out t
actions_are_decided s o decided actions out t e f = subst (λ z. CarriedAs z s o actions out t) e (carried s o actions out t f)
