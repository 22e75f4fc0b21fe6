-- Half steps of one controller or candidate, one command each, are so many by one command.
use Rattle.fw_explore_laws.proofs.Common.{ℕ, zero, suc, ◌≡◌, ◌+◌, ◌≤◌, ◌<◌, List, [], ◌∷◌, ◌++◌, Ok, refl, sym, ap, subst, ◌∙◌, append-nil, arith, inl, inr, same_Some, Timed, Command, State, Action}
use Rattle.std.proofs.Common.{◌⊎◌, replicate}
use Rattle.fw_script_command.specs.declared.command.Command.TheVariants.{Step as StepCommand, Contend as ContendCommand}
use Rattle.fw_devices.specs.Network.{device_named}
use Rattle.fw_order.specs.declared.limits.TheConstants.{MOST_HALF_STEPS}
use Rattle.fw_order.specs.declared.order.Order.{Order}
use Rattle.fw_order.specs.declared.order.Order.TheVariants as order
use Rattle.fw_order.specs.declared.rule.RuleFault.{RuleFault}
use Rattle.fw_order.specs.declared.rule.RuleFault.TheVariants.{UnknownName, NameTaken, TooMany, NoPort, PortUsed, Loop, NotController, OffBus}
use Rattle.fw_order.specs.declared.rule.RuleFault.TheVariants.{Guarded, NoRegister, Limit, TableFull, Busy, NoSuchConnection, NotOwnPlug, NoDeck, NothingStands, TooLate, NotCapable, NotCandidate}
use Rattle.fw_model_run.specs.Actions.{HalfStep, Contend}
use Rattle.fw_model_run.specs.Deeds.{Transition, Transitions}
use Rattle.fw_model_run.specs.Carrying.{Carries, steps, contends, times}
use Rattle.fw_model_run.specs.Named.{IsNamed}
use Rattle.fw_model_run.specs.Rules.{Breaks, Decides}
use Rattle.fw_model_run.proofs.Taking.{Taken, listens, keeps_deaf, forces_reset, may_step, taken_as}
use Rattle.fw_explore_laws.proofs.Carried.{Carried}

-- ---- half steps one after another

pub times_first : (n : ℕ) (a : Action) → times (suc n) a ≡ a ∷ times n a
unfolding times
times_first zero a = refl
times_first (suc n) a = ap (λ z. z ++ a ∷ []) (times_first n a)

times_none : (a : Action) → times 0 a ≡ []
unfolding times
times_none a = refl

-- what a kind of half steps is: its commands, orders and actions
pub record IsKind (K : List ℕ → ℕ → Command) (A : ℕ → Action) (O : ℕ → ℕ → Order) : Type 0 where
  pub ordered : (s : State) (name : List ℕ) (n : ℕ) (o : Order) → Decides s (K name n) (Ok o) → (d : ℕ) × IsNamed s name d × (o ≡ O d n)
  pub opened : (s : State) (d n : ℕ) (xs : List Action) (out : List Timed) (t : State) → Carries s (O d n) xs out t → (xs ≡ times n (A d)) × Transitions s (times n (A d)) out t
  pub closed : (s : State) (d n : ℕ) (out : List Timed) (t : State) → Transitions s (times n (A d)) out t → Carries s (O d n) (times n (A d)) out t
  pub counts : (s : State) (d : ℕ) (out : List Timed) (t : State) → Transition s (A d) out t → (s.half_steps < MOST_HALF_STEPS) × (t.half_steps ≡ s.half_steps + 1) × (t.declared ≡ s.declared)
  pub decided : (s : State) (name : List ℕ) (d n : ℕ) (o : Order) → Decides s (K name 1) (Ok o) → IsNamed s name d → s.half_steps + n ≤ MOST_HALF_STEPS → Decides s (K name n) (Ok (O d n))

-- so many half steps from a state on
record Took (A : ℕ → Action) (d n : ℕ) (s : State) (actions : List Action) (out : List Timed) (t : State) : Type 0 where
  pub steps : Transitions s (times n (A d)) out t
  pub actions_are : actions ≡ times n (A d)
  pub few : (n ≡ 0) ⊎ (s.half_steps + n ≤ MOST_HALF_STEPS)

module _ (K : List ℕ → ℕ → Command) (A : ℕ → Action) (O : ℕ → ℕ → Order) (is : IsKind K A O) (name : List ℕ) where
  one_device : (d e : ℕ) (s t : State) → IsNamed s name d → t.declared ≡ s.declared → IsNamed t name e → d ≡ e
  one_device d e s t here same there = same_Some d e (sym here ∙ sym (ap (λ z. device_named z.names name) same) ∙ there)

  took_more : (d n : ℕ) (s m t : State) (first more : List Action) (now later : List Timed) → Transition s (A d) now m → first ≡ A d ∷ [] → Took A d n m more later t
      → Took A d (suc n) s (first ++ more) (now ++ later) t
  took_more d n s m t first more now later step first_is took =
      let c = is.counts s d now m step in
      record {
        steps = subst (λ z. Transitions s z (now ++ later) t) (sym (times_first n (A d))) (now, later, m, step, refl, took.steps);
        actions_are = ap (λ z. z ++ more) first_is ∙ ap (λ z. A d ∷ z) took.actions_are ∙ sym (times_first n (A d));
        few = inr (elim took.few [ inl none ↦ omega (arith, c.0, none) | inr few ↦ omega (arith, c.1, few) ]);
      }

  -- one after the other, all of the device with the name
  took_all : (n d : ℕ) (s t : State) (actions : List Action) (out : List Timed) → IsNamed s name d → Carried s (replicate n (K name 1)) actions out t → Took A d n s actions out t
  took_all zero d s t actions out named f = record {
    steps = subst (λ z. Transitions s z out t) (sym (times_none (A d))) (f.1, f.2);
    actions_are = f.0 ∙ sym (times_none (A d));
    few = inl refl;
  }
  took_all (suc n) d s t actions out named f =
      let o = is.ordered s name 1 f.0 f.6 in
      let same : d ≡ o.0 = one_device d o.0 s s named refl o.1 in
      let opened = is.opened s o.0 1 f.1 f.3 f.5 (subst (λ z. Carries s z f.1 f.3 f.5) o.2 f.7) in
      let at : f.1 ≡ A d ∷ [] = opened.0 ∙ times_first 0 (A o.0) ∙ ap (λ z. A o.0 ∷ z) (times_none (A o.0)) ∙ ap (λ z. A z ∷ []) (sym same) in
      let steps : Transitions s (A d ∷ []) f.3 f.5
      = subst (λ z. Transitions s z f.3 f.5) (times_first 0 (A o.0) ∙ ap (λ z. A o.0 ∷ z) (times_none (A o.0)) ∙ ap (λ z. A z ∷ []) (sym same)) opened.1 in
      let now_is : f.3 ≡ steps.0 = steps.4 ∙ ap (λ z. steps.0 ++ z) steps.5.0 ∙ append-nil steps.0 in
      let step : Transition s (A d) f.3 f.5 = subst (λ z. Transition s (A d) z f.5) (sym now_is) (subst (Transition s (A d) steps.0) (sym steps.5.1) steps.3) in
      let kept = (is.counts s d f.3 f.5 step).2 in
      let there : IsNamed f.5 name d = ap (λ z. device_named z.names name) kept ∙ named in
      let rest = took_all n d f.5 t f.2 f.4 there f.8 in
      subst (λ z. Took A d (suc n) s z out t) (sym f.9) (subst (λ z. Took A d (suc n) s (f.1 ++ f.2) z t) (sym f.10) (took_more d n s f.5 t f.1 f.2 f.3 f.4 step at rest))

  -- so many half steps by as many commands, and by one
  pub together : (n : ℕ) (s t : State) (actions : List Action) (out : List Timed) → 1 ≤ n → Carried s (replicate n (K name 1)) actions out t → Carried s (K name n ∷ []) actions out t
  together zero s t actions out some f = absurd (omega (arith, some))
  together (suc n) s t actions out some f =
      let o = is.ordered s name 1 f.0 f.6 in
      let took = took_all (suc n) o.0 s t actions out o.1 f in
      let few : s.half_steps + suc n ≤ MOST_HALF_STEPS = elim took.few [ inl none ↦ absurd (omega (arith, none)) | inr few ↦ few ] in (
        O o.0 (suc n),
        times (suc n) (A o.0),
        [],
        out,
        [],
        t,
        is.decided s name o.0 (suc n) f.0 f.6 o.1 few,
        is.closed s o.0 (suc n) out t took.steps,
        (refl, refl, refl),
        took.actions_are ∙ sym (append-nil (times (suc n) (A o.0))),
        sym (append-nil out),
      )

-- ---- of controllers

controller_counts : (s : State) (d : ℕ) (out : List Timed) (t : State) → Transition s (HalfStep d) out t → (s.half_steps < MOST_HALF_STEPS) × (t.half_steps ≡ s.half_steps + 1)
    × (t.declared ≡ s.declared)
controller_counts s d out t x = go (taken_as s d out t x)
  where
    few : s.half_steps < MOST_HALF_STEPS
    few = (may_step s d x.found x.may).few

    go : Taken s d out t → (s.half_steps < MOST_HALF_STEPS) × (t.half_steps ≡ s.half_steps + 1) × (t.declared ≡ s.declared)
    go (listens quiet said is) = (few, ap (λ (z : State). z.half_steps) is, ap (λ (z : State). z.declared) is)
    go (keeps_deaf deaf said is) = (few, ap (λ (z : State). z.half_steps) is, ap (λ (z : State). z.declared) is)
    go (forces_reset deaf r) = (few, ap (λ (z : State). z.half_steps) r.state_is, ap (λ (z : State). z.declared) r.state_is)

controller_rules : (s : State) (name : List ℕ) (n : ℕ) → ((g : RuleFault) → Breaks s (StepCommand name 1) g → ⊥) → s.half_steps + n ≤ MOST_HALF_STEPS
    → (g : RuleFault) → Breaks s (StepCommand name n) g → ⊥
controller_rules s name n none few UnknownName b = none UnknownName b
controller_rules s name n none few NameTaken b = none NameTaken b
controller_rules s name n none few TooMany b = none TooMany b
controller_rules s name n none few NoDeck b = none NoDeck b
controller_rules s name n none few NoPort b = none NoPort b
controller_rules s name n none few PortUsed b = none PortUsed b
controller_rules s name n none few Loop b = none Loop b
controller_rules s name n none few NotController b = none NotController b
controller_rules s name n none few NothingStands b = none NothingStands b
controller_rules s name n none few NotCapable b = none NotCapable b
controller_rules s name n none few NotCandidate b = none NotCandidate b
controller_rules s name n none few OffBus b = none OffBus b
controller_rules s name n none few NotOwnPlug b = none NotOwnPlug b
controller_rules s name n none few NoSuchConnection b = none NoSuchConnection b
controller_rules s name n none few TableFull b = none TableFull b
controller_rules s name n none few Busy b = none Busy b
controller_rules s name n none few Guarded b = none Guarded b
controller_rules s name n none few NoRegister b = none NoRegister b
controller_rules s name n none few Limit b = omega (arith, b, few)
controller_rules s name n none few TooLate b = none TooLate b

controller_opened : (s : State) (o : Order) (xs : List Action) (out : List Timed) (t : State) → Carries s o xs out t → (d n : ℕ) → o ≡ order.Step d n
    → (xs ≡ times n (HalfStep d)) × Transitions s (times n (HalfStep d)) out t
controller_opened s o xs out t (steps {d = e} {count = k} f) d n is =
    let device : e ≡ d = cc in
    let count : k ≡ n = cc in
    let same : times k (HalfStep e) ≡ times n (HalfStep d) = ap (λ z. times k (HalfStep z)) device ∙ ap (λ z. times z (HalfStep d)) count in
    (same, subst (λ z. Transitions s z out t) same f)
controller_opened s o xs out t f d n is = absurd cc

pub controllers : IsKind StepCommand HalfStep order.Step
controllers = record {
  ordered = λ s name n o decided. decided.0;
  opened = λ s d n xs out t f. controller_opened s (order.Step d n) xs out t f d n refl;
  closed = λ s d n out t f. steps f;
  counts = controller_counts;
  decided = λ s name d n o decided named few. ((d, named, refl), controller_rules s name n decided.1 few);
}

-- ---- of candidates

candidate_counts : (s : State) (d : ℕ) (out : List Timed) (t : State) → Transition s (Contend d) out t → (s.half_steps < MOST_HALF_STEPS) × (t.half_steps ≡ s.half_steps + 1)
    × (t.declared ≡ s.declared)
candidate_counts s d out t x = (x.may.few, ap (λ (z : State). z.half_steps) x.state_is, ap (λ (z : State). z.declared) x.state_is)

candidate_rules : (s : State) (name : List ℕ) (n : ℕ) → ((g : RuleFault) → Breaks s (ContendCommand name 1) g → ⊥) → s.half_steps + n ≤ MOST_HALF_STEPS
    → (g : RuleFault) → Breaks s (ContendCommand name n) g → ⊥
candidate_rules s name n none few UnknownName b = none UnknownName b
candidate_rules s name n none few NameTaken b = none NameTaken b
candidate_rules s name n none few TooMany b = none TooMany b
candidate_rules s name n none few NoDeck b = none NoDeck b
candidate_rules s name n none few NoPort b = none NoPort b
candidate_rules s name n none few PortUsed b = none PortUsed b
candidate_rules s name n none few Loop b = none Loop b
candidate_rules s name n none few NotController b = none NotController b
candidate_rules s name n none few NothingStands b = none NothingStands b
candidate_rules s name n none few NotCapable b = none NotCapable b
candidate_rules s name n none few NotCandidate b = none NotCandidate b
candidate_rules s name n none few OffBus b = none OffBus b
candidate_rules s name n none few NotOwnPlug b = none NotOwnPlug b
candidate_rules s name n none few NoSuchConnection b = none NoSuchConnection b
candidate_rules s name n none few TableFull b = none TableFull b
candidate_rules s name n none few Busy b = none Busy b
candidate_rules s name n none few Guarded b = none Guarded b
candidate_rules s name n none few NoRegister b = none NoRegister b
candidate_rules s name n none few Limit b = omega (arith, b, few)
candidate_rules s name n none few TooLate b = none TooLate b

candidate_opened : (s : State) (o : Order) (xs : List Action) (out : List Timed) (t : State) → Carries s o xs out t → (d n : ℕ) → o ≡ order.Contend d n
    → (xs ≡ times n (Contend d)) × Transitions s (times n (Contend d)) out t
candidate_opened s o xs out t (contends {d = e} {count = k} f) d n is =
    let device : e ≡ d = cc in
    let count : k ≡ n = cc in
    let same : times k (Contend e) ≡ times n (Contend d) = ap (λ z. times k (Contend z)) device ∙ ap (λ z. times z (Contend d)) count in
    (same, subst (λ z. Transitions s z out t) same f)
candidate_opened s o xs out t f d n is = absurd cc

pub candidates : IsKind ContendCommand Contend order.Contend
candidates = record {
  ordered = λ s name n o decided. decided.0;
  opened = λ s d n xs out t f. candidate_opened s (order.Contend d n) xs out t f d n refl;
  closed = λ s d n out t f. contends f;
  counts = candidate_counts;
  decided = λ s name d n o decided named few. ((d, named, refl), candidate_rules s name n decided.1 few);
}
