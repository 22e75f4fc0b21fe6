-- Which bus reset begins a second that ends in a log.
use Rattle.fw_model_run.proofs.Common.{◌≡◌, ◌⊎◌, inl, inr, List, [], ◌∷◌, ◌++◌, true, refl, ap, sym, subst, ◌∙◌, IsTrue, Timed, Account, State, Action, EndSecond, Transition, Transitions, IsGood}
use Rattle.fw_model_run.proofs.Common.{false}
use Rattle.fw_model_run.specs.Reclaiming.{IsBusReset, GoesOn}
use Rattle.fw_model_run.proofs.Settling.{half_turn}
use Rattle.fw_model_run.proofs.Steps.{step_good}
use Rattle.fw_model_run.proofs.Times.{second_ends}
use Rattle.fw_model_run.proofs.Withholds.{withholding_keeps}
use Rattle.fw_model_run.proofs.Alterations.{Allows, Alteration, Halved, Over, Withheld, altered}
use Rattle.fw_model_run.proofs.Effects.{Effect, altering, effect, resetting}

-- ---- which action begins a second

-- a bus reset, or the second ran before
as_before : (s u t : State) → t ≡ u → u.account.reclaiming ≡ s.account.reclaiming → IsTrue t.account.reclaiming → IsTrue s.account.reclaiming
as_before s u t is same runs = sym (ap (λ (z : State). z.account.reclaiming) is ∙ same) ∙ runs

pub begins : (s : State) (a : Action) (out : List Timed) (t : State) → IsGood s → Transition s a out t → IsBusReset s a t ⊎ (IsTrue t.account.reclaiming → IsTrue s.account.reclaiming)
begins s a out t g x = go (effect s a out t x)
  where
    before : (y : Alteration) → Allows s a y → (altered s y).account.reclaiming ≡ true → IsTrue s.account.reclaiming
    before (Halved d lost resets half_steps) ok runs = sym (half_turn s d g ok.2).1.reclaiming ∙ runs
    before Over ok runs = ok.1
    before Withheld ok runs = sym (withholding_keeps (λ (l : Account). l.reclaiming) s.account refl) ∙ runs
    before _ ok runs = runs

    go : Effect s a out t → IsBusReset s a t ⊎ (IsTrue t.account.reclaiming → IsTrue s.account.reclaiming)
    go (resetting resets half_steps n initiator free may_begin may r) = inl (record { entry = r.entry; step = subst (λ o. Transition s a o t) r.out_is x })
    go (altering y waits out_is is ok) = inr (λ runs. before y ok (subst (λ (z : State). IsTrue z.account.reclaiming) is runs))

-- ---- the bus reset after a state in which a second runs

-- the second does not run after an action that ends it
goes_on : (s : State) (a : Action) (xs : List Action) (out : List Timed) (t : State) → Transition s a out t → IsTrue t.account.reclaiming
    → GoesOn xs → GoesOn (a ∷ xs)
goes_on s EndSecond xs out t x runs on =
    let ended : t.account.reclaiming ≡ false = ap (λ (z : State). z.account.reclaiming) x.state_is ∙ ap (λ (l : Account). l.reclaiming) (second_ends s.account x.may.runs) in
    let wrong : true ≡ false = sym runs ∙ ended in
    cc wrong
goes_on s _ xs out t x runs on = on

-- actions with a bus reset among them, since which no second ended
pub record Opened (s t : State) (xs : List Action) : Type 0 where
  pub early : List Action
  pub prefix : List Timed
  pub before : State
  pub run : Transitions s early prefix before
  pub reset : Action
  pub opened : State
  pub opens : IsBusReset before reset opened
  pub during : List Action
  pub out : List Timed
  pub steps : Transitions opened during out t
  pub all : xs ≡ early ++ reset ∷ during
  pub on : IsTrue t.account.reclaiming → GoesOn during

-- the second ran before the actions, and does not end in them
abbrev pub Runs : State → State → List Action → Type 0
Runs s t xs = IsTrue t.account.reclaiming → IsTrue s.account.reclaiming × GoesOn xs

pub opened_of : (s t : State) (xs : List Action) (out : List Timed) → IsGood s → Transitions s xs out t → Opened s t xs ⊎ Runs s t xs
opened_of s t [] out g f = inr (λ runs. (as_before s s t f.1 refl runs, tt))
opened_of s t (a ∷ xs) out g f = go (opened_of f.2 t xs f.1 (step_good s a f.0 f.2 g f.3) f.5) (begins s a f.0 f.2 g f.3)
  where
    go : Opened f.2 t xs ⊎ Runs f.2 t xs
        → IsBusReset s a f.2 ⊎ (IsTrue f.2.account.reclaiming → IsTrue s.account.reclaiming) → Opened s t (a ∷ xs) ⊎ Runs s t (a ∷ xs)
    go (inl o) b = inl (record {
      early = a ∷ o.early;
      prefix = f.0 ++ o.prefix;
      before = o.before;
      run = (f.0, o.prefix, f.2, f.3, refl, o.run);
      reset = o.reset;
      opened = o.opened;
      opens = o.opens;
      during = o.during;
      out = o.out;
      steps = o.steps;
      all = ap (λ z. a ∷ z) o.all;
      on = o.on;
    })
    go (inr on) (inl r) = inl (record {
      early = [];
      prefix = [];
      before = s;
      run = (refl, refl);
      reset = a;
      opened = f.2;
      opens = r;
      during = xs;
      out = f.1;
      steps = f.5;
      all = refl;
      on = λ runs. (on runs).1;
    })
    go (inr on) (inr earlier) = inr (λ runs. let y = on runs in (earlier y.0, goes_on s a xs f.0 f.2 f.3 y.0 y.1))
