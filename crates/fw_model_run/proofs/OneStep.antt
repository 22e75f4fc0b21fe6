-- Each action has one result.
use Rattle.fw_model_run.proofs.Common.{◌≡◌, List, [], ◌∷◌, ◌++◌, ap, sym, subst, ◌∙◌, Timed, at_most, State, Action, Transition, Transitions, IsGood}
use Rattle.fw_model_run.specs.Deeds.{deed}
use Rattle.fw_model_run.specs.Found.{Found}
use Rattle.fw_model_run.proofs.OneFound.{one_found}
use Rattle.fw_model_run.proofs.Steps.{step_good}

-- the same entries, and the same state
abbrev pub Same : List Timed → State → List Timed → State → Type 0
Same out t other u = (out ≡ other) × (t ≡ u)

-- the state and the action decide it, since they decide what is found
pub one_step : (s t u : State) (a : Action) (out other : List Timed) → IsGood s → Transition s a out t → Transition s a other u → Same out t other u
one_step s t u a out other good f g =
    let same : f.found ≡ g.found = one_found s a f.found g.found good f.waits g.waits f.may g.may in (
      f.out_is ∙ (ap (λ (x : Found s a). at_most (deed s a x).cycle (deed s a x).says) same ∙ sym g.out_is),
      f.state_is ∙ (ap (λ (x : Found s a). (deed s a x).after) same ∙ sym g.state_is),
    )

pub one_steps : (s t u : State) (actions : List Action) (out other : List Timed) → IsGood s → Transitions s actions out t → Transitions s actions other u → Same out t other u
one_steps s t u [] out other good f g = (f.0 ∙ sym g.0, f.1 ∙ sym g.1)
one_steps s t u (a ∷ actions) out other good f g =
    let first = one_step s f.2 g.2 a f.0 g.0 good f.3 g.3 in
    let rest = one_steps f.2 t u actions f.1 g.1 (step_good s a f.0 f.2 good f.3) f.5 (subst (λ z. Transitions z actions g.1 u) (sym first.1) g.5) in
    (f.4 ∙ (ap (λ z. z ++ f.1) first.0 ∙ (ap (λ z. g.0 ++ z) rest.0 ∙ sym g.4)), rest.1)
