-- No connection of a run has a channel that the bus withholds, and what is withheld stays so.
use Rattle.fw_model_run.proofs.Common.{◌≡◌, ◌≢◌, ℕ, List, [], ◌∷◌, Bool, true, false, sym, subst, ap}
use Rattle.fw_model_run.proofs.Common.{◌∙◌, arith, IsTrue, Timed, Action, Transition, Transitions, IsGood, world_of, State, first_state, directory_of}
use Rattle.fw_model_account.specs.Account.{is_withheld}
use Rattle.fw_model_account.proofs.Open.{talks_apart}
use Rattle.fw_model_reclaim.specs.Avoids.{AvoidsWithheld}
use Rattle.fw_model_reclaim.proofs.Avoiding.{first_avoided, avoids_after, stays_withheld}
use Rattle.fw_model_run.specs.Withheld.{IsUnused, WithholdsThroughout}
use Rattle.fw_model_run.proofs.Changes.{step_change}
use Rattle.fw_model_run.proofs.Steps.{step_good, steps_good}
use Rattle.fw_model_run.proofs.Times.{first_good}

step_avoids : (s : State) (a : Action) (out : List Timed) (t : State) → IsGood s → Transition s a out t → AvoidsWithheld (world_of s) → AvoidsWithheld (world_of t)
step_avoids s a out t g x h = let c = step_change s a out t g x in avoids_after (world_of s) (world_of t) c.change g.reclaims c.avoids c.happens h

steps_avoid : (s t : State) (xs : List Action) (out : List Timed) → IsGood s → Transitions s xs out t → AvoidsWithheld (world_of s) → AvoidsWithheld (world_of t)
steps_avoid s t [] out g f h = subst (λ (z : State). AvoidsWithheld (world_of z)) (sym f.1) h
steps_avoid s t (a ∷ xs) out g f h = steps_avoid f.2 t xs f.1 (step_good s a f.0 f.2 g f.3) f.5 (step_avoids s a f.0 f.2 g f.3 h)

apart : (withheld : Bool) (ch k : ℕ) → is_withheld withheld ch ≡ true → is_withheld withheld k ≡ false → k ≢ ch
apart withheld ch k w none same = absurd (grind (arith, sym w ∙ (sym (ap (is_withheld withheld) same) ∙ none)))

pub run_leaves : (actions : List Action) (log : List Timed) (s : State) → Transitions first_state actions log s → (ch : ℕ) → IsTrue (is_withheld s.account.withheld ch) → IsUnused s ch
run_leaves actions log s f ch w =
    let sound = (steps_good first_state s actions log first_good f).reclaims.step.sound in
    let h = steps_avoid first_state s actions log first_good f (first_avoided (directory_of first_state)) in
    record {
      allocation = sound.withheld_unallocated ch w;
      flow = sound.withheld_unclaimed ch w;
      outputs = λ p on. apart s.account.withheld ch (s.account.settings p).channel w (talks_apart s.account p sound on);
      inputs = λ q on. apart s.account.withheld ch (s.account.input_channel q) w (h.inputs q on);
      controllers = h.controllers ch w;
    }

steps_withhold : (s t : State) (xs : List Action) (out : List Timed) → IsGood s → Transitions s xs out t → IsTrue s.account.withheld → IsTrue t.account.withheld
steps_withhold s t [] out g f on = ap (λ (z : State). z.account.withheld) f.1 ∙ on
steps_withhold s t (a ∷ xs) out g f on =
    let c = step_change s a f.0 f.2 g f.3 in
    steps_withhold f.2 t xs f.1 (step_good s a f.0 f.2 g f.3) f.5 (stays_withheld (world_of s) (world_of f.2) c.change g.reclaims c.happens on)

pub run_withholds : (actions more : List Action) (log out : List Timed) (s t : State) → Transitions first_state actions log s → Transitions s more out t → IsTrue s.account.withheld
    → IsTrue t.account.withheld
run_withholds actions more log out s t f g on = steps_withhold s t more out (steps_good first_state s actions log first_good f) g on

pub withholds : (actions : List Action) (log : List Timed) (s : State) → Transitions first_state actions log s → WithholdsThroughout actions
withholds actions log s f = record {
  unused = λ done later prefix t is steps. run_leaves done prefix t steps;
  ever = λ done more later prefix out t u is steps further. run_withholds done more prefix out t u steps further;
}
