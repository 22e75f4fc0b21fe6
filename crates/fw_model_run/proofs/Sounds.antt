-- Actions from the first state on keep the account sound and all controllers in step with it, and write a log that shows it.
use Rattle.fw_model_run.proofs.Common.{◌≡◌, ℕ, List, refl, sym, subst, arith, IsFalse, Timed, slot_at, State, first_state, directory_of, Action, Transitions, IsGood}
use Rattle.fw_cmp_jobs.specs.declared.connection.Connection.{Connection}
use Rattle.fw_cmp_jobs.specs.declared.connection.Flow.{Flow}
use Rattle.fw_cmp_jobs.specs.declared.connection.Slot.TheVariants.{Established}
use Rattle.fw_cmp.specs.Holdings.{is_current_slot}
use Rattle.fw_model_account.specs.Fold.{no_account}
use Rattle.fw_model_account.proofs.Shared.{is_conflict_free}
use Rattle.fw_model_controllers.specs.Together.{AreSettled, IsWhole}
use Rattle.fw_model_controllers.proofs.Together.{settled, whole}
use Rattle.fw_model_run.specs.Headline.{IsCharged, IsSoundAt, IsSoundThroughout}
use Rattle.fw_model_run.proofs.Along.{steps_along, along_account, along_prefix, along_pair, steps_prefix}
use Rattle.fw_model_run.proofs.Cables.{on_is_bus}
use Rattle.fw_model_run.proofs.Kept.{first_numbers}
use Rattle.fw_model_run.proofs.Spans.{steps_span, spans_entry, spans_pair}
use Rattle.fw_model_run.proofs.Steps.{steps_good}
use Rattle.fw_model_run.proofs.Times.{first_good}

-- a settled state has exactly the flows that stand
charged : (s : State) → IsGood s → AreSettled s.account s.controllers → IsCharged s
charged s g x = record { allocations = settled (directory_of s) s.account s.controllers g.reclaims.step x; connections = connections }
  where
    free : (d i : ℕ) → IsFalse (is_current_slot (s.controllers d).current i)
    free d i = subst (λ c. IsFalse (is_current_slot c i)) (sym (x.idle d)) refl

    connections : (d i : ℕ) (conn : Connection) (f : Flow) → slot_at (s.controllers d) i ≡ Established conn f → IsWhole s.account d conn f
    connections d i conn f at = whole s.account d (s.controllers d) i conn f (g.reclaims.step.fits d) (g.reclaims.step.each d) at (free d i)

sound_at : (xs : List Action) (prefix : List Timed) (s : State) → Transitions first_state xs prefix s → IsSoundAt prefix s
sound_at xs prefix s f =
    let g = steps_good first_state s xs prefix first_good f in
    record {
      account = along_account no_account s.account prefix (steps_along first_state s xs prefix first_good f);
      sound = g.reclaims.step.sound;
      free = is_conflict_free s.account g.reclaims.step.sound;
      step = g.reclaims.step;
      settled = charged s g;
      bus = λ d lt. on_is_bus s g (omega (arith, lt)) d;
    }

pub sound_throughout : (actions : List Action) (log : List Timed) (s : State) → Transitions first_state actions log s → IsSoundThroughout actions log
sound_throughout actions log s f = record {
  states = λ done later prefix t e g. sound_at done prefix t g;
  fronts = λ prefix rest e. steps_prefix first_state s actions log prefix rest first_good f e;
  answers = λ prefix rest t e. along_prefix no_account s.account prefix rest t (rw e at (steps_along first_state s actions log first_good f));
  reads = λ prefix rest t u e. along_pair no_account s.account prefix rest t u (rw e at (steps_along first_state s actions log first_good f));
  fits = λ prefix rest t e. spans_entry 0 s.clock.cycle prefix rest t (rw e at (steps_span first_state s actions log first_good first_numbers f));
  cycles = λ prefix rest t u e. spans_pair 0 s.clock.cycle prefix rest t u (rw e at (steps_span first_state s actions log first_good first_numbers f));
}
