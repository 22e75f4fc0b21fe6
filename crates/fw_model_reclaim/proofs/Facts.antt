-- What reclaiming uses of a controller that is in step with the account.
use Rattle.fw_model_reclaim.proofs.Common.{◌≡◌, inl, inr, ℕ, ◌<◌, ◌≤◌, Bool, true, false, Option, Some, None, length}
use Rattle.fw_model_reclaim.proofs.Common.{get_or, refl, sym, ap, subst, ◌∙◌, arith, cond, nat_tests, Reply, Account, IsSound}
use Rattle.fw_model_reclaim.proofs.Common.{Slot, Making, Current, Nothing, Asking, Hearing, Overtaken, Job, Target, Stage, Made, output_of, ControllerState, slot_at, is_making, breaks_slot, count_of}
use Rattle.fw_model_reclaim.proofs.Common.{StageFits, target_of, IsAnswer, IsAtSlot, Carries, Unchanged, Moved, Output, Input, IsAtWork}
use Rattle.std.proofs.Common.{◌||◌}
use Rattle.std.proofs.lemmas.List.Sums.{get_or-le-sum_by}
use Rattle.std.proofs.lemmas.Option.{slice_get_within, get_or_from_slice_get}
use Rattle.fw_words.specs.declared.swap.Swap.{Swap}
use Rattle.fw_cmp.specs.Controllers.{Fits as ControllerFits, CurrentFits}
use Rattle.fw_cmp_jobs.specs.Slots.{is_breakable, is_gone}
use Rattle.fw_cmp.specs.Holdings.{pending_of}
use Rattle.fw_cmp_jobs.specs.Requests.{swap_of}
use Rattle.fw_model_controllers.specs.Controllers.{ControllerInStep, CurrentInStep, JobInStep, others_of}
use Rattle.fw_model_controllers.specs.Holding.{HasReserved}
use Rattle.fw_model_controllers.specs.InStep.{reservation, HalfStep}
use Rattle.fw_model_controllers.specs.Moves.{carried_out, move_of, after_move}
use Rattle.fw_model_controllers.specs.Registers.{succeeds}
use Rattle.fw_model_controllers.proofs.HalfSteps.{half_step}
use Rattle.fw_model_controllers.proofs.Together.{holds_all}
use Rattle.fw_model_reclaim.specs.Restores.{BreaksFit}
use Rattle.fw_model_reclaim.proofs.AfterReset.{MadeKeeps}
use Rattle.fw_model_reclaim.proofs.Kept.{Seated}

pub record Facts (l : Account) (c : ℕ) (s : ControllerState) : Type 0 where
  pub slots : length s.slots ≡ 32
  pub at_slot : IsAtSlot s.current
  pub breaks : BreaksFit s
  pub stage : (j : Job) (t : Stage) → IsAtWork s.current j t → StageFits j t
  pub reserved : (j : Job) (t : Stage) → s.current ≡ Hearing j t → HasReserved c (reservation (output_of j.connection) (pending_of t)) l.allocations
  pub made : MadeKeeps l s
  pub seated : Seated l c s

-- ---- breaks

unmade : (x : Slot) → 1 ≤ count_of (is_breakable x || is_gone x) → is_making x ≡ false
unmade (Making conn asked overhead) le = absurd (grind (arith, le))
unmade _ le = refl

breaks_fit : (s : ControllerState) → ControllerFits s → BreaksFit s
breaks_fit s fits k t at breaks =
    let lt = slice_get_within s.waiting k t at in
    let is = get_or_from_slice_get s.waiting k t t at in
    let one : count_of (breaks_slot t.slot (get_or s.waiting k t)) ≡ 1 = ap (λ x. count_of (breaks_slot t.slot x)) is ∙ grind (arith, nat_tests, breaks) in
    let most = get_or-le-sum_by (λ x. count_of (breaks_slot t.slot x)) s.waiting k t lt in
    unmade (slot_at s t.slot) (omega (arith, (fits.jobs t.slot).breaks))

-- ---- the current job

job_at : (l : Account) (c : ℕ) (s : ControllerState) (j : Job) (t : Stage) → ControllerInStep l c s → IsAtWork s.current j t → (waits : Bool) × JobInStep l c s j t waits
job_at l c s j t x (inl e) = (false, subst (λ y. CurrentInStep l c s y) e x.current)
job_at l c s j t x (inr e) = (true, subst (λ y. CurrentInStep l c s y) e x.current)

stage_at : (s : ControllerState) (j : Job) (t : Stage) → ControllerFits s → IsAtWork s.current j t → StageFits j t
stage_at s j t fits (inl e) = (subst (λ y. CurrentFits s y) e fits.current).stage
stage_at s j t fits (inr e) = (subst (λ y. CurrentFits s y) e fits.current).stage

at_slot_of : (l : Account) (c : ℕ) (s : ControllerState) → ControllerInStep l c s → IsAtSlot s.current
at_slot_of l c s x = go s.current x.current
  where
    go : (y : Current) → CurrentInStep l c s y → IsAtSlot y
    go Nothing y = tt
    go (Asking j t) y = y.within
    go (Hearing j t) y = y.within
    go (Overtaken k o) y = tt

made_keeps : (l : Account) (c : ℕ) (s : ControllerState) → ControllerInStep l c s → MadeKeeps l s
made_keeps l c s x j f at = let y = (job_at l c s j (Made f) x at).1.step in record {
  output = λ p e. y.knows_flow p e;
  input = λ q e. y.knows_channel q e;
  manager = λ e. y.manager e refl;
}

seated : (l : Account) (c : ℕ) (s : ControllerState) → ControllerInStep l c s → Seated l c s
seated l c s x Output kind q = (holds_all l c s x).outputs kind q
seated l c s x Input kind q = (holds_all l c s x).inputs kind q

pub facts : (l : Account) (c : ℕ) (s : ControllerState) → ControllerFits s → ControllerInStep l c s → Facts l c s
facts l c s fits x = record {
  slots = fits.slots;
  at_slot = at_slot_of l c s x;
  breaks = breaks_fit s fits;
  stage = λ j t at. stage_at s j t fits at;
  reserved = λ j t e. (job_at l c s j t x (inr e)).1.step.holds.reserved;
  made = made_keeps l c s x;
  seated = seated l c s x;
}

-- ---- an answer

-- what the answer makes of the account
pub carries : (l : Account) (c : ℕ) (s : ControllerState) (j : Job) (t : Stage) (target : Target) (r : Reply) → c < 63 → IsSound l → ControllerFits s → ControllerInStep l c s → s.current ≡ Hearing j t
    → target_of j t ≡ Some target → IsAnswer l target r → Carries l c j t (carried_out c j t r l)
carries l c s j t target r lt sound fits x e asked answer = go (swap_of j t) refl (succeeds (swap_of j t) r) refl
  where
    half : HalfStep l c j t (others_of s) target r
    half = let y = subst (λ z. CurrentFits s z) e fits.current in
        half_step l c j t (others_of s) target r asked (record {
          below = lt;
          sound = sound;
          job = y.job;
          stage = y.stage;
          step = (subst (λ z. CurrentInStep l c s z) e x.current).step;
          answer = answer;
        })

    go : (o : Option Swap) → swap_of j t ≡ o → (b : Bool) → succeeds (swap_of j t) r ≡ b → Carries l c j t (carried_out c j t r l)
    go o is false no_swap = Unchanged (ap (λ b. cond b (after_move c (move_of j t) l) l) no_swap)
    go None is true done = let never : false ≡ true = sym (ap (λ z. succeeds z r) is) ∙ done in absurd (grind (arith, never))
    go (Some swap) is true done =
        let m = half.moves swap is (sym (ap (λ z. succeeds z r) is) ∙ done) in
        Moved m.plug m.move m.move_is m.is_move.can (ap (λ b. cond b (after_move c (move_of j t) l) l) done ∙ ap (λ o. after_move c o l) m.move_is)
