-- Each action leads from a good state to a good state.
use Rattle.fw_model_run.proofs.Common.{◌≡◌, Bool, true, false, refl, List, [], ◌∷◌, None, Some, sym, subst, arith, ℕ, ◌+◌, Timed, State, is_deaf, after_half, Action, Withhold, AddDevice, AddCable}
use Rattle.fw_model_run.proofs.Common.{ResetBus, StartConnection, StartBreak, HalfStep, Rest, Unsettled, Pass, EndSecond, Die}
use Rattle.fw_model_run.proofs.Common.{CarryOut, Lose, TellLoss, Start, Ask, Answer, ShowWord, SendCommand, SendFrame}
use Rattle.fw_model_run.proofs.Common.{
  Receive,
  InsertTape,
  EjectTape,
  StartCycle,
  SendPacket,
  BecomeCandidate,
  Contend,
  TieReel,
  KeepBlock,
  Finish,
  Transition,
  Transitions,
  counted,
  bus_manager_id_after,
  IsGood,
}
use Rattle.fw_model_run.specs.ControllerDeeds.{stepping, stepping_as}
use Rattle.fw_model_run.specs.Deeds.{deed}
use Rattle.fw_model_run.specs.Found.{Found, FoundInHalf}
use Rattle.fw_model_run.specs.Frames.{command_write}
use Rattle.fw_model_run.specs.Elections.{with_new_candidate}
use Rattle.fw_model_run.specs.HalfSteps.{is_waiting}
use Rattle.fw_model_run.proofs.Beside.{beside_good}
use Rattle.fw_model_run.proofs.Cables.{cable_good, begun_good, forced_may}
use Rattle.fw_model_run.proofs.Declares.{declare_good}
use Rattle.fw_model_run.proofs.Events.{start_good as connection_good, break_good, death_good}
use Rattle.fw_model_run.proofs.Framing.{with_frame_good, send_good, receive_good, insert_good, eject_good}
use Rattle.fw_model_run.proofs.HalfSteps.{half_good, stands_quiet, loss_good}
use Rattle.fw_model_run.proofs.Others.{start_good, transaction_good, unsettled_good, told_good, finish_good}
use Rattle.fw_model_run.proofs.Times.{written_good, pass_good, second_good, counted_good}
use Rattle.fw_model_run.proofs.Resets.{reset_good, resets_by}
use Rattle.fw_model_run.proofs.Withholds.{withhold_good}

half_step_good : (s : State) (d : ℕ) (found : Found s (HalfStep d)) → IsGood s → (stepping s d found).may → IsGood (stepping s d found).after
half_step_good s d found g may = go (is_deaf s d) (is_waiting s d) refl found may
  where
    go : (b w : Bool) → is_deaf s d ≡ b → (f : FoundInHalf b w) → (stepping_as b w s d f).may → IsGood (stepping_as b w s d f).after
    go false w e f may = let few = may.few in counted_good (after_half s d) 1 (half_good s d g may.lives e) (omega (arith, few))
    go true true e f may = let few = may.few in counted_good s 1 g (omega (arith, few))
    go true false e f may =
        reset_good (counted s 1) s.declared d _ _ (forced_may s d g may.step.lives e may.step.few) (resets_by s.resets (s.half_steps + 1) may.reset refl refl)

-- the state after a deed is good
after_good : (s : State) (a : Action) (found : Found s a) → IsGood s → (deed s a found).may → IsGood (deed s a found).after
after_good s Withhold found g may = withhold_good s g may.early
after_good s (AddDevice name kind ports speed) found g may = declare_good s name kind ports speed found g may
after_good s (AddCable a b) found g may = cable_good s a b found g may
after_good s (ResetBus d) e g may = begun_good s d e g may
after_good s (StartConnection d w) found g may = connection_good s d may.slot w g may.lives may.fits may.starts
after_good s (StartBreak d i) found g may = break_good s d i g may.lives may.starts
after_good s (HalfStep d) found g may = half_step_good s d found g may
after_good s (Rest n) found g may = counted_good s n g may.few
after_good s Unsettled found g may = unsettled_good s g
after_good s (Pass n) found g may = pass_good s n g may.fits may.within
after_good s EndSecond found g may = second_good s g may.runs may.fits
after_good s (Die d) found g may = death_good s d g may
after_good s (CarryOut d) found g may = half_good s d g may.lives (stands_quiet s d g may.stands)
after_good s (Lose d) found g may = loss_good s d g may.request.lives may.request.stands may.counts
after_good s (TellLoss d) found g may = told_good s d g
after_good s (Start d) found g may = start_good s d g may.dead
after_good s (Ask y) found g may = transaction_good s (Some y) s.bus_manager_id g
after_good s Answer found g may = transaction_good s None (bus_manager_id_after s found.transaction) g
after_good s (ShowWord d offset) found g may = g
after_good s (SendCommand a b bytes) found g may = with_frame_good s s.decks (Some (command_write a b bytes)) g g.decks
after_good s (SendFrame d) found g may = send_good s d found g may
after_good s (Receive o) found g may = receive_good s o found g may
after_good s (InsertTape d tape system) found g may = insert_good s d tape system g
after_good s (EjectTape d) found g may = eject_good s d g
after_good s StartCycle found g may = written_good s g may.few
after_good s (SendPacket p block) found g may = g
after_good s (BecomeCandidate d) found g may = beside_good s s.bus_manager_id s.half_steps (with_new_candidate s.election d) s.dub g g.half_steps
after_good s (Contend d) found g may = let few = may.few in beside_good s _ (s.half_steps + 1) _ s.dub g (omega (arith, few))
after_good s (TieReel d) found g may = beside_good s s.bus_manager_id s.half_steps s.election _ g g.half_steps
after_good s (KeepBlock block) found g may = beside_good s s.bus_manager_id s.half_steps s.election _ g g.half_steps
after_good s Finish found g may = finish_good s g

pub step_good : (s : State) (a : Action) (out : List Timed) (t : State) → IsGood s → Transition s a out t → IsGood t
step_good s a out t g x = subst IsGood (sym x.state_is) (after_good s a x.found g x.may)

pub steps_good : (s t : State) (xs : List Action) (out : List Timed) → IsGood s → Transitions s xs out t → IsGood t
steps_good s t [] out g f = subst IsGood (sym f.1) g
steps_good s t (x ∷ xs) out g f = steps_good f.2 t xs f.1 (step_good s x f.0 f.2 g f.3) f.5
