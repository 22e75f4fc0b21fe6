-- What each action may, writes and leaves, as one definition by cases on the action; and actions one after another.
use Rattle.std.specs.Prelude.{◌≡◌, ◌++◌, List, [], ◌∷◌, Option, Some, None}
use Rattle.fw_log_entry.specs.declared.entry.Timed.{Timed}
use Rattle.fw_order.specs.declared.order.Transaction.{Transaction}
use Rattle.fw_model_run.specs.Actions.{Action, Withhold, AddDevice, AddCable, ResetBus, StartConnection, StartBreak, HalfStep, Rest, Unsettled, Pass, EndSecond}
use Rattle.fw_model_run.specs.Actions.{Die, CarryOut, Lose, TellLoss, Start, Ask, Answer, ShowWord, SendCommand, SendFrame, Receive, InsertTape, EjectTape}
use Rattle.fw_model_run.specs.Actions.{StartCycle, SendPacket, BecomeCandidate, Contend, TieReel, KeepBlock, Finish}
use Rattle.fw_model_run.specs.Giving.{at_most}
use Rattle.fw_model_run.specs.State.{State}
use Rattle.fw_model_run.specs.Deed.{Deed}
use Rattle.fw_model_run.specs.Found.{Found}
use Rattle.fw_model_run.specs.BusDeeds.{withholding, declaring, joining, resetting}
use Rattle.fw_model_run.specs.ControllerDeeds.{connecting, breaking, stepping, resting, ending_unsettled, carrying_out, losing, telling_loss, dying, starting}
use Rattle.fw_model_run.specs.TransactionDeeds.{asking, answering, showing, commanding, sending_frame, receiving}
use Rattle.fw_model_run.specs.CycleDeeds.{passing, ending_second, inserting, ejecting, starting_cycle, sending_packet}
use Rattle.fw_model_run.specs.ReelDeeds.{becoming_candidate, contending, tying, keeping, finishing}

-- the deed of an action in a state, by what it finds there
abbrev pub deed : (s : State) → (a : Action) → Found s a → Deed
deed s Withhold found = withholding s
deed s (AddDevice name kind ports speed) found = declaring s name kind ports speed found
deed s (AddCable a b) found = joining s a b found
deed s (ResetBus d) found = resetting s d found
deed s (StartConnection d wanted) found = connecting s d wanted
deed s (StartBreak d slot) found = breaking s d slot
deed s (HalfStep d) found = stepping s d found
deed s (Rest count) found = resting s count
deed s Unsettled found = ending_unsettled s
deed s (Pass cycles) found = passing s cycles
deed s EndSecond found = ending_second s
deed s (Die d) found = dying s d
deed s (CarryOut d) found = carrying_out s d
deed s (Lose d) found = losing s d
deed s (TellLoss d) found = telling_loss s d
deed s (Start d) found = starting s d
deed s (Ask x) found = asking s x
deed s Answer found = answering s found
deed s (ShowWord d offset) found = showing s d offset
deed s (SendCommand from to bytes) found = commanding s from to bytes
deed s (SendFrame d) found = sending_frame s d found
deed s (Receive obeyed) found = receiving s obeyed found
deed s (InsertTape d tape system) found = inserting s d tape system
deed s (EjectTape d) found = ejecting s d
deed s StartCycle found = starting_cycle s found
deed s (SendPacket p block) found = sending_packet s p block
deed s (BecomeCandidate d) found = becoming_candidate s d
deed s (Contend d) found = contending s d found
deed s (TieReel d) found = tying s d
deed s (KeepBlock block) found = keeping s block
deed s Finish found = finishing s

-- the transaction of the script that waits as an action is done: none, but for its answer
abbrev pub awaited : (s : State) → (a : Action) → Found s a → Option Transaction
awaited s Answer found = Some found.transaction
awaited s a found = None

-- One action is done as its deed says. A transaction of the script is answered before anything else happens. While the second of the latest
-- bus reset runs its end has not come yet, so in each state it is not over.
pub record Transition (s : State) (a : Action) (out : List Timed) (t : State) : Type 0 where
  pub found : Found s a
  pub waits : s.transaction ≡ awaited s a found
  pub may : (deed s a found).may
  pub out_is : out ≡ at_most (deed s a found).cycle (deed s a found).says
  pub state_is : t ≡ (deed s a found).after

-- actions one after another
abbrev pub Transitions : State → List Action → List Timed → State → Type 0
Transitions s [] out t = (out ≡ []) × (t ≡ s)
Transitions s (a ∷ actions) out t = (first rest : List Timed) × (mid : State) × Transition s a first mid × (out ≡ first ++ rest) × Transitions mid actions rest t
