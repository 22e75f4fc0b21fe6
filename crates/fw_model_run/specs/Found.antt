-- What an action finds as it is done, and does not say itself.
use Rattle.std.specs.Prelude.{ℕ, List, [], ◌∷◌, Bool, true, false, ⊤}
use Rattle.fw_async.specs.declared.packet.Packet.{Packet}
use Rattle.fw_fcp.specs.declared.frame.Frame.{Frame}
use Rattle.fw_log_entry.specs.declared.entry.ResetEntry.{ResetEntry}
use Rattle.fw_manager.specs.Bids.{CandidateState}
use Rattle.fw_order.specs.declared.order.Transaction.{Transaction}
use Rattle.fw_tree.specs.Topology.{Topology}
use Rattle.fw_model_run.specs.Actions.{Action, AddDevice, AddCable, ResetBus, HalfStep, Answer, SendFrame, Receive, StartCycle, Contend}
use Rattle.fw_model_run.specs.Decks.{FrameWrite}
use Rattle.fw_model_run.specs.State.{State, is_deaf, is_on}
use Rattle.fw_model_run.specs.HalfSteps.{is_waiting}

-- ---- bus resets: the entry is found, if there is one

-- the first device begins the first bus reset; the names are those that are declared already
abbrev pub FoundBefore : List (List ℕ) → Type 0
FoundBefore [] = ResetEntry
FoundBefore (x ∷ names) = ⊤

-- a cable between two ends begins one, if one of them is on the bus and one is off
abbrev pub FoundBetween : Bool → Bool → Type 0
FoundBetween true false = ResetEntry
FoundBetween false true = ResetEntry
FoundBetween true true = ⊤
FoundBetween false false = ⊤

-- the topology with a cable more, and the bus reset that it begins
pub record FoundCable (one other : Bool) : Type 0 where
  pub topology : Topology
  pub begun : FoundBetween one other

-- a half step of a controller forces one, if it has lost a response and waits no more
abbrev pub FoundInHalf : (deaf waiting : Bool) → Type 0
FoundInHalf false waiting = ⊤
FoundInHalf true true = ⊤
FoundInHalf true false = ResetEntry

-- ---- packets

-- the transaction of the script that waits for its answer, and the packet that answers it
pub record FoundAnswer : Type 0 where
  pub transaction : Transaction
  pub response : Packet

-- the next frame of a deck, the number of the node that it is for, and the device that this node is
pub record FoundFrame : Type 0 where
  pub node : ℕ
  pub frame : Frame
  pub to : ℕ

-- the frame that was written and whose write is not answered, and the packet that answers the write
pub record FoundWrite : Type 0 where
  pub write : FrameWrite
  pub response : Packet

-- ---- candidates

-- the candidate of a device, and the node that is the isochronous resource manager
pub record FoundBid : Type 0 where
  pub candidate : CandidateState
  pub manager : ℕ

-- ---- each action

-- what an action finds in a state; `StartCycle` finds the entry of the latest bus reset
abbrev pub Found : State → Action → Type 0
Found s (AddDevice name kind ports speed) = FoundBefore s.declared.names
Found s (AddCable a b) = FoundCable (is_on s a.device) (is_on s b.device)
Found s (ResetBus d) = ResetEntry
Found s (HalfStep d) = FoundInHalf (is_deaf s d) (is_waiting s d)
Found s Answer = FoundAnswer
Found s (SendFrame d) = FoundFrame
Found s (Receive obeyed) = FoundWrite
Found s StartCycle = ResetEntry
Found s (Contend d) = FoundBid
Found s _ = ⊤
