-- Frames that go between nodes, and what a desk gives while an order is carried out.
use Rattle.std.specs.Prelude.{ℕ, ◌≡◌, ◌+◌, ◌<◌, List, [], ◌∷◌, ◌++◌, length, Bool, true, false, Option, Some, None, Ok, Err, is_some, if◌then◌else◌}
use Rattle.std.specs.declared.result.Result.{Result}
use Rattle.fw_async.specs.declared.packet.Packet.{Packet}
use Rattle.fw_log_entry.specs.declared.entry.Timed.{Timed}
use Rattle.fw_fcp.specs.declared.frame.Frame.{Frame}
use Rattle.fw_node.specs.Fcp.{frame_packet}
use Rattle.fw_node.specs.Packets.{packet_of}
use Rattle.fw_node.specs.State.{NodeState}
use Rattle.fw_devices.specs.Network.{Network, node_at}
use Rattle.fw_order.specs.declared.order.Order.{Order}
use Rattle.fw_model_run.specs.Actions.{Action, SendCommand, SendFrame, Receive}
use Rattle.fw_model_run.specs.Carrying.{Carries, SendsAll}
use Rattle.fw_model_run.specs.Decks.{Obeyed}
use Rattle.fw_model_run.specs.Desks.{DeskRelations}
use Rattle.fw_model_run.specs.Frames.{write_request, next_told}
use Rattle.fw_model_run.specs.Given.{IsGiven, AreGiven}
use Rattle.fw_model_run.specs.Good.{IsGood}
use Rattle.fw_model_run.specs.Spaces.{script_head}
use Rattle.fw_model_run.specs.State.{State}
use Rattle.fw_bus_state.specs.declared.machine.Machine.{Machine}
use Rattle.fw_bus_engine.specs.Performing.{Execution, Performs, CutOff, Completed}
use Rattle.fw_bus_state.specs.Faults.{CountsFaults}
use Rattle.fw_bus_state.specs.Giving.{Sides}
use Rattle.fw_bus_state.specs.Stands.{StandsFor}

-- ---- deeds

-- an order is carried out, with what the desk gives
abbrev pub CarriesWithDesk : DeskRelations → Order → Execution
CarriesWithDesk D o s ys out t = Carries s o ys out t × AreGiven D ys

-- All was done with what the desk gives, or it was cut off. Then the desk gave what was done, and what was to follow is any that could
-- have: of a closure that is not called nothing says that it has a result.
abbrev pub CompletedWithDesk : {T E : Type 0} → DeskRelations → (List Action → List Timed → State → Type 0) → State → Machine
    → Option (List ℕ) → Option (List ℕ) → Result T E → Type 0
CompletedWithDesk D P s now held after (Ok _) = Completed (λ ys out t. P ys out t × AreGiven D ys) s now held after
CompletedWithDesk D P s now held after (Err _) = (cut : CutOff P s held after) × AreGiven D cut.done

-- what a call did with what the desk gave, from any good state that the machine stood for
pub record PerformedWithDesk {T E : Type 0} (D : DeskRelations) (P : Execution)
    (m now : Machine) (sides : Sides) (result : Result T E) : Type 0 where
  pub faults : CountsFaults sides.count sides.counts result
  pub shown : (s : State) → IsGood s → StandsFor m s → CompletedWithDesk D (P s) s now sides.held sides.after result

-- bytes are written to FCP_COMMAND of a device, and the write is answered
abbrev pub Commands : DeskRelations → ℕ → ℕ → List ℕ → Execution
Commands D a b bytes s ys out t = (obeyed : Option Obeyed) × IsGiven D (Receive obeyed) × Performs (SendCommand a b bytes ∷ Receive obeyed ∷ []) s ys out t

-- a device sends its next frame, whose write is answered; or it has none, and nothing is done
abbrev pub SendsNext : {E : Type 0} → ℕ → Result Bool E → Execution
SendsNext d (Ok false) s ys out t = (next_told s d ≡ None) × Performs [] s ys out t
SendsNext d (Ok true) s ys out t = Performs (SendFrame d ∷ Receive None ∷ []) s ys out t
SendsNext d (Err _) s ys out t = Performs (SendFrame d ∷ Receive None ∷ []) s ys out t

-- first these frames, whatever frames follow
abbrev pub SendsFirst : ℕ → Execution
SendsFirst d s ys out m =
    (m.transaction ≡ None) × (m.frame ≡ None)
    × ((zs : List Action) (more : List Timed) (t : State) → SendsAll d m zs more t → SendsAll d s (ys ++ zs) (out ++ more) t)

-- ---- what nodes have to send

-- no response waits
abbrev pub IsQuiet : Network → Type 0
IsQuiet n = (d : ℕ) → d < length n.nodes → (node_at n.nodes d).waiting ≡ None

-- how many frames a node may have to send: each one that is sent is one less
abbrev pub frames_of : NodeState → ℕ
frames_of n = (elim n.unit [ Some u ↦ length u.kept | None ↦ 0 ]) + (if is_some n.waiting then 1 else 0)

-- ---- packets

-- the packet that writes bytes at an offset of a device's node, by the nodes' numbers
pub record IsWrite (nodes : List NodeState) (a b offset : ℕ) (bytes : List ℕ) (packet : Packet) : Type 0 where
  pub to : ℕ
  pub from : ℕ
  pub to_is : (node_at nodes b).number ≡ Some to
  pub from_is : (node_at nodes a).number ≡ Some from
  pub packet_is : packet ≡ packet_of (script_head to from) (write_request offset bytes)

-- a packet writes a frame to the node with this number
abbrev pub IsFrameTo : Packet → ℕ → Type 0
IsFrameTo p n = (from : ℕ) × (told : ℕ × Frame) × (p ≡ frame_packet from told) × (told.0 ≡ n) × (n < 64)
