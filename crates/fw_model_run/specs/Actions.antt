-- Actions: what commands do, each of which writes one entry at most.
use Rattle.std.specs.Prelude.{ℕ, ◌==◌, ◌^◌, ◌<◌, ⊤, List, Option, IsTrue, IsFalse}
use Rattle.fw_terms.specs.declared.device.DeviceKind.{DeviceKind}
use Rattle.fw_terms.specs.declared.plug.PlugAt.{PlugAt}
use Rattle.fw_csr.specs.declared.low_offset.TheConstants.{BUS_MANAGER_ID}
use Rattle.fw_tree.specs.declared.facts.End.{End}
use Rattle.fw_order.specs.declared.order.Access.{Access}
use Rattle.fw_order.specs.declared.order.Access.TheVariants.{Read, Swap}
use Rattle.fw_order.specs.declared.order.Transaction.{Transaction}
use Rattle.fw_order.specs.declared.order.Wanted.{Wanted}
use Rattle.fw_tape.specs.declared.system.TapeSystem.{TapeSystem}
use Rattle.fw_model_run.specs.Decks.{Obeyed}
use Rattle.fw_model_run.specs.Elections.{Election}
use Rattle.fw_model_run.specs.Streams.{GivenBlock}

-- what may be done in a run, one thing after another; each writes one entry at most
pub data Action : Type 0 where
  Withhold : Action  -- the bus withholds channel 31 from now on
  AddDevice : (name : List ℕ) → (kind : DeviceKind) → (ports speed : ℕ) → Action
  AddCable : (a b : End) → Action
  ResetBus : (device : ℕ) → Action
  StartConnection : (device : ℕ) → (wanted : Wanted) → Action
  StartBreak : (device slot : ℕ) → Action
  HalfStep : (device : ℕ) → Action
  Rest : (count : ℕ) → Action  -- so many half steps of controllers of which none has anything to do
  Unsettled : Action
  Pass : (cycles : ℕ) → Action  -- cycles go by, in which nothing happens
  EndSecond : Action  -- one cycle goes by, and the second of the latest bus reset is over
  Die : (device : ℕ) → Action
  CarryOut : (device : ℕ) → Action  -- the standing request of a controller that is about to die is carried out
  Lose : (device : ℕ) → Action  -- the standing request of a controller is carried out, and the controller does not hear the response
  TellLoss : (device : ℕ) → Action  -- that is told
  Start : (device : ℕ) → Action
  Ask : (transaction : Transaction) → Action
  Answer : Action
  ShowWord : (device offset : ℕ) → Action
  SendCommand : (from to : ℕ) → (bytes : List ℕ) → Action  -- bytes are written to FCP_COMMAND
  SendFrame : (device : ℕ) → Action  -- a deck writes its next frame
  Receive : (obeyed : Option Obeyed) → Action  -- a frame's write is answered, and where it is a command to a unit, carried out
  InsertTape : (device tape : ℕ) → (system : TapeSystem) → Action
  EjectTape : (device : ℕ) → Action
  StartCycle : Action  -- the root writes the cycle start of the cycle that has come
  SendPacket : (plug : PlugAt) → (block : Option GivenBlock) → Action  -- an output plug sends its packet of the cycle, with this block or empty
  BecomeCandidate : (device : ℕ) → Action  -- a computer becomes a candidate for the bus manager
  Contend : (device : ℕ) → Action  -- a half step of a candidate
  TieReel : (device : ℕ) → Action  -- the reel is emptied, and tied to a deck
  KeepBlock : (block : Option (List ℕ)) → Action  -- what the tied deck has heard in the cycle that was written goes onto the reel
  Finish : Action

-- ---- accesses of the script

-- an access that may be written
abbrev pub AccessFits : Access → Type 0
AccessFits (Read offset) = offset < 2 ^ 12
AccessFits (Swap offset swap) = (offset < 2 ^ 12) × (swap.argument < 2 ^ 32) × (swap.new < 2 ^ 32)

-- from the first candidate on the script does not swap BUS_MANAGER_ID
abbrev pub IsSpared : Election → Access → Type 0
IsSpared e (Read offset) = ⊤
IsSpared e (Swap offset swap) = IsTrue e.begun → IsFalse (offset == BUS_MANAGER_ID)
