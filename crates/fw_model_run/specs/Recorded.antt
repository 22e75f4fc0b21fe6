-- Where a block that a deck records comes from.
use Rattle.std.specs.Prelude.{ℕ, ◌≡◌, List, [], ◌∷◌, ◌++◌, Some, IsTrue, ⊤}
use Rattle.fw_terms.specs.declared.plug.PlugAt.{PlugAt}
use Rattle.fw_terms.specs.Tables.{at_plug}
use Rattle.fw_log_entry.specs.declared.entry.Timed.{Timed}
use Rattle.fw_model_account.specs.Account.{talks}
use Rattle.fw_tape.specs.Blocks.{block_now}
use Rattle.fw_model_run.specs.Actions.{Action, KeepBlock}
use Rattle.fw_model_run.specs.Deeds.{Transitions}
use Rattle.fw_model_run.specs.Desks.{DeskRelations}
use Rattle.fw_model_run.specs.Recording.{records}
use Rattle.fw_model_run.specs.State.{State}
use Rattle.fw_model_run.specs.Streams.{GivenBlock, tape_at}

-- The bytes are those of a block that one output plug sends in the cycle that has come: the one plug that talks on this channel. Its tape gives
-- the block, and the desk allows the bytes.
pub record IsHeardFrom (D : DeskRelations) (s : State) (channel : ℕ) (bytes : List ℕ) : Type 0 where
  pub plug : PlugAt
  pub block : GivenBlock
  pub sends : IsTrue (talks s.account plug)
  pub channel_is : (s.account.settings plug).channel ≡ channel
  pub only : (q : PlugAt) → IsTrue (talks s.account q) → (s.account.settings q).channel ≡ channel → q ≡ plug
  pub due : Some block.place ≡ block_now (tape_at s plug)
  pub bytes_are : block.bytes ≡ bytes
  pub given : D.blocks block.place.tape block.place.frame block.place.block bytes

-- A device is tied, records, and hears this block on the channel that its input plug is set to.
pub record IsRecorded (D : DeskRelations) (s : State) (bytes : List ℕ) : Type 0 where
  pub device : ℕ
  pub tied : s.dub.tied ≡ Some device
  pub on : IsTrue (records s device)
  pub heard : IsHeardFrom D s (s.account.input_channel (at_plug device 0)) bytes

-- One of these actions keeps the block, and in the state to which those before it lead it is recorded.
pub record IsKeptAmong (D : DeskRelations) (s : State) (actions : List Action) (bytes : List ℕ) : Type 0 where
  pub before : List Action
  pub rest : List Action
  pub out : List Timed
  pub state : State
  pub leads : Transitions s before out state
  pub here : IsRecorded D state bytes
  pub actions_are : actions ≡ before ++ KeepBlock (Some bytes) ∷ rest

-- it holds of each block of a reel
abbrev pub EachOf : (List ℕ → Type 0) → List (List ℕ) → Type 0
EachOf P [] = ⊤
EachOf P (bytes ∷ reel) = P bytes × EachOf P reel

-- each was recorded in the course of these actions
abbrev pub AreRecorded : DeskRelations → State → List Action → List (List ℕ) → Type 0
AreRecorded D s actions reel = EachOf (IsKeptAmong D s actions) reel
