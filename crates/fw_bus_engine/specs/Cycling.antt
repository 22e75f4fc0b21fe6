-- Cycles that are written: who talks in them, and what a desk gives.
use Rattle.std.specs.Prelude.{ℕ, ◌≡◌, ◌≤◌, ◌%◌, List, [], ◌∷◌, Option, Some, None, is_some, IsTrue}
use Rattle.std.specs.declared.result.Result.{Result}
use Rattle.fw_terms.specs.Tables.{at_plug}
use Rattle.fw_model_account.specs.Account.{talks}
use Rattle.fw_model_run.specs.Actions.{SendPacket, StartCycle}
use Rattle.fw_model_run.specs.Carrying.{next_cycle, SendsPackets, HasCycle, HasCycles}
use Rattle.fw_model_run.specs.Carrying as Carries
use Rattle.fw_model_run.specs.Recording.{block_among, heard_in}
use Rattle.std.specs.Option.{option_map, option_and_then}
use Rattle.fw_model_run.specs.Desks.{DeskRelations}
use Rattle.fw_model_run.specs.Good.{IsGood}
use Rattle.fw_model_run.specs.State.{State}
use Rattle.fw_model_run.specs.Streams.{GivenBlock, bytes_of, sent_before, talkers_to}
use Rattle.fw_bus_engine.specs.Performing.{Execution, Performs}
use Rattle.fw_bus_state.specs.Faults.{CountsFaults}
use Rattle.fw_bus_state.specs.Giving.{Sides, in_room, never_fails}
use Rattle.fw_bus_engine.specs.Framing.{CompletedWithDesk}
use Rattle.fw_bus_state.specs.Stands.{StandsFor}
use Rattle.fw_bus_state.specs.Streaming.{count_at}
use Rattle.fw_bus_state.specs.declared.machine.Machine.{Machine}
use Rattle.fw_bus_state.specs.Recording.{hearing_of}
use Rattle.fw_bus_state.specs.declared.recording.Recording.{Recording}
use Rattle.fw_log_entry.specs.declared.entry.Timed.{Timed}

-- ---- who talks

-- these are the counts before the cycle that has come, of the plugs that talk in it
pub record HadSent (counts : List ℕ) (s : State) : Type 0 where
  pub each : (d : ℕ) → IsTrue (talks s.account (at_plug d 0)) → count_at counts d ≡ sent_before s (at_plug d 0) % 256

-- ---- deeds

-- the next cycle comes
abbrev pub Comes : Execution
Comes s ys out t = Performs (next_cycle s ∷ []) s ys out t

-- and its cycle start is written
abbrev pub Begins : Execution
Begins s ys out t = Performs (next_cycle s ∷ StartCycle ∷ []) s ys out t

-- those that talk on the first n channels send theirs, in order of channel
abbrev pub SendsTo : ℕ → Execution
SendsTo n s ys out t = SendsPackets (talkers_to n s.account) s ys out t

-- ---- what is heard of the packets

-- the block on its channel among the entries of a cycle
abbrev pub heard_among : List Timed → Option Recording → Option Recording
heard_among out o = option_map (λ (r : Recording). record r { block = block_among r.channel out }) o

-- it is the same but for the block
abbrev pub unheard : Option Recording → Option Recording
unheard o = option_map (λ (r : Recording). record r { block = None }) o

-- the output plug of a device sends its packet of the cycle, on this channel
abbrev pub SendsHeard : ℕ → ℕ → Option Recording → Option Recording → Execution
SendsHeard d channel old new s ys out t =
    (block : Option GivenBlock) × Performs (SendPacket (at_plug d 0) block ∷ []) s ys out t × (new ≡ hearing_of channel (bytes_of block) old)

-- those that talk on the first n channels send theirs, and what is recorded of them is heard
abbrev pub HearsTo : ℕ → Option Recording → Option Recording → Execution
HearsTo n old new s ys out t =
    SendsTo n s ys out t × (new ≡ heard_among out old) × ((channel : ℕ) → n ≤ channel → block_among channel out ≡ None)

-- ---- what is recorded of a cycle

-- the block that was heard, if one was
abbrev pub block_in : Option Recording → Option (List ℕ)
block_in o = option_and_then (λ (r : Recording). r.block) o

-- all that talk send their packets, and this block is heard
abbrev pub HearsBlock : Option (List ℕ) → Execution
HearsBlock block s ys out t = SendsTo 64 s ys out t × (block ≡ heard_in s out)

-- a cycle comes and is written, and this block is heard
abbrev pub WritesHeard : Option (List ℕ) → Execution
WritesHeard block s ys out t = IsTrue (is_some s.account.latest) × Carries.WritesCycle s ys out t × (block ≡ heard_in t out)

-- a cycle comes and is written
abbrev pub WritesCycle : Execution
WritesCycle s ys out t = HasCycle s.account.latest s ys out t

-- so many cycles come and are written
abbrev pub WritesCycles : ℕ → Execution
WritesCycles n s ys out t = HasCycles n s ys out t

-- what a call did with what the desk gave, from any good state that the machine stood for and of which this holds
pub record PerformedWhere {T E : Type 0} (A : State → Type 0) (D : DeskRelations) (P : Execution)
    (m now : Machine) (sides : Sides) (result : Result T E) : Type 0 where
  pub faults : CountsFaults sides.count sides.counts result
  pub shown : (s : State) → IsGood s → StandsFor m s → A s → CompletedWithDesk D (P s) s now sides.held sides.after result

-- in a room stands what this writes: it grew by the entries
abbrev pub PutsIntoRoom : (State → Type 0) → DeskRelations → Execution → Machine → List ℕ → List ℕ → Type 0
PutsIntoRoom A D P m old new = PerformedWhere A D P m m (in_room old new) never_fails
