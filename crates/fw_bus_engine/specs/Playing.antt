-- The output plugs that talk while cycles are written, kept apart from the machine, whose devices follow later.
use Rattle.std.specs.Prelude.{ℕ, zero, suc, ◌≡◌, ◌≤◌, ◌<◌, ◌+◌, ◌++◌, List, [], ◌∷◌, length, map, Option, Some, None, IfSome, slice_index_or}
use Rattle.std.specs.Option.{option_map}
use Rattle.fw_cip.specs.declared.packet.IsoPacket.{IsoPacket}
use Rattle.fw_cip.specs.Iso.{Fits}
use Rattle.fw_cip.specs.Streams.{HasSent, count_of, packet_after}
use Rattle.fw_log_entry.specs.Log.{entry_bytes}
use Rattle.fw_log_entry.specs.declared.entry.Entry.TheVariants.{Iso}
use Rattle.fw_log_entry.specs.declared.version.Version.TheVariants.{Two}
use Rattle.fw_tape.specs.Blocks.{Gives, block_now}
use Rattle.fw_tape.specs.Desks.{BlockRelation}
use Rattle.fw_tape.specs.Motion.{MayPass, is_fifty, passed_on}
use Rattle.fw_node.specs.State.{NodeState}
use Rattle.fw_devices.specs.Decks.{passed, tape_of}
use Rattle.fw_devices.specs.Network.{node_at}
use Rattle.fw_devices.specs.Streams.{AreTalkers}
use Rattle.fw_model_run.specs.Desks.{DeskRelations}
use Rattle.fw_model_run.specs.Good.{IsGood}
use Rattle.fw_model_run.specs.State.{State}
use Rattle.fw_bus_state.specs.declared.machine.Machine.{Machine}
use Rattle.fw_bus_state.specs.declared.recording.Recording.{Recording}
use Rattle.fw_bus_state.specs.Recording.{hearing_of, recording_in, reel_after}
use Rattle.fw_bus_state.specs.Stands.{StandsFor}
use Rattle.fw_bus_state.specs.Streaming.{count_at, counted_on}
use Rattle.fw_bus_engine.specs.Cycling.{HadSent, HearsTo, PutsIntoRoom, unheard}
use Rattle.fw_bus_engine.specs.declared.cycle_streams.CycleStreams.{CycleStreams}
use Rattle.fw_bus_engine.specs.declared.cycle_streams.RecordingDeck.{RecordingDeck}
use Rattle.fw_bus_engine.specs.declared.cycle_streams.TalkingPlug.{TalkingPlug}

-- ---- cycles that the devices are to follow

-- the nodes so many cycles on, each cycle by itself
abbrev pub nodes_ahead : ℕ → List NodeState → List NodeState
nodes_ahead zero nodes = nodes
nodes_ahead (suc n) nodes = map (passed 1) (nodes_ahead n nodes)

-- and the counts of what their plugs have sent
abbrev pub counts_ahead : ℕ → List NodeState → List ℕ → List ℕ
counts_ahead zero nodes counts = counts
counts_ahead (suc n) nodes counts = counted_on 1 (nodes_ahead n nodes) (counts_ahead n nodes counts)

-- the machine whose devices and counts have followed so many cycles
abbrev pub ahead : ℕ → Machine → Machine
ahead n m = record m { devices = record m.devices { nodes = nodes_ahead n m.devices.nodes }; streams = counts_ahead n m.devices.nodes m.streams }

-- ---- who plays

-- the output plug of the device, which talks on this channel: its node's number, what it has sent, and its tape
pub record IsTalkingPlug (nodes : List NodeState) (counts : List ℕ) (d channel : ℕ) (p : TalkingPlug) : Type 0 where
  pub number : (node_at nodes d).number ≡ Some p.own
  pub low : p.own < 64
  pub talks : p.talker.channel ≡ channel
  pub sent : HasSent (count_at counts d) p.talker
  pub tape : p.tape ≡ tape_of (node_at nodes d)

-- that of the device that talks on a channel, if one does
abbrev pub IsAt : List NodeState → List ℕ → ℕ → Option ℕ → Option TalkingPlug → Type 0
IsAt nodes counts channel None o = o ≡ None
IsAt nodes counts channel (Some d) o = (p : TalkingPlug) × (o ≡ Some p) × IsTalkingPlug nodes counts d channel p

-- those of all devices that talk, by channel
pub record AreTalkingPlugs (nodes : List NodeState) (counts : List ℕ) (talking_plugs : List (Option TalkingPlug)) : Type 0 where
  pub talkers : List (Option ℕ)
  pub are : AreTalkers (length nodes) nodes talkers
  pub few : length talking_plugs ≤ 64
  pub at : (channel : ℕ) → IsAt nodes counts channel (slice_index_or talkers channel None) (slice_index_or talking_plugs channel None)

-- what the deck records of a cycle, before anything of it is written
abbrev pub recorded : Option RecordingDeck → Option Recording
recorded None = None
recorded (Some k) = Some (record { channel = k.channel; limit = k.limit; block = None })

-- the machine, with its devices as far as the band is, has these players and this deck
pub record IsCycleStreamsOf (m : Machine) (cycle_streams : CycleStreams) : Type 0 where
  pub talking_plugs : AreTalkingPlugs m.devices.nodes m.streams cycle_streams.talking_plugs.items
  pub deck : (s : State) → IsGood s → StandsFor m s → recorded cycle_streams.deck ≡ recording_in s
  pub limit : IfSome cycle_streams.deck (λ k. k.limit ≤ 4800)

-- ---- a cycle of a player

-- its tape passes a cycle, and its packet stands in the room after what was there, with the block that the tape gives
pub record Sends (R : BlockRelation) (channel : ℕ) (old new : TalkingPlug) (epoch cycle : ℕ) (before after : List ℕ) (heard hears : Option Recording) : Type 0 where
  pub block : Option (List ℕ)
  pub gives : Gives R (block_now new.tape) block
  pub tape : new.tape ≡ option_map (passed_on 1) old.tape
  pub own : new.own ≡ old.own
  pub talker : new.talker.channel ≡ old.talker.channel
  pub packet : IsoPacket
  pub packet_is : (blocks : ℕ) → HasSent blocks old.talker → packet ≡ packet_after channel blocks old.own (is_fifty new.tape) block
  pub fits : Fits packet
  pub bytes : after ≡ before ++ entry_bytes Two epoch (record { cycle = cycle; what = Iso packet })
  pub sent : (blocks : ℕ) → HasSent blocks old.talker → HasSent (blocks + count_of block) new.talker
  pub heard_is : hears ≡ hearing_of channel block heard

-- a cycle of the plug that talks on a channel, if one does
abbrev pub TakesTurn : BlockRelation → ℕ → Option TalkingPlug → Option TalkingPlug → ℕ → ℕ → List ℕ → List ℕ → Option Recording → Option Recording → Type 0
TakesTurn R channel None new epoch cycle before after heard hears = (new ≡ None) × (after ≡ before) × (hears ≡ heard)
TakesTurn R channel (Some p) new epoch cycle before after heard hears = (q : TalkingPlug) × (new ≡ Some q) × Sends R channel p q epoch cycle before after heard hears

-- it may take one
abbrev pub MayTakeTurn : ℕ → Option TalkingPlug → Type 0
MayTakeTurn channel o = IfSome o (λ p. MayPass 1 p.tape × (p.talker.channel ≡ channel) × (p.own < 64))

-- ---- all of them, if the deck records

-- the packets of a cycle stand in a room, and the block that the deck heard of them went onto the reel; the devices are to follow so many cycles
pub record PutsRecorded (D : DeskRelations) (gone : ℕ) (deck : RecordingDeck) (m now : Machine) (old new : List ℕ) : Type 0 where
  pub heard : Option Recording
  pub same : unheard heard ≡ recorded (Some deck)
  pub puts : PutsIntoRoom (HadSent (ahead gone m).streams) D (HearsTo 64 (recorded (Some deck)) heard) (ahead (gone + 1) m) old new
  pub kept : now ≡ record m { reel = reel_after heard m.reel }
