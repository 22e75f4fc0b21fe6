-- What the bus keeps, against a state of a run: a record a part.
use Rattle.std.specs.Prelude.{ℕ, ◌≡◌, ◌+◌, ◌<◌, ◌≤◌, ◌⊎◌, ◌&&◌, not, List, Bool, length, Option, Some, None, unwrap_or, IsTrue, IsFalse, if◌then◌else◌}
use Rattle.fw_terms.specs.Devices.{has_link, has_unit}
use Rattle.fw_terms.specs.Tables.{at_plug}
use Rattle.fw_terms.specs.declared.device.DeviceKind.{DeviceKind}
use Rattle.fw_terms.specs.declared.plug.PlugAt.{PlugAt}
use Rattle.fw_cmp.specs.Causes.{IsAtRest}
use Rattle.fw_csr.specs.declared.request.Request.TheVariants as Asks
use Rattle.fw_csr.specs.declared.reply.Reply.{Reply}
use Rattle.fw_csr.specs.Manager.{ManagerWords}
use Rattle.fw_log_entry.specs.declared.entry.ResetEntry.{ResetEntry}
use Rattle.fw_tree.specs.SelfIds.{facts_at}
use Rattle.fw_tree.specs.declared.facts.PhyFacts.{PhyFacts}
use Rattle.fw_model_account.specs.Words.{Register, BandwidthAvailable, ChannelsAvailable, OutputPlug, InputPlug, word_of, first_address}
use Rattle.fw_node.specs.Space.{Space, answer_of}
use Rattle.fw_node.specs.State.{NodeState, HasSpace, space_of}
use Rattle.fw_node.specs.State as Nodes
use Rattle.fw_devices.specs.Network.{Network, no_entry, kind_at, kinds_of, is_node, node_at}
use Rattle.fw_devices.specs.Entries.{device_of}
use Rattle.fw_bus_state.specs.declared.machine.Machine.{Machine}
use Rattle.fw_model_run.specs.State.{State, Declared, number_in, epoch_of, numbers_to, directory_of}
use Rattle.fw_model_run.specs.Decks.{DeckState, first_deck}
use Rattle.fw_model_run.specs.Units.{HasDeck}
use Rattle.fw_model_run.specs.Spaces.{is_manager}
use Rattle.fw_model_run.specs.Truth.{controller_at}
use Rattle.fw_model_run.specs.Good.{IsGood}
use Rattle.fw_model_run.specs.Numbers.{HasNumbers}
use Rattle.fw_model_run.specs.Beside.{IsBeside}
use Rattle.fw_bus_state.specs.Bids.{HasBids}
use Rattle.fw_bus_state.specs.Candidates.{HasElection}
use Rattle.fw_bus_state.specs.Lingering.{HasLingering}
use Rattle.fw_bus_state.specs.Reels.{HasHearers, HasReel}
use Rattle.fw_bus_state.specs.Streaming.{HasStreams}
use Rattle.fw_bus_state.specs.Tables.{IsTable, dead_of, states_of}
use Rattle.fw_bus_state.specs.Wires.{HasWire}

-- ---- devices

-- what nodes keep of a run: the devices, which of them are nodes, and the words of their registers
pub record Seen : Type 0 where
  pub count : ℕ
  pub facts : List PhyFacts
  pub kinds : List DeviceKind
  pub latest : Option ResetEntry
  pub words : Register → ℕ
  pub bus_manager_id : ℕ
  pub withheld : Bool

-- that of a state
abbrev pub seen : State → Seen
seen s = record {
  count = length s.declared.names;
  facts = s.declared.topology.devices;
  kinds = s.declared.kinds;
  latest = s.account.latest;
  words = λ r. word_of s.account r;
  bus_manager_id = s.bus_manager_id;
  withheld = s.account.withheld;
}

-- the words of the manager's registers
abbrev pub manager_seen : Seen → ManagerWords
manager_seen v = record {
  bus_manager_id = v.bus_manager_id;
  bandwidth_available = v.words BandwidthAvailable;
  channels_available_hi = v.words (ChannelsAvailable 0);
  channels_available_lo = v.words (ChannelsAvailable 32);
  withheld = v.withheld;
}

-- the registers of a device that is node n, at cycle 0: no register that is kept tells the cycle
abbrev pub space_seen : Seen → ℕ → ℕ → Space
space_seen v d n = record {
  number = n;
  kind = kind_at v.kinds d;
  device = d;
  rate = (facts_at v.facts d).speed;
  cycle = 0;
  output_word = λ k. v.words (OutputPlug (at_plug d k));
  input_word = λ k. v.words (InputPlug (at_plug d k));
  manager = if is_manager v.latest n then Some (manager_seen v) else None;
}

-- a node on the bus has the registers of the account; a device that is off is as it was declared, but for the unit
abbrev pub IsNodeAt : Option ℕ → Seen → ℕ → NodeState → Type 0
IsNodeAt None v d n = n ≡ record (Nodes.first_state (kind_at v.kinds d) d (facts_at v.facts d).speed n.withheld) { unit = n.unit }
IsNodeAt (Some number) v d n = HasSpace n (space_seen v d number)

-- each device's node
pub record HasNodes (nodes : List NodeState) (v : Seen) : Type 0 where
  pub size : length nodes ≡ v.count
  pub each : (d : ℕ) → d < length nodes → IsNodeAt (number_in v.latest d) v d (node_at nodes d)

-- each device's unit, and the response that waits; a device that is not declared has none yet
pub record HasDecks (nodes : List NodeState) (kinds : List DeviceKind) (decks : ℕ → DeckState) : Type 0 where
  pub each : (d : ℕ) → d < length nodes → HasDeck (node_at nodes d) (has_unit (kind_at kinds d)) (decks d)
  pub others : (d : ℕ) → length nodes ≤ d → decks d ≡ first_deck

-- the device that is the isochronous resource manager
abbrev pub manager_device : Option ResetEntry → Option ℕ
manager_device None = None
manager_device (Some e) = device_of e.nodes e.manager

-- what a run has of its devices: what nodes keep, the decks, and the output and the input plugs that go on
pub record RunDevices : Type 0 where
  pub declared : Declared
  pub seen : Seen
  pub decks : ℕ → DeckState
  pub continues : PlugAt → Bool
  pub lingers : PlugAt → Bool

-- that of a state
abbrev pub devices_at : State → RunDevices
devices_at s = record { declared = s.declared; seen = seen s; decks = s.decks; continues = s.account.continues; lingers = s.dub.lingers }

-- the bus's devices, their nodes and the latest reset entry are those of the run
pub record HasDevices (n : Network) (r : RunDevices) : Type 0 where
  pub topology : n.topology ≡ r.declared.topology
  pub names : n.names ≡ r.declared.names
  pub kinds : kinds_of n.nodes ≡ r.declared.kinds
  pub nodes : HasNodes n.nodes r.seen
  pub lingering : HasLingering n.nodes r.continues
  pub decks : HasDecks n.nodes r.declared.kinds r.decks
  pub hearers : HasHearers n.nodes r.lingers
  pub latest : n.latest ≡ unwrap_or r.seen.latest no_entry
  pub epoch : n.epoch ≡ epoch_of r.seen.latest
  pub manager : n.manager ≡ manager_device r.seen.latest
  pub withheld : n.withheld ≡ r.seen.withheld

-- ---- time

-- the cycle, whether a reclaim second runs, and what was used of the limits
pub record Ticks : Type 0 where
  pub cycle : ℕ
  pub reclaiming : Bool
  pub half_steps : ℕ
  pub written : ℕ
  pub resets : ℕ

-- those of the bus
abbrev pub ticks_of : Machine → Ticks
ticks_of m = record { cycle = m.cycle; reclaiming = m.reclaiming; half_steps = m.half_steps; written = m.written; resets = m.resets }

-- those of a run
abbrev pub ticks_at : State → Ticks
ticks_at s = record { cycle = s.clock.cycle; reclaiming = s.account.reclaiming; half_steps = s.half_steps; written = s.written; resets = s.resets }

-- each is that of the run
pub record HasClock (bus run : Ticks) : Type 0 where
  pub cycle : bus.cycle ≡ run.cycle
  pub reclaiming : bus.reclaiming ≡ run.reclaiming
  pub half_steps : bus.half_steps ≡ run.half_steps
  pub written : bus.written ≡ run.written
  pub resets : bus.resets ≡ run.resets

-- ---- the whole

-- the machine stands for a state
pub record StandsFor (m : Machine) (s : State) : Type 0 where
  pub devices : HasDevices m.devices (devices_at s)
  pub clock : HasClock (ticks_of m) (ticks_at s)
  -- the controllers, as they are: the state has one that has lost a response as one that heard it
  pub table : IsTable m.controllers (length s.declared.names) (λ d. controller_at s d) s.dead
  -- what they are told of the bus
  pub directory : m.directory ≡ directory_of s
  pub wire : HasWire m.wire s
  pub streams : HasStreams m.streams s.streams
  pub answered : s.transaction ≡ None
  pub unsent : s.frame ≡ None
  -- the candidates, their requests, and the reel
  pub election : HasElection m.candidates (length s.declared.names) s.election
  pub bids : HasBids m.bids s
  pub reel : HasReel m.tied m.reel s.dub
  pub around : IsBeside s

-- it stands for some good state: what a call's safety rests on
pub record IsReady (m : Machine) : Type 0 where
  pub state : State
  pub good : IsGood state
  pub numbers : HasNumbers state
  pub stands : StandsFor m state

-- ---- what the machine shows

-- a device on the bus that has a link: its node answers
abbrev pub is_linked_in : Network → ℕ → Bool
is_linked_in n d = is_node n.nodes d && has_link (kind_at (kinds_of n.nodes) d)

-- a device whose controller lives
abbrev pub is_living_in : Machine → ℕ → Bool
is_living_in m d = is_linked_in m.devices d && not (dead_of m.controllers d)

-- the devices whose controllers live, in order of declaration
abbrev pub living_in : Machine → List ℕ
living_in m = numbers_to (length m.devices.names) (is_living_in m)

-- what a quadlet read of a register of a device is answered
abbrev pub read_in : Machine → ℕ → ℕ → Reply
read_in m d offset = let n = node_at m.devices.nodes d in (answer_of (space_of (unwrap_or n.number 0) m.cycle n) (Asks.Read (first_address + offset))).reply

-- A round need not look at the controllers from there on: it looks at all, or none has lost a response, and of those each that lives
-- has nothing to do. If one has lost a response it may force a bus reset on the way, after which each may have something to do.
abbrev pub EndsAt : Machine → ℕ → Type 0
EndsAt m end =
    (end ≡ length m.devices.names)
    ⊎ (((d : ℕ) → IsFalse (states_of m.controllers d).lost) × ((d : ℕ) → end ≤ d → d < length m.devices.names → IsTrue (is_living_in m d) → IsAtRest (states_of m.controllers d).state))
