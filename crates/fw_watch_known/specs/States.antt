-- What is known of a bus, and how bus resets, time and deaths change it.
use Rattle.std.specs.Prelude.{ℕ, ◌+◌, ◌-◌, ◌^◌, ◌==◌, ◌&&◌, nat_le, nat_lt, min, Bool, true, false, is_none, List, [], length, replicate, Option, Some, None, if◌then◌else◌}
use Rattle.std.specs.List.{position}
use Rattle.fw_log_entry.specs.declared.nodes.NodeRow.{NodeRow}
use Rattle.fw_log_entry.specs.declared.entry.ResetEntry.{ResetEntry}
use Rattle.fw_watch_remarks.specs.declared.register.WatchedRegister.{WatchedRegister}
use Rattle.fw_watch_remarks.specs.declared.register.WatchedRegister.TheVariants.{Bandwidth, ChannelsHigh, ChannelsLow, Output, Input}
use Rattle.fw_watch_remarks.specs.declared.register.At.{At}
use Rattle.fw_watch_remarks.specs.declared.known.Known.{Known}
use Rattle.fw_watch_remarks.specs.declared.known.Managed.{Managed}
use Rattle.fw_watch_known.specs.declared.counts.Counts.{Counts}
use Rattle.fw_watch_known.specs.declared.second.Before.{Before}
use Rattle.fw_watch_known.specs.declared.second.Before.TheVariants.{Nothing, Dark, Words}
use Rattle.fw_watch_known.specs.declared.second.Second.{Second}
use Rattle.fw_watch_known.specs.declared.state.Manager.{Manager}
use Rattle.fw_watch_known.specs.declared.state.Manager.TheVariants.{Unknown, Absent, Node}
use Rattle.fw_watch_known.specs.declared.state.State.{State}
use Rattle.fw_watch_remarks.specs.Knowing.{nothing_known, no_managed, reset_managed, after_reset, channel_of}
use Rattle.fw_watch_remarks.specs.Remarks.{counted}
use Rattle.fw_watch_known.specs.Channels.{fresh, plug_at, with_plug, freshened, plug_moved}
use Rattle.fw_watch_requests.specs.Standing.{without_source}

-- ---- the second after a bus reset

-- no bus reset came
abbrev pub no_second : Second
no_second = record { since = None; before = Nothing; taken = 0; given = 0 }

-- the second of 8000 cycles has passed that began then
abbrev pub is_over : Option ℕ → ℕ → Bool
is_over None cycle = false
is_over (Some since) cycle = nat_le since cycle && nat_le 8000 (cycle - since)

-- the time is this cycle
unfoldable pub ticked_second : ℕ → Second → Second
ticked_second cycle s = if is_over s.since cycle then record s { since = None; before = Nothing } else s

-- what was known before a second: of a bus reset in a second that runs, what was known before that; of the first bus reset nothing
abbrev pub begin_before : Bool → Managed → Before → Before
begin_before true managed Nothing = Nothing
begin_before false managed Nothing = Words managed
begin_before first managed Dark = Dark
begin_before first managed (Words words) = Words words

-- a bus reset, which may be the first, when this was known
unfoldable pub begun : ℕ → Bool → Managed → Second → Second
begun cycle first managed s = record { since = Some cycle; before = begin_before first managed s.before; taken = 0; given = 0 }

-- a second that the log ended is dark until its time has passed
abbrev pub darkened : Option ℕ → Before
darkened None = Nothing
darkened (Some since) = Dark

-- the log says that the second is over
unfoldable pub ended_second : Second → Second
ended_second s = record s { before = darkened s.since }

-- a sum, which stays at the greatest that a number of 64 bits has
abbrev pub capped : ℕ → ℕ
capped n = min n (2 ^ 64 - 1)

-- the units left became others
unfoldable pub counted_second : ℕ → ℕ → Second → Second
counted_second old new s =
    if nat_lt new old then record s { taken = capped (s.taken + (old - new)) } else record s { given = capped (s.given + (new - old)) }

-- ---- the state

-- nothing was counted
abbrev pub no_counts : Counts
no_counts = record { resets = 0; judged = 0; not_known = 0; unseen = 0; packets = 0 }

-- nothing is known of a bus
abbrev pub no_state : State
no_state = record {
  count = 63;
  nodes = [];
  epoch = None;
  manager = Unknown;
  managed = no_managed;
  plugs = replicate 3906 nothing_known;
  channels = replicate 64 fresh;
  standing = [];
  second = no_second;
  counts = no_counts;
}

-- the manager that a bus reset has found
abbrev pub manager_of : Option ℕ → Manager
manager_of None = Absent
manager_of (Some node) = Node node

-- the manager, if this node has answered as one: if none is known, it is the node
abbrev pub manager_by : ℕ → Manager → Manager
manager_by node Unknown = Node node
manager_by node Absent = Absent
manager_by node (Node m) = Node m

-- it is this node
abbrev pub is_manager : ℕ → Manager → Bool
is_manager node Unknown = false
is_manager node Absent = false
is_manager node (Node m) = m == node

-- the bus has no resource manager
abbrev pub is_absent : Manager → Bool
is_absent Unknown = false
is_absent Absent = true
is_absent (Node m) = false

-- its number, if it is known
abbrev pub manager_node : Manager → Option ℕ
manager_node Unknown = None
manager_node Absent = None
manager_node (Node m) = Some m

-- what is known of a register by its kind
abbrev pub known_by : WatchedRegister → Managed → Known → Known
known_by Bandwidth managed plug = managed.bandwidth
known_by ChannelsHigh managed plug = managed.high
known_by ChannelsLow managed plug = managed.low
known_by (Output number) managed plug = plug
known_by (Input number) managed plug = plug

-- what is known of a register
unfoldable pub known_of : State → At → Known
known_of s at = known_by at.register s.managed (plug_at s.plugs at)

-- what is known of a plug from now on: whose packets a channel carries is to be seen anew if the plug comes or goes
unfoldable pub with_known_plug : State → At → Known → State
with_known_plug s at known =
    record s { channels = plug_moved (channel_of (plug_at s.plugs at)) (channel_of known) s.channels; plugs = with_plug s.plugs at known }

-- what is known of a register from now on, by its kind; of a channel whose bit changes nothing was seen
abbrev pub with_known_by : WatchedRegister → State → At → Known → State
with_known_by Bandwidth s at known = record s { managed = record s.managed { bandwidth = known } }
with_known_by ChannelsHigh s at known = record s { channels = freshened 32 0 s.managed.high known s.channels; managed = record s.managed { high = known } }
with_known_by ChannelsLow s at known = record s { channels = freshened 32 32 s.managed.low known s.channels; managed = record s.managed { low = known } }
with_known_by (Output number) s at known = with_known_plug s at known
with_known_by (Input number) s at known = with_known_plug s at known

-- what is known of a register from now on
unfoldable pub with_known : State → At → Known → State
with_known s at known = with_known_by at.register s at known

-- a bus reset: it fixes the resource manager's registers but for channel 31, and the connections of plugs, and nothing else
unfoldable pub reset_state : ℕ → ResetEntry → State → State
reset_state cycle r s = record {
  count = length r.nodes;
  nodes = r.nodes;
  epoch = Some r.epoch;
  manager = manager_of r.manager;
  managed = reset_managed;
  plugs = replicate (length s.plugs) after_reset;
  channels = replicate (length s.channels) fresh;
  standing = [];
  second = begun cycle (is_none s.epoch) s.managed s.second;
  counts = record s.counts { resets = counted s.counts.resets };
}

-- the row is of this device
unfoldable pub is_device : ℕ → NodeRow → Bool
is_device device row = row.device == device

-- the node that a device was at a bus reset, if it was there
unfoldable pub node_of_device : ℕ → List NodeRow → Option ℕ
node_of_device device nodes = position (is_device device) nodes

-- the requests of a node end
abbrev pub buried : Option ℕ → State → State
buried None s = s
buried (Some node) s = record s { standing = without_source (0xFFC0 + node) s.standing }

-- the controller of a device died: its requests are outstanding no longer
unfoldable pub after_death : ℕ → State → State
after_death device s = buried (node_of_device device s.nodes) s
