-- The account of channels, bandwidth units and plug connections that the transactions of a log make.
use Rattle.fw_terms.specs.declared.plug.PlugAt.{PlugAt}
use Rattle.fw_log_entry.specs.declared.entry.ResetEntry.{ResetEntry}
use Rattle.std.specs.Prelude.{ℕ, ◌+◌, ◌-◌, ◌==◌, nat_lt, Bool, true, false, not, ◌&&◌, ◌||◌, Option, Some, None, is_some, List}
use Rattle.fw_terms.specs.Tables.{find_to, sum_to}
use Rattle.fw_plug.specs.Words.{Settings}

-- who has an allocated channel: a controller that has not connected the plug yet or no longer, the plug's connections,
-- or nobody since the controller that had it died
pub data Holder : Type 0 where
  Pending : (controller : ℕ) → (plug : PlugAt) → Holder
  Connected : (plug : PlugAt) → Holder
  Orphaned : (plug : PlugAt) → Holder

-- the allocation of a channel: its holder, and the bandwidth units that are allocated with it, 0 if none are
pub record Allocation : Type 0 where
  pub holder : Holder
  pub units : ℕ

-- who made a connection: a controller, or one that died since
pub data Owner : Type 0 where
  Of : (controller : ℕ) → Owner
  Dead : Owner

-- the connections of one plug: the point-to-point connections of each controller, those whose controllers died, and the
-- broadcast connection
pub record Connections : Type 0 where
  pub counts : ℕ → ℕ
  pub orphaned : ℕ
  pub broadcast : Option Owner

-- an isochronous flow: its output plug and its units
pub record Flow : Type 0 where
  pub plug : PlugAt
  pub units : ℕ

-- what a request asks for: to read a quadlet, or a lock function on its data (argument, then data value)
pub data Operation : Type 0 where
  Reads : Operation
  Locks : (function : ℕ) → (bytes : List ℕ) → Operation

-- an outstanding request: the node ID that it is sent to, the address there, and what it asks for
pub record Request : Type 0 where
  pub target : ℕ
  pub address : ℕ
  pub operation : Operation

-- Controllers and plugs are named by device.
pub record Account : Type 0 where
  pub latest : Option ResetEntry  -- the latest reset entry
  pub withheld : Bool  -- whether the bus withholds channel 31, so that it is never free
  pub reclaiming : Bool  -- whether a reclaim second runs
  pub allocations : ℕ → Option Allocation  -- by channel
  pub outputs : PlugAt → Connections
  pub inputs : PlugAt → Connections
  pub settings : PlugAt → Settings  -- what each output plug keeps
  pub input_channel : PlugAt → ℕ  -- what each input plug keeps
  pub continues : PlugAt → Bool  -- output plugs that go on talking after a reset, with no connection
  pub reclaimable : ℕ → Option Flow  -- the flows that may be allocated again in the reclaim second, by channel
  pub addressed : ℕ → Option PlugAt  -- the output plug that each controller last addressed while it had no Pending allocation
  pub outstanding : ℕ → Option Request  -- by controller

-- the units allocated with a channel
abbrev pub allocated : Option Allocation → ℕ
allocated None = 0
allocated (Some x) = x.units

-- the units of a flow, 0 if there is none
abbrev pub flow_units : Option Flow → ℕ
flow_units None = 0
flow_units (Some f) = f.units

-- all units that are allocated
abbrev pub total : (ℕ → Option Allocation) → ℕ
total allocations = sum_to 64 (λ ch. allocated (allocations ch))

-- the units of all flows that may be allocated again
abbrev pub reclaimable_total : (ℕ → Option Flow) → ℕ
reclaimable_total reclaimable = sum_to 64 (λ ch. flow_units (reclaimable ch))

-- the units that are left (IEEE 1394-1995, BANDWIDTH_AVAILABLE)
abbrev pub remainder : Account → ℕ
remainder l = 4915 - total l.allocations

-- whether a channel with this allocation is free
abbrev pub is_free : Option Allocation → Bool
is_free None = true
is_free (Some x) = false

-- whether a channel is withheld; none but 31 ever is (IEEE 1394a keeps it for broadcast by default)
abbrev pub is_withheld : Bool → ℕ → Bool
is_withheld withheld ch = withheld && (ch == 31)

-- whether a channel is open, so that it can be allocated: it is free, and not withheld
abbrev pub is_open : Bool → (ℕ → Option Allocation) → ℕ → Bool
is_open withheld allocations ch = is_free (allocations ch) && not (is_withheld withheld ch)

-- how many point-to-point connections a plug has
abbrev pub counter : Connections → ℕ
counter s = s.orphaned + sum_to 63 s.counts

-- whether there is a broadcast connection
abbrev pub is_there : Option Owner → Bool
is_there None = false
is_there (Some o) = true

-- whether a plug has a connection
abbrev pub has_connection : Connections → Bool
has_connection s = nat_lt 0 (counter s) || is_there s.broadcast

-- whether an output plug sends: it has a connection, or goes on from before the reset
abbrev pub talks : Account → PlugAt → Bool
talks l p = has_connection (l.outputs p) || l.continues p

-- whether the holder is controller c with a Pending allocation
abbrev pub is_pending_of : ℕ → Holder → Bool
is_pending_of c (Pending d p) = c == d
is_pending_of c (Connected p) = false
is_pending_of c (Orphaned p) = false

-- whether this is a Pending allocation of controller c
abbrev pub is_pending : ℕ → Option Allocation → Bool
is_pending c None = false
is_pending c (Some x) = is_pending_of c x.holder

-- the first channel of which controller c has a Pending allocation
abbrev pub pending_channel : ℕ → (ℕ → Option Allocation) → Option ℕ
pending_channel c allocations = find_to 64 (λ ch. is_pending c (allocations ch))

-- whether controller c has a Pending allocation
abbrev pub has_pending : ℕ → (ℕ → Option Allocation) → Bool
has_pending c allocations = is_some (pending_channel c allocations)

-- the output plug for which a holder has its channel
abbrev pub plug_of : Holder → PlugAt
plug_of (Pending d p) = p
plug_of (Connected p) = p
plug_of (Orphaned p) = p
