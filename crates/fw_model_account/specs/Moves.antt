-- The moves: what a controller's compare_swap may do to the account. For each move, what it asks, and its effect.
use Rattle.fw_terms.specs.declared.plug.PlugAt.{PlugAt}
use Rattle.fw_terms.specs.declared.plug.ConnectionKind.{ConnectionKind}
use Rattle.fw_terms.specs.declared.plug.ConnectionKind.TheVariants.{PointToPoint, Broadcast}
use Rattle.std.specs.Prelude.{◌≡◌, ◌<◌, ◌≤◌, ℕ, ◌+◌, ◌-◌, false, if◌then◌else◌, Option, Some, None, IsTrue, IsFalse}
use Rattle.fw_terms.specs.Tables.{update, update_plug}
use Rattle.fw_model_account.specs.Account.{Pending, Connected, Allocation, Of, Connections, Account, remainder, counter, has_connection, is_pending, allocated, is_open}
use Rattle.fw_model_account.specs.Network.{is_output, is_input}
use Rattle.fw_plug.specs.Words.{units_of}

-- ---- connections

-- one connection of controller c more
abbrev pub add_connection : ℕ → ConnectionKind → Connections → Connections
add_connection c PointToPoint s = record s { counts = update s.counts c (s.counts c + 1) }
add_connection c Broadcast s = record s { broadcast = Some (Of c) }

-- one connection of controller c less
abbrev pub drop_connection : ℕ → ConnectionKind → Connections → Connections
drop_connection c PointToPoint s = record s { counts = update s.counts c (s.counts c - 1) }
drop_connection c Broadcast s = record s { broadcast = None }

-- one connection more fits
abbrev pub HasRoom : ConnectionKind → Connections → Type 0
HasRoom PointToPoint s = counter s < 63
HasRoom Broadcast s = s.broadcast ≡ None

-- controller c has such a connection
abbrev pub HasConnection : ℕ → ConnectionKind → Connections → Type 0
HasConnection c PointToPoint s = 0 < s.counts c
HasConnection c Broadcast s = s.broadcast ≡ Some (Of c)

-- ---- allocations

-- no Pending allocation of controller c
abbrev pub HasNoPending : ℕ → (ℕ → Option Allocation) → Type 0
HasNoPending c allocations = (ch : ℕ) → is_pending c (allocations ch) ≡ false

-- the allocation of the channel becomes a Pending one of controller c for the plug
abbrev pub made_pending : ℕ → PlugAt → ℕ → Account → ℕ → Option Allocation
made_pending c p ch l = update l.allocations ch (Some (record { holder = Pending c p; units = allocated (l.allocations ch) }))

-- the allocation of the channel becomes that of the connected plug
abbrev pub made_connected : PlugAt → ℕ → Account → ℕ → Option Allocation
made_connected p ch l = update l.allocations ch (Some (record { holder = Connected p; units = allocated (l.allocations ch) }))

-- while a reclaim second runs, the flow is one that talked before the reset
abbrev pub MayAllocate : PlugAt → ℕ → ℕ → Account → Type 0
MayAllocate p ch u l = IsTrue l.reclaiming → l.reclaimable ch ≡ Some (record { plug = p; units = u })

-- ---- the moves, and what each asks of controller c and plug p

-- p is the output plug that c last addressed, or for the moves at plug registers the plug of the register
pub data Move : Type 0 where
  AllocateChannel : (ch : ℕ) → Move
  AllocateUnits : (ch : ℕ) → (u : ℕ) → Move
  ConnectFirst : (kind : ConnectionKind) → (ch : ℕ) → (overhead : ℕ) → Move
  ConnectOverlaid : (kind : ConnectionKind) → Move
  ConnectInput : (kind : ConnectionKind) → (ch : ℕ) → Move
  DisconnectInput : (kind : ConnectionKind) → Move
  DisconnectOutput : (kind : ConnectionKind) → Move
  ReleaseUnits : (ch : ℕ) → (u : ℕ) → Move
  ReleaseChannel : (ch : ℕ) → Move

-- the channel is open, and c has no allocation that waits for its connection
pub record CanAllocateChannel (c : ℕ) (p : PlugAt) (ch : ℕ) (l : Account) : Type 0 where
  pub addressed : l.addressed c ≡ Some p
  pub within : ch < 64
  pub available : IsTrue (is_open l.withheld l.allocations ch)
  pub no_pending : HasNoPending c l.allocations
  pub reclaims : IsTrue l.reclaiming → (u : ℕ) × (l.reclaimable ch ≡ Some (record { plug = p; units = u }))

-- c holds the channel, with no units yet
pub record CanAllocateUnits (c : ℕ) (p : PlugAt) (ch : ℕ) (u : ℕ) (l : Account) : Type 0 where
  pub addressed : l.addressed c ≡ Some p
  pub within : ch < 64
  pub some : 0 < u
  pub fits : u ≤ remainder l
  pub channel : l.allocations ch ≡ Some (record { holder = Pending c p; units = 0 })
  pub reclaims : MayAllocate p ch u l

-- the first connection of the output plug, with the channel and units that c holds for it
pub record CanConnectFirst (c : ℕ) (p : PlugAt) (kind : ConnectionKind) (ch : ℕ) (overhead : ℕ) (l : Account) : Type 0 where
  pub is_plug : IsTrue (is_output l.latest p)
  pub empty : IsFalse (has_connection (l.outputs p))
  pub within : ch < 64
  pub small : overhead < 16
  pub held : l.allocations ch ≡ Some (record { holder = Pending c p; units = units_of (record { channel = ch; rate = (l.settings p).rate; overhead = overhead }) })

-- one connection more of a connected output plug; its channel, data rate and overhead_ID stay
pub record CanConnectOverlaid (c : ℕ) (p : PlugAt) (kind : ConnectionKind) (l : Account) : Type 0 where
  pub connected : IsTrue (has_connection (l.outputs p))
  pub room : HasRoom kind (l.outputs p)

-- one connection more of an input plug; a connected one keeps its channel
pub record CanConnectInput (c : ℕ) (p : PlugAt) (kind : ConnectionKind) (ch : ℕ) (l : Account) : Type 0 where
  pub is_plug : IsTrue (is_input l.latest p)
  pub within : ch < 64
  pub room : HasRoom kind (l.inputs p)
  pub stays : IsTrue (has_connection (l.inputs p)) → ch ≡ l.input_channel p

-- c has the connection of the input plug that it breaks
pub record CanDisconnectInput (c : ℕ) (p : PlugAt) (kind : ConnectionKind) (l : Account) : Type 0 where
  pub has : HasConnection c kind (l.inputs p)

-- If it is the plug's last connection, c gets the plug's channel and units back, to release them.
pub record CanDisconnectOutput (c : ℕ) (p : PlugAt) (kind : ConnectionKind) (l : Account) : Type 0 where
  pub has : HasConnection c kind (l.outputs p)
  pub last : IsFalse (has_connection (drop_connection c kind (l.outputs p))) → HasNoPending c l.allocations × (l.addressed c ≡ Some p)

-- c holds the units with their channel
pub record CanReleaseUnits (c : ℕ) (p : PlugAt) (ch : ℕ) (u : ℕ) (l : Account) : Type 0 where
  pub addressed : l.addressed c ≡ Some p
  pub within : ch < 64
  pub some : 0 < u
  pub held : l.allocations ch ≡ Some (record { holder = Pending c p; units = u })

-- c holds the channel, with no units
pub record CanReleaseChannel (c : ℕ) (p : PlugAt) (ch : ℕ) (l : Account) : Type 0 where
  pub within : ch < 64
  pub held : l.allocations ch ≡ Some (record { holder = Pending c p; units = 0 })

-- controller c may make the move at plug p
abbrev pub Can : ℕ → PlugAt → Move → Account → Type 0
Can c p (AllocateChannel ch) l = CanAllocateChannel c p ch l
Can c p (AllocateUnits ch u) l = CanAllocateUnits c p ch u l
Can c p (ConnectFirst kind ch overhead) l = CanConnectFirst c p kind ch overhead l
Can c p (ConnectOverlaid kind) l = CanConnectOverlaid c p kind l
Can c p (ConnectInput kind ch) l = CanConnectInput c p kind ch l
Can c p (DisconnectInput kind) l = CanDisconnectInput c p kind l
Can c p (DisconnectOutput kind) l = CanDisconnectOutput c p kind l
Can c p (ReleaseUnits ch u) l = CanReleaseUnits c p ch u l
Can c p (ReleaseChannel ch) l = CanReleaseChannel c p ch l

-- the account with another allocation of one channel
abbrev pub with_allocation : ℕ → Option Allocation → Account → Account
with_allocation ch x l = record l { allocations = update l.allocations ch x }

-- the account with other connections of one output plug
abbrev pub with_outputs : PlugAt → Connections → Account → Account
with_outputs p s l = record l { outputs = update_plug l.outputs p s }

-- the account after the move
abbrev pub after : ℕ → PlugAt → Move → Account → Account
after c p (AllocateChannel ch) l = with_allocation ch (Some (record { holder = Pending c p; units = 0 })) l
after c p (AllocateUnits ch u) l = with_allocation ch (Some (record { holder = Pending c p; units = u })) l
after c p (ConnectFirst kind ch overhead) l = record l {
  allocations = made_connected p ch l;
  outputs = update_plug l.outputs p (add_connection c kind (l.outputs p));
  settings = update_plug l.settings p (record { channel = ch; rate = (l.settings p).rate; overhead = overhead });
  continues = update_plug l.continues p false;
}
after c p (ConnectOverlaid kind) l = with_outputs p (add_connection c kind (l.outputs p)) l
after c p (ConnectInput kind ch) l = record l {
  inputs = update_plug l.inputs p (add_connection c kind (l.inputs p));
  input_channel = update_plug l.input_channel p ch;
}
after c p (DisconnectInput kind) l = record l { inputs = update_plug l.inputs p (drop_connection c kind (l.inputs p)) }
after c p (DisconnectOutput kind) l = record l {
  allocations = (if has_connection (drop_connection c kind (l.outputs p)) then l.allocations else made_pending c p (l.settings p).channel l);
  outputs = update_plug l.outputs p (drop_connection c kind (l.outputs p));
}
after c p (ReleaseUnits ch u) l = with_allocation ch (Some (record { holder = Pending c p; units = 0 })) l
after c p (ReleaseChannel ch) l = with_allocation ch None l
