-- What the tables say of a compare_swap.
use Rattle.fw_terms.specs.declared.plug.ConnectionKind.{ConnectionKind}
use Rattle.fw_terms.specs.declared.plug.ConnectionKind.TheVariants.{PointToPoint, Broadcast}
use Rattle.fw_terms.specs.declared.plug.PlugAt.{PlugAt}
use Rattle.fw_words.specs.Quadlet.{field}
use Rattle.fw_plug.specs.Words.{OutFields, Settings, is_connected}
use Rattle.fw_plug.specs.Changes.{is_full}
pub use Rattle.fw_plug.specs.Changes.{connection_value, with_channel}
use Rattle.std.specs.Prelude.{◌≡◌, ◌<◌, ◌⊎◌, ℕ, ◌==◌, nat_lt, Bool, true, false, not, ◌&&◌, ◌||◌, IsTrue, slice_index, if◌then◌else◌, Option, Some, None}
use Rattle.fw_model_account.specs.Account.{Pending, Allocation, Connections, Account, is_there, is_pending_of, counter, pending_channel}
use Rattle.fw_model_account.specs.Moves.{Move, after}
use Rattle.fw_model_account.specs.Words.{Register, BandwidthAvailable, ChannelsAvailable, OutputPlug, InputPlug}
use Rattle.fw_account_tables.specs.declared.register.Register.{Register as RegisterName}
use Rattle.fw_account_tables.specs.declared.register.Register.TheVariants.{Bandwidth, HighChannels, LowChannels, Output, Input}
use Rattle.fw_account_tables.specs.declared.held.PendingAllocation.{PendingAllocation}
use Rattle.fw_account_tables.specs.declared.tables.Charge.{Charge}
use Rattle.fw_account_tables.specs.declared.tables.Charge.TheVariants.{Free, Pending as PendingCharge, Connected, Orphaned}
use Rattle.fw_account_tables.specs.declared.tables.Tables.{Tables}

-- the register that is named
abbrev pub register_named : RegisterName → Register
register_named Bandwidth = BandwidthAvailable
register_named HighChannels = ChannelsAvailable 0
register_named LowChannels = ChannelsAvailable 32
register_named (Output p) = OutputPlug p
register_named (Input p) = InputPlug p

-- the account after the move that a swap was found to be, if it is one
abbrev pub moved_by : ℕ → Option (PlugAt × Move) → Account → Option Account
moved_by c None l = None
moved_by c (Some m) l = Some (after c m.0 m.1 l)

-- ---- channels and units

-- the channel that a charge holds for its controller, with the plug and the units
abbrev pub held_of : ℕ → Charge → Option PendingAllocation
held_of ch Free = None
held_of ch (PendingCharge c plug units) = Some (record { channel = ch; plug = plug; units = units })
held_of ch (Connected plug units) = None
held_of ch (Orphaned plug units) = None

-- what controller c has allocated and not connected
abbrev pub IsHeld : ℕ → Option PendingAllocation → Account → Type 0
IsHeld c None l = pending_channel c l.allocations ≡ None
IsHeld c (Some h) l = (h.channel < 64) × (l.allocations h.channel ≡ Some (record { holder = Pending c h.plug; units = h.units }))

-- a channel that controller c holds without units
abbrev pub holds_no_units : ℕ → Option Allocation → Bool
holds_no_units c None = false
holds_no_units c (Some x) = is_pending_of c x.holder && (x.units == 0)

-- the half of CHANNELS_AVAILABLE that begins with this channel
abbrev pub IsHalf : ℕ → Type 0
IsHalf base = (base ≡ 0) ⊎ (base ≡ 32)

-- the word of that half
abbrev pub half_of : ℕ → Tables → ℕ
half_of base t = if base == 0 then t.high else t.low

-- the tables with another word of it
abbrev pub with_half : ℕ → ℕ → Tables → Tables
with_half base word t = record t { high = (if base == 0 then word else t.high); low = (if base == 0 then t.low else word) }

-- ---- connections

-- whether one connection more of the kind fits a plug with this word
abbrev pub shows_room : ConnectionKind → ℕ → Bool
shows_room kind word = not (is_full kind word)

-- the word shows these connections
pub record Shows (word : ℕ) (s : Connections) : Type 0 where
  pub broadcast : (field word 1 1 == 1) ≡ is_there s.broadcast
  pub counter : field word 2 7 ≡ counter s

-- whether it is the broadcast connection
abbrev pub is_broadcast : ConnectionKind → Bool
is_broadcast PointToPoint = false
is_broadcast Broadcast = true

-- the fields of an output plug with one connection of the kind and no other
abbrev pub connected_once : ConnectionKind → Settings → OutFields
connected_once kind k = record { broadcast = is_broadcast kind; counter = (if is_broadcast kind then 0 else 1); settings = k }

-- a plug with this word may be connected on the channel
abbrev pub keeps_channel : ℕ → ℕ → Bool
keeps_channel word channel = not (is_connected word) || (channel == field word 10 15)

-- ---- registers

-- the plug of a plug register is there
abbrev pub IsThere : RegisterName → Tables → Type 0
IsThere Bandwidth t = Unit {0}
IsThere HighChannels t = Unit {0}
IsThere LowChannels t = Unit {0}
IsThere (Output p) t = IsTrue (nat_lt p.plug (slice_index t.outs p.device))
IsThere (Input p) t = IsTrue (nat_lt p.plug (slice_index t.ins p.device))
