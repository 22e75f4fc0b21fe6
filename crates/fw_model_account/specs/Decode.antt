-- Which move a compare_swap is: its register, the word before it and the word after it decide.
use Rattle.fw_terms.specs.declared.plug.PlugAt.{PlugAt}
use Rattle.fw_terms.specs.declared.plug.ConnectionKind.{ConnectionKind}
use Rattle.fw_terms.specs.declared.plug.ConnectionKind.TheVariants.{PointToPoint, Broadcast}
use Rattle.std.specs.Prelude.{◌≡◌, ℕ, ◌+◌, ◌-◌, ◌==◌, nat_lt, nat_le, Bool, true, false, not, ◌&&◌, ◌||◌, if◌then◌else◌, Option, Some, None}
use Rattle.fw_terms.specs.Tables.{find_to, same_plug}
use Rattle.fw_words.specs.Quadlet.{field}
use Rattle.fw_plug.specs.Words.{OutFields, out_fields, InFields, in_fields, units_of}
use Rattle.fw_model_account.specs.Account.{Allocation, Owner, Of, Dead, Connections, Flow, Account, remainder}
use Rattle.fw_model_account.specs.Account.{counter, has_connection, is_there, is_open, pending_channel, has_pending, is_pending_of, plug_of}
use Rattle.fw_model_account.specs.Network.{is_output, is_input}
use Rattle.fw_model_account.specs.Moves.{Move, AllocateChannel, AllocateUnits, ConnectFirst, ConnectOverlaid, ConnectInput, DisconnectInput}
use Rattle.fw_model_account.specs.Moves.{DisconnectOutput, ReleaseUnits, ReleaseChannel, Can, after, drop_connection}
use Rattle.fw_model_account.specs.Words.{Register, BandwidthAvailable, ChannelsAvailable, OutputPlug, InputPlug, word_of}

-- the register that a move swaps
abbrev pub register_of_move : PlugAt → Move → Register
register_of_move p (AllocateChannel ch) = ChannelsAvailable (if nat_lt ch 32 then 0 else 32)
register_of_move p (AllocateUnits ch u) = BandwidthAvailable
register_of_move p (ConnectFirst kind ch overhead) = OutputPlug p
register_of_move p (ConnectOverlaid kind) = OutputPlug p
register_of_move p (ConnectInput kind ch) = InputPlug p
register_of_move p (DisconnectInput kind) = InputPlug p
register_of_move p (DisconnectOutput kind) = OutputPlug p
register_of_move p (ReleaseUnits ch u) = BandwidthAvailable
register_of_move p (ReleaseChannel ch) = ChannelsAvailable (if nat_lt ch 32 then 0 else 32)

-- A compare_swap of controller c is the move m at plug p: c may make it, and it swaps the move's register from its word in
-- the account before to its word in the account after.
pub record IsMove (c : ℕ) (p : PlugAt) (m : Move) (register : Register) (arg new : ℕ) (l : Account) : Type 0 where
  pub can : Can c p m l
  pub place : register_of_move p m ≡ register
  pub before : word_of l register ≡ arg
  pub later : word_of (after c p m l) register ≡ new

-- ---- what a move asks, as a test

-- the plug is p
abbrev pub is_plug : PlugAt → Option PlugAt → Bool
is_plug p None = false
is_plug p (Some q) = same_plug q p

-- a flow of plug p
abbrev pub is_flow_of : PlugAt → Option Flow → Bool
is_flow_of p None = false
is_flow_of p (Some f) = same_plug f.plug p

-- a flow of plug p with u units
abbrev pub is_flow : PlugAt → ℕ → Option Flow → Bool
is_flow p u None = false
is_flow p u (Some f) = same_plug f.plug p && (f.units == u)

-- a Pending allocation of controller c for plug p, with so many units
abbrev pub is_held : ℕ → PlugAt → ℕ → Option Allocation → Bool
is_held c p u None = false
is_held c p u (Some x) = is_pending_of c x.holder && same_plug (plug_of x.holder) p && (x.units == u)

-- the broadcast connection is that of controller c
abbrev pub is_owner : ℕ → Option Owner → Bool
is_owner c None = false
is_owner c (Some (Of d)) = d == c
is_owner c (Some Dead) = false

-- one connection more fits
abbrev pub has_room : ConnectionKind → Connections → Bool
has_room PointToPoint s = nat_lt (counter s) 63
has_room Broadcast s = not (is_there s.broadcast)

-- controller c has such a connection
abbrev pub has_connection_of : ℕ → ConnectionKind → Connections → Bool
has_connection_of c PointToPoint s = nat_lt 0 (s.counts c)
has_connection_of c Broadcast s = is_owner c s.broadcast

-- controller c may make the move at plug p, if no channel from 64 on is allocated
abbrev pub can : ℕ → PlugAt → Move → Account → Bool
can c p (AllocateChannel ch) l =
    is_plug p (l.addressed c)
    && nat_lt ch 64
    && is_open l.withheld l.allocations ch
    && not (has_pending c l.allocations)
    && (not l.reclaiming || is_flow_of p (l.reclaimable ch))
can c p (AllocateUnits ch u) l =
    is_plug p (l.addressed c)
    && nat_lt ch 64
    && nat_lt 0 u
    && nat_le u (remainder l)
    && is_held c p 0 (l.allocations ch)
    && (not l.reclaiming || is_flow p u (l.reclaimable ch))
can c p (ConnectFirst kind ch overhead) l =
    is_output l.latest p
    && not (has_connection (l.outputs p))
    && nat_lt ch 64
    && nat_lt overhead 16
    && is_held c p (units_of (record { channel = ch; rate = (l.settings p).rate; overhead = overhead })) (l.allocations ch)
can c p (ConnectOverlaid kind) l = has_connection (l.outputs p) && has_room kind (l.outputs p)
can c p (ConnectInput kind ch) l =
    is_input l.latest p
    && nat_lt ch 64
    && has_room kind (l.inputs p)
    && (not (has_connection (l.inputs p)) || (ch == l.input_channel p))
can c p (DisconnectInput kind) l = has_connection_of c kind (l.inputs p)
can c p (DisconnectOutput kind) l =
    has_connection_of c kind (l.outputs p)
    && (has_connection (drop_connection c kind (l.outputs p)) || (not (has_pending c l.allocations) && is_plug p (l.addressed c)))
can c p (ReleaseUnits ch u) l =
    is_plug p (l.addressed c)
    && nat_lt ch 64
    && nat_lt 0 u
    && is_held c p u (l.allocations ch)
can c p (ReleaseChannel ch) l = nat_lt ch 64 && is_held c p 0 (l.allocations ch)

-- ---- the only move that the words allow

-- the move, at the plug if there is one
abbrev pub at_addressed : Option PlugAt → Move → Option (PlugAt × Move)
at_addressed None m = None
at_addressed (Some p) m = Some (p, m)

-- the plug for which a channel is held
abbrev pub held_for : Option Allocation → Option PlugAt
held_for None = None
held_for (Some x) = Some (plug_of x.holder)

-- units of the channel that c holds, taken or given back
abbrev pub units_move : ℕ → ℕ → ℕ → Move
units_move arg new ch = if nat_lt new arg then AllocateUnits ch (arg - new) else ReleaseUnits ch (new - arg)

-- the move at BANDWIDTH_AVAILABLE, with the channel that the controller holds
abbrev pub bandwidth_move : Option ℕ → ℕ → ℕ → Option PlugAt → Option (PlugAt × Move)
bandwidth_move None arg new addressed = None
bandwidth_move (Some ch) arg new addressed = at_addressed addressed (units_move arg new ch)

-- the first bit that changes
abbrev pub changed_bit : ℕ → ℕ → Option ℕ
changed_bit arg new = find_to 32 (λ i. not (field arg i i == field new i i))

-- the move at CHANNELS_AVAILABLE, if bit i of the half that begins with base changes
abbrev pub channel_move : ℕ → ℕ → ℕ → Option ℕ → Account → Option (PlugAt × Move)
channel_move c base arg None l = None
channel_move c base arg (Some i) l =
    if field arg i i == 1 then at_addressed (l.addressed c) (AllocateChannel (base + i)) else at_addressed (held_for (l.allocations (base + i))) (ReleaseChannel (base + i))

-- the kind of the connection that is made or broken
abbrev pub kind_of : Bool → Bool → ConnectionKind
kind_of true true = PointToPoint
kind_of true false = Broadcast
kind_of false true = Broadcast
kind_of false false = PointToPoint

-- whether a connection is made
abbrev pub is_more : Bool → ℕ → Bool → ℕ → Bool
is_more true counter true more = nat_lt counter more
is_more true counter false more = false
is_more false counter true more = true
is_more false counter false more = nat_lt counter more

-- the move at an output plug register, by its fields before and after
abbrev pub output_move : OutFields → OutFields → Bool → Move
output_move f g connected =
    if is_more f.broadcast f.counter g.broadcast g.counter
    then (if connected then ConnectOverlaid (kind_of f.broadcast g.broadcast) else ConnectFirst (kind_of f.broadcast g.broadcast) g.settings.channel g.settings.overhead)
    else DisconnectOutput (kind_of f.broadcast g.broadcast)

-- the move at an input plug register, by its fields before and after
abbrev pub input_move : InFields → InFields → Move
input_move f g =
    if is_more f.broadcast f.counter g.broadcast g.counter then ConnectInput (kind_of f.broadcast g.broadcast) g.channel else DisconnectInput (kind_of f.broadcast g.broadcast)

-- the move that a swap of this register can be at most
abbrev pub decoded : Account → ℕ → Register → ℕ → ℕ → Option (PlugAt × Move)
decoded l c BandwidthAvailable arg new = bandwidth_move (pending_channel c l.allocations) arg new (l.addressed c)
decoded l c (ChannelsAvailable base) arg new = channel_move c base arg (changed_bit arg new) l
decoded l c (OutputPlug p) arg new = Some (p, output_move (out_fields arg) (out_fields new) (has_connection (l.outputs p)))
decoded l c (InputPlug p) arg new = Some (p, input_move (in_fields arg) (in_fields new))

-- whether two registers are one
abbrev pub same_register : Register → Register → Bool
same_register BandwidthAvailable BandwidthAvailable = true
same_register (ChannelsAvailable a) (ChannelsAvailable b) = a == b
same_register (OutputPlug p) (OutputPlug q) = same_plug p q
same_register (InputPlug p) (InputPlug q) = same_plug p q
same_register _ _ = false

-- that move, if c may make it and its words are the account's
abbrev pub allowed : Account → ℕ → Register → ℕ → ℕ → Option (PlugAt × Move) → Option (PlugAt × Move)
allowed l c register arg new None = None
allowed l c register arg new (Some m) =
    if can c m.0 m.1 l
    && same_register (register_of_move m.0 m.1) register
    && (word_of l register == arg)
    && (word_of (after c m.0 m.1 l) register == new)
    then Some m
    else None

-- the move that a compare_swap of controller c is, if it is one
abbrev pub move_at : Account → ℕ → Register → ℕ → ℕ → Option (PlugAt × Move)
move_at l c register arg new = allowed l c register arg new (decoded l c register arg new)
