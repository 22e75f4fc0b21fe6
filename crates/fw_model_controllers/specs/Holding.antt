-- What a controller has in the account, and what a change of the account leaves of it.
use Rattle.fw_terms.specs.declared.plug.PlugAt.{PlugAt}
use Rattle.fw_terms.specs.declared.plug.ConnectionKind.{ConnectionKind}
use Rattle.fw_terms.specs.declared.plug.ConnectionKind.TheVariants.{PointToPoint, Broadcast}
use Rattle.std.specs.Prelude.{ℕ, ◌+◌, ◌-◌, ◌==◌, ◌≡◌, ◌<◌, Bool, true, false, ◌&&◌, if◌then◌else◌, Option, Some, None, IsTrue}
use Rattle.fw_terms.specs.Tables.{same_plug}
use Rattle.fw_plug.specs.Words.{units_of}
use Rattle.fw_model_account.specs.Account.{Pending, Allocation, Owner, Of, Dead, Connections, Account, has_connection}
use Rattle.fw_model_account.specs.Moves.{Move, AllocateChannel, AllocateUnits, ConnectFirst, ConnectOverlaid, ConnectInput}
use Rattle.fw_model_account.specs.Moves.{DisconnectInput, DisconnectOutput, ReleaseUnits, ReleaseChannel, HasNoPending, drop_connection}

-- a channel that is allocated for an output plug with no connection yet, or no longer, and the units with it, 0 if there are none
pub record Reservation : Type 0 where
  pub plug : PlugAt
  pub channel : ℕ
  pub units : ℕ

-- how many connections there are of a kind at a plug
abbrev pub Counts : Type 0
Counts = ConnectionKind → PlugAt → ℕ

-- what a controller has: a reservation, or none, and its connections at output plugs and at input plugs
pub record Holding : Type 0 where
  pub reserved : Option Reservation
  pub outputs : Counts
  pub inputs : Counts

-- a controller that has nothing
abbrev pub no_holding : Holding
no_holding = record { reserved = None; outputs = λ kind q. 0; inputs = λ kind q. 0 }

-- ---- in the account

-- the broadcast connection is one of this controller
abbrev pub is_of : ℕ → Option Owner → Bool
is_of c None = false
is_of c (Some (Of d)) = c == d
is_of c (Some Dead) = false

-- the connections of a kind that a controller has at a plug
abbrev pub connections_of : ℕ → ConnectionKind → Connections → ℕ
connections_of c PointToPoint s = s.counts c
connections_of c Broadcast s = if is_of c s.broadcast then 1 else 0

-- the Pending allocation of controller c is this one, or there is none
abbrev pub HasReserved : ℕ → Option Reservation → (ℕ → Option Allocation) → Type 0
HasReserved c None allocations = HasNoPending c allocations
HasReserved c (Some r) allocations = (r.channel < 64) × (allocations r.channel ≡ Some (record { holder = Pending c r.plug; units = r.units }))

-- controller c has exactly this
pub record Holds (l : Account) (c : ℕ) (h : Holding) : Type 0 where
  pub reserved : HasReserved c h.reserved l.allocations
  pub outputs : (kind : ConnectionKind) (q : PlugAt) → connections_of c kind (l.outputs q) ≡ h.outputs kind q
  pub inputs : (kind : ConnectionKind) (q : PlugAt) → connections_of c kind (l.inputs q) ≡ h.inputs kind q

-- ---- after a move

-- two connections are of one kind
abbrev pub same_kind : ConnectionKind → ConnectionKind → Bool
same_kind PointToPoint PointToPoint = true
same_kind PointToPoint Broadcast = false
same_kind Broadcast PointToPoint = false
same_kind Broadcast Broadcast = true

-- one connection of this kind at plug p
abbrev pub one_at : ConnectionKind → PlugAt → Counts
one_at own p kind q = if same_plug q p && same_kind kind own then 1 else 0

-- the same with one connection more of this kind at plug p
abbrev pub with_one : ConnectionKind → PlugAt → Counts → Counts
with_one own p f kind q = f kind q + one_at own p kind q

-- the same with one connection less of this kind at plug p
abbrev pub without_one : ConnectionKind → PlugAt → Counts → Counts
without_one own p f kind q = f kind q - one_at own p kind q

-- the channel and the units of a plug that lost its last connection
abbrev pub plug_reservation : PlugAt → Account → Reservation
plug_reservation p l = record { plug = p; channel = (l.settings p).channel; units = units_of (l.settings p) }

-- what the controller that makes a move has afterwards
abbrev pub holding_after : ℕ → PlugAt → Move → Account → Holding → Holding
holding_after c p (AllocateChannel ch) l h = record h { reserved = Some (record { plug = p; channel = ch; units = 0 }) }
holding_after c p (AllocateUnits ch u) l h = record h { reserved = Some (record { plug = p; channel = ch; units = u }) }
holding_after c p (ConnectFirst kind ch overhead) l h = record h { reserved = None; outputs = with_one kind p h.outputs }
holding_after c p (ConnectOverlaid kind) l h = record h { outputs = with_one kind p h.outputs }
holding_after c p (ConnectInput kind ch) l h = record h { inputs = with_one kind p h.inputs }
holding_after c p (DisconnectInput kind) l h = record h { inputs = without_one kind p h.inputs }
holding_after c p (DisconnectOutput kind) l h = record h {
  reserved = (if has_connection (drop_connection c kind (l.outputs p)) then h.reserved else Some (plug_reservation p l));
  outputs = without_one kind p h.outputs;
}
holding_after c p (ReleaseUnits ch u) l h = record h { reserved = Some (record { plug = p; channel = ch; units = 0 }) }
holding_after c p (ReleaseChannel ch) l h = record h { reserved = None }

-- ---- what changes leave

-- From account l to m no plug changes its data rate, a connected plug keeps what it is set to, and a reclaim second that
-- runs ran before, with the same flows.
pub record Keeps (l m : Account) : Type 0 where
  pub rates : (q : PlugAt) → (m.settings q).rate ≡ (l.settings q).rate
  pub settings : (q : PlugAt) → IsTrue (has_connection (l.outputs q)) → m.settings q ≡ l.settings q
  pub channels : (q : PlugAt) → IsTrue (has_connection (l.inputs q)) → m.input_channel q ≡ l.input_channel q
  pub latest : m.latest ≡ l.latest
  pub reclaims : IsTrue m.reclaiming → IsTrue l.reclaiming × ((ch : ℕ) → m.reclaimable ch ≡ l.reclaimable ch)

-- from account l to m controller d keeps all that it has
pub record Leaves (d : ℕ) (l m : Account) : Type 0 where
  pub holding : (h : Holding) → Holds l d h → Holds m d h
  pub addressed : m.addressed d ≡ l.addressed d
