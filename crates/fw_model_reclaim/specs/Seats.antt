-- The connections of a plug, by kind: how many its register shows, how many it may have, and how many are spoken for.
use Rattle.fw_terms.specs.declared.plug.PlugAt.{PlugAt}
use Rattle.fw_terms.specs.declared.plug.ConnectionKind.{ConnectionKind}
use Rattle.fw_terms.specs.declared.plug.ConnectionKind.TheVariants.{PointToPoint, Broadcast}
use Rattle.std.specs.Prelude.{◌≡◌, ◌≤◌, ℕ, ◌+◌, Bool, true, false, Option, Some, None}
use Rattle.fw_terms.specs.Tables.{sum_to}
use Rattle.fw_plug.specs.Words.{flag}
use Rattle.fw_model_account.specs.Account.{Account, Owner, Of, Dead, Connections, counter, is_there}
use Rattle.fw_model_controllers.specs.Holding.{connections_of}

-- output plugs, or input plugs
pub data Side : Type 0 where
  Output : Side
  Input : Side

-- the connections of a plug
abbrev pub connections_at : Account → Side → PlugAt → Connections
connections_at l Output q = l.outputs q
connections_at l Input q = l.inputs q

-- how many connections of a kind a plug may have: the counter has six bits, and there is one broadcast bit (IEC 61883-1)
abbrev pub most : ConnectionKind → ℕ
most PointToPoint = 63
most Broadcast = 1

-- how many connections of a kind the register of a plug shows
abbrev pub number_of : ConnectionKind → Connections → ℕ
number_of PointToPoint s = counter s
number_of Broadcast s = flag (is_there s.broadcast)

-- the broadcast connection is one whose controller died
abbrev pub is_dead : Option Owner → Bool
is_dead None = false
is_dead (Some (Of d)) = false
is_dead (Some Dead) = true

-- the connections of a kind whose controllers died
abbrev pub orphaned_of : ConnectionKind → Connections → ℕ
orphaned_of PointToPoint s = s.orphaned
orphaned_of Broadcast s = flag (is_dead s.broadcast)

-- What is spoken for, by controller: the connections that it has at a plug, and those that it is to restore there.
abbrev pub Due : Type 0
Due = ℕ → Side → ConnectionKind → PlugAt → ℕ

-- The connections of each kind that a plug has and those that are to be restored there fit the plug's register together.
pub record Fits (l : Account) (due : Due) : Type 0 where
  pub fits : (side : Side) (kind : ConnectionKind) (q : PlugAt) → orphaned_of kind (connections_at l side q) + sum_to 63 (λ c. due c side kind q) ≤ most kind

-- Each controller has these connections: those of devices from 63 on have none.
pub record AreSeated (l : Account) (seats : Due) : Type 0 where
  pub seated : (c : ℕ) (side : Side) (kind : ConnectionKind) (q : PlugAt) → connections_of c kind (connections_at l side q) ≡ seats c side kind q
  pub beyond : (c : ℕ) (side : Side) (kind : ConnectionKind) (q : PlugAt) → 63 ≤ c → seats c side kind q ≡ 0
