-- A half step makes no more connections of controllers that died.
use Rattle.fw_model_reclaim.proofs.Common.{PlugAt, ConnectionKind, PointToPoint, Broadcast, ◌≡◌, ℕ, ◌≤◌, Bool, true, false, refl, sym, subst, arith, cond, Account, after, Side, Output, Input}
use Rattle.fw_model_reclaim.proofs.Common.{connections_at, orphaned_of}
use Rattle.fw_terms.specs.Tables.{same_plug, update_plug}
use Rattle.fw_terms.proofs.Tables.{same_plug-true}
use Rattle.fw_model_account.specs.Account.{Connections}
use Rattle.fw_model_account.specs.Moves.{Move, AllocateChannel, AllocateUnits, ConnectFirst, ConnectOverlaid, ConnectInput, DisconnectInput}
use Rattle.fw_model_account.specs.Moves.{DisconnectOutput, ReleaseUnits, ReleaseChannel, add_connection, drop_connection}

added : (c : ℕ) (own kind : ConnectionKind) (s : Connections) → orphaned_of kind (add_connection c own s) ≤ orphaned_of kind s
added c PointToPoint PointToPoint s = omega arith
added c PointToPoint Broadcast s = omega arith
added c Broadcast PointToPoint s = omega arith
added c Broadcast Broadcast s = omega arith

dropped : (c : ℕ) (own kind : ConnectionKind) (s : Connections) → orphaned_of kind (drop_connection c own s) ≤ orphaned_of kind s
dropped c PointToPoint PointToPoint s = omega arith
dropped c PointToPoint Broadcast s = omega arith
dropped c Broadcast PointToPoint s = omega arith
dropped c Broadcast Broadcast s = omega arith

-- a table that was changed at one plug
at_plug : (table : PlugAt → Connections) (p : PlugAt) (now : Connections) (kind : ConnectionKind) (q : PlugAt) → orphaned_of kind now ≤ orphaned_of kind (table p)
    → orphaned_of kind (update_plug table p now q) ≤ orphaned_of kind (table q)
at_plug table p now kind q less = go (same_plug q p) refl
  where
    go : (b : Bool) → same_plug q p ≡ b → orphaned_of kind (cond b now (table q)) ≤ orphaned_of kind (table q)
    go true e = subst (λ x. orphaned_of kind now ≤ orphaned_of kind (table x)) (sym (same_plug-true q p e)) less
    go false e = omega arith

pub orphans_less : (c : ℕ) (p : PlugAt) (m : Move) (l : Account) (side : Side) (kind : ConnectionKind) (q : PlugAt)
    → orphaned_of kind (connections_at (after c p m l) side q) ≤ orphaned_of kind (connections_at l side q)
orphans_less c p (AllocateChannel ch) l Output kind q = omega arith
orphans_less c p (AllocateChannel ch) l Input kind q = omega arith
orphans_less c p (AllocateUnits ch u) l Output kind q = omega arith
orphans_less c p (AllocateUnits ch u) l Input kind q = omega arith
orphans_less c p (ConnectFirst own ch overhead) l Output kind q = at_plug l.outputs p (add_connection c own (l.outputs p)) kind q (added c own kind (l.outputs p))
orphans_less c p (ConnectFirst own ch overhead) l Input kind q = omega arith
orphans_less c p (ConnectOverlaid own) l Output kind q = at_plug l.outputs p (add_connection c own (l.outputs p)) kind q (added c own kind (l.outputs p))
orphans_less c p (ConnectOverlaid own) l Input kind q = omega arith
orphans_less c p (ConnectInput own ch) l Output kind q = omega arith
orphans_less c p (ConnectInput own ch) l Input kind q = at_plug l.inputs p (add_connection c own (l.inputs p)) kind q (added c own kind (l.inputs p))
orphans_less c p (DisconnectInput own) l Output kind q = omega arith
orphans_less c p (DisconnectInput own) l Input kind q = at_plug l.inputs p (drop_connection c own (l.inputs p)) kind q (dropped c own kind (l.inputs p))
orphans_less c p (DisconnectOutput own) l Output kind q = at_plug l.outputs p (drop_connection c own (l.outputs p)) kind q (dropped c own kind (l.outputs p))
orphans_less c p (DisconnectOutput own) l Input kind q = omega arith
orphans_less c p (ReleaseUnits ch u) l Output kind q = omega arith
orphans_less c p (ReleaseUnits ch u) l Input kind q = omega arith
orphans_less c p (ReleaseChannel ch) l Output kind q = omega arith
orphans_less c p (ReleaseChannel ch) l Input kind q = omega arith
