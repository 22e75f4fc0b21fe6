-- Connections as a register shows them, and as a controller has them.
use Rattle.fw_model_controllers.proofs.Common.{PlugAt, ConnectionKind, PointToPoint, Broadcast, ◌≡◌, ◌≢◌, ℕ, ◌+◌, ◌-◌, ◌<◌, ◌≤◌, Bool, true}
use Rattle.fw_model_controllers.proofs.Common.{false, Option, Some, None, refl, ap, ◌∙◌, sym, arith, cond, ◌&&◌, ◌⊎◌}
use Rattle.fw_model_controllers.proofs.Common.{inl, inr, nat_tests, cases_lt, update_plug, has_connection, HasConnection, add_connection, drop_connection, had_connection, connections_of}
use Rattle.fw_terms.specs.Tables.{same_plug}
use Rattle.fw_terms.proofs.Tables.{same_plug-true}
use Rattle.fw_model_account.specs.Account.{Owner, Of, Dead, Connections, is_there}
use Rattle.fw_model_account.specs.Moves.{HasRoom}
use Rattle.fw_model_account.proofs.Connections.{NoneBeyond}
use Rattle.fw_model_controllers.specs.Holding.{Counts, same_kind, is_of, with_one, without_one}

pub added : (c : ℕ) (own kind : ConnectionKind) (s : Connections) → HasRoom own s → connections_of c kind (add_connection c own s) ≡ connections_of c kind s + cond (same_kind kind own) 1 0
added c PointToPoint PointToPoint s room = grind (arith, nat_tests)
added c PointToPoint Broadcast s room = omega arith
added c Broadcast PointToPoint s room = omega arith
added c Broadcast Broadcast s room = grind (arith, nat_tests, room)

pub dropped : (c : ℕ) (own kind : ConnectionKind) (s : Connections) → HasConnection c own s → connections_of c kind (drop_connection c own s) ≡ connections_of c kind s - cond (same_kind kind own) 1 0
dropped c PointToPoint PointToPoint s has = grind (arith, nat_tests)
dropped c PointToPoint Broadcast s has = omega arith
dropped c Broadcast PointToPoint s has = omega arith
dropped c Broadcast Broadcast s has = grind (arith, nat_tests, has)

added_other : (c d : ℕ) (own kind : ConnectionKind) (s : Connections) → d ≢ c → HasRoom own s → connections_of d kind (add_connection c own s) ≡ connections_of d kind s
added_other c d PointToPoint PointToPoint s ne room = grind (arith, nat_tests)
added_other c d PointToPoint Broadcast s ne room = refl
added_other c d Broadcast PointToPoint s ne room = refl
added_other c d Broadcast Broadcast s ne room = grind (arith, nat_tests, room)

dropped_other : (c d : ℕ) (own kind : ConnectionKind) (s : Connections) → d ≢ c → HasConnection c own s → connections_of d kind (drop_connection c own s) ≡ connections_of d kind s
dropped_other c d PointToPoint PointToPoint s ne has = grind (arith, nat_tests)
dropped_other c d PointToPoint Broadcast s ne has = refl
dropped_other c d Broadcast PointToPoint s ne has = refl
dropped_other c d Broadcast Broadcast s ne has = grind (arith, nat_tests, has)

-- ---- in the table of all plugs

-- the table has these connections of controller c
abbrev pub Has : ℕ → (PlugAt → Connections) → Counts → Type 0
Has c table f = (kind : ConnectionKind) (q : PlugAt) → connections_of c kind (table q) ≡ f kind q

pub table_added : (c : ℕ) (own : ConnectionKind) (p : PlugAt) (table : PlugAt → Connections) (f : Counts) → HasRoom own (table p) → Has c table f
    → Has c (update_plug table p (add_connection c own (table p))) (with_one own p f)
table_added c own p table f room has kind q = go (same_plug q p) refl
  where
    go : (b : Bool) → same_plug q p ≡ b → connections_of c kind (cond b (add_connection c own (table p)) (table q)) ≡ f kind q + cond (b && same_kind kind own) 1 0
    go true e = let at : q ≡ p = same_plug-true q p e in omega (arith, has kind q, added c own kind (table p) room, ap (λ x. connections_of c kind (table x)) at)
    go false e = omega (arith, has kind q)

pub table_dropped : (c : ℕ) (own : ConnectionKind) (p : PlugAt) (table : PlugAt → Connections) (f : Counts) → HasConnection c own (table p) → Has c table f
    → Has c (update_plug table p (drop_connection c own (table p))) (without_one own p f)
table_dropped c own p table f there has kind q = go (same_plug q p) refl
  where
    go : (b : Bool) → same_plug q p ≡ b → connections_of c kind (cond b (drop_connection c own (table p)) (table q)) ≡ f kind q - cond (b && same_kind kind own) 1 0
    go true e = let at : q ≡ p = same_plug-true q p e in omega (arith, has kind q, dropped c own kind (table p) there, ap (λ x. connections_of c kind (table x)) at)
    go false e = omega (arith, has kind q)

-- a change at one plug that leaves controller d's connections there leaves all
pub table_stays : (d : ℕ) (p : PlugAt) (new : Connections) (table : PlugAt → Connections) (f : Counts) → ((kind : ConnectionKind) → connections_of d kind new ≡ connections_of d kind (table p))
    → Has d table f → Has d (update_plug table p new) f
table_stays d p new table f same has kind q = go (same_plug q p) refl
  where
    go : (b : Bool) → same_plug q p ≡ b → connections_of d kind (cond b new (table q)) ≡ f kind q
    go true e = same kind ∙ (ap (λ x. connections_of d kind (table x)) (sym (same_plug-true q p e)) ∙ has kind q)
    go false e = has kind q

pub table_added_other : (c d : ℕ) (own : ConnectionKind) (p : PlugAt) (table : PlugAt → Connections) (f : Counts) → d ≢ c → HasRoom own (table p) → Has d table f
    → Has d (update_plug table p (add_connection c own (table p))) f
table_added_other c d own p table f ne room = table_stays d p (add_connection c own (table p)) table f (λ kind. added_other c d own kind (table p) ne room)

pub table_dropped_other : (c d : ℕ) (own : ConnectionKind) (p : PlugAt) (table : PlugAt → Connections) (f : Counts) → d ≢ c → HasConnection c own (table p) → Has d table f
    → Has d (update_plug table p (drop_connection c own (table p))) f
table_dropped_other c d own p table f ne there = table_stays d p (drop_connection c own (table p)) table f (λ kind. dropped_other c d own kind (table p) ne there)

-- ---- who has a connection

-- who has a connection by count has one
pub connection_is : (c : ℕ) (kind : ConnectionKind) (s : Connections) → 0 < connections_of c kind s → HasConnection c kind s
connection_is c PointToPoint s h = h
connection_is c Broadcast s h = go s.broadcast h
  where
    go : (o : Option Owner) → 0 < cond (is_of c o) 1 0 → o ≡ Some (Of c)
    go None h = grind arith
    go (Some (Of d)) h = grind (arith, nat_tests)
    go (Some Dead) h = grind arith

-- whose connections are at a plug, it is connected
pub connected_by : (c : ℕ) (kind : ConnectionKind) (s : Connections) → NoneBeyond s → 0 < connections_of c kind s → has_connection s ≡ true
connected_by c kind s beyond h = go (cases_lt c 63) kind h
  where
    go : (c < 63) ⊎ (63 ≤ c) → (kind : ConnectionKind) → 0 < connections_of c kind s → has_connection s ≡ true
    go (inl lt) kind h = had_connection c kind s lt (connection_is c kind s h)
    go (inr le) PointToPoint h = absurd (omega (arith, beyond c le))
    go (inr le) Broadcast h = grind (arith, nat_tests, connection_is c Broadcast s h)

pub room_of_empty : (kind : ConnectionKind) (s : Connections) → has_connection s ≡ false → HasRoom kind s
room_of_empty PointToPoint s e = grind (arith, nat_tests)
room_of_empty Broadcast s e = go s.broadcast (grind (arith, nat_tests))
  where
    go : (o : Option Owner) → is_there o ≡ false → o ≡ None
    go None e = refl
    go (Some x) e = grind arith
