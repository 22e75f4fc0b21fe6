-- Connections of one plug.
use Rattle.fw_model_account.proofs.Common.{ConnectionKind, PointToPoint, Broadcast, ◌≡◌, ℕ, ◌+◌, ◌-◌, ◌<◌, ◌≤◌}
use Rattle.fw_model_account.proofs.Common.{true, arith, nat_tests, update, Connections, counter, has_connection, HasConnection, HasRoom}
use Rattle.fw_model_account.proofs.Common.{add_connection, drop_connection}
use Rattle.fw_terms.proofs.Tables.{sum_to_changed, sum_to_at}

pub counter_changed : (c n : ℕ) (s : Connections) → c < 63 → counter (record s { counts = update s.counts c n }) + s.counts c ≡ counter s + n
counter_changed c n s lt =
    let e = sum_to_changed 63 c (update s.counts c n) s.counts lt (λ j ne. grind (arith, nat_tests)) in
    grind (arith, nat_tests)

pub has_connection_added : (c : ℕ) (kind : ConnectionKind) (s : Connections) → c < 63 → has_connection (add_connection c kind s) ≡ true
has_connection_added c PointToPoint s lt = grind (arith, nat_tests, counter_changed c (s.counts c + 1) s lt)
has_connection_added c Broadcast s lt = grind (arith, nat_tests)

pub room_after : (c : ℕ) (kind : ConnectionKind) (s : Connections) → c < 63 → counter s ≤ 63 → HasRoom kind s → counter (add_connection c kind s) ≤ 63
room_after c PointToPoint s lt most room = grind (arith, nat_tests, counter_changed c (s.counts c + 1) s lt)
room_after c Broadcast s lt most room = most

pub had_connection : (c : ℕ) (kind : ConnectionKind) (s : Connections) → c < 63 → HasConnection c kind s → has_connection s ≡ true
had_connection c PointToPoint s lt has = grind (arith, nat_tests, sum_to_at 63 c s.counts lt)
had_connection c Broadcast s lt has = grind (arith, nat_tests)

pub fewer_connections : (c : ℕ) (kind : ConnectionKind) (s : Connections) → c < 63 → counter (drop_connection c kind s) ≤ counter s
fewer_connections c PointToPoint s lt = grind (arith, nat_tests, counter_changed c (s.counts c - 1) s lt)
fewer_connections c Broadcast s lt = omega arith

-- no connection is of a device from 63 on
abbrev pub NoneBeyond : Connections → Type 0
NoneBeyond s = (d : ℕ) → 63 ≤ d → s.counts d ≡ 0

pub none_beyond_added : (c : ℕ) (kind : ConnectionKind) (s : Connections) → c < 63 → NoneBeyond s → NoneBeyond (add_connection c kind s)
none_beyond_added c PointToPoint s lt none = λ d le. grind (arith, nat_tests, none d le)
none_beyond_added c Broadcast s lt none = none

pub none_beyond_dropped : (c : ℕ) (kind : ConnectionKind) (s : Connections) → c < 63 → NoneBeyond s → NoneBeyond (drop_connection c kind s)
none_beyond_dropped c PointToPoint s lt none = λ d le. grind (arith, nat_tests, none d le)
none_beyond_dropped c Broadcast s lt none = none
