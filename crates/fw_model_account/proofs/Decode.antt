-- The register and the words of a move decide it.
use Rattle.fw_model_account.proofs.Common.{PlugAt, ConnectionKind, PointToPoint, Broadcast, ◌≡◌, ◌≢◌, ℕ, ◌+◌, ◌-◌, ◌<◌, ◌≤◌, ◌==◌}
use Rattle.fw_model_account.proofs.Common.{Bool, true, false, not, Option, Some, None, nat_lt, refl, sym, ap, ◌∙◌}
use Rattle.fw_model_account.proofs.Common.{true≢false, arith, nat_tests, field, flag, Pending, Connections, Account}
use Rattle.fw_model_account.proofs.Common.{allocated, counter, has_connection, is_there, is_pending, AllocateUnits, ReleaseUnits}
use Rattle.fw_model_account.proofs.Common.{Can, after, HasRoom, HasConnection, add_connection, drop_connection, bits_word, IsSound}
use Rattle.fw_terms.specs.Tables.{find_to}
use Rattle.fw_terms.proofs.Tables.{find_to_is, IsFirst}
use Rattle.fw_terms.proofs.Finds.{find_here}
use Rattle.fw_model_account.specs.Account.{Owner, remainder, pending_channel}
use Rattle.fw_model_account.specs.Decode.{changed_bit, units_move, kind_of, is_more}
use Rattle.fw_model_account.proofs.Connections.{counter_changed}
use Rattle.fw_model_account.proofs.Allocations.{total_changed}
use Rattle.fw_model_account.proofs.Words.{free_bit}

-- ---- units

pub pending_is : (l : Account) (c : ℕ) (p : PlugAt) (ch u : ℕ) → IsSound l → l.allocations ch ≡ Some (record { holder = Pending c p; units = u }) → pending_channel c l.allocations ≡ Some ch
pending_is l c p ch u s held = go (pending_channel c l.allocations) (find_to_is 64 (λ k. is_pending c (l.allocations k)))
  where
    own : is_pending c (l.allocations ch) ≡ true
    own = rw held (grind (arith, nat_tests))

    go : (o : Option ℕ) → IsFirst 64 (λ k. is_pending c (l.allocations k)) o → o ≡ Some ch
    go None f = absurd (true≢false (sym own ∙ f ch (s.bounded ch _ held)))
    go (Some k) f = ap (λ n. Some n) (s.one_pending c k ch f.1 own)

pub units_allocated : (l : Account) (c : ℕ) (p : PlugAt) (ch u : ℕ) → IsSound l → Can c p (AllocateUnits ch u) l
    → units_move (remainder l) (remainder (after c p (AllocateUnits ch u) l)) ch ≡ AllocateUnits ch u
units_allocated l c p ch u s h =
    let e = total_changed l.allocations ch (Some (record { holder = Pending c p; units = u })) h.within in
    let none : allocated (l.allocations ch) ≡ 0 = rw h.channel refl in
    let fits = h.fits in
    let some = h.some in
    let less : remainder (after c p (AllocateUnits ch u) l) < remainder l = omega (arith, s.load) in
    let same : remainder l - remainder (after c p (AllocateUnits ch u) l) ≡ u = omega (arith, s.load) in
    let t : nat_lt (remainder (after c p (AllocateUnits ch u) l)) (remainder l) ≡ true = grind (arith, nat_tests) in
    rw t (ap (λ v. AllocateUnits ch v) same)

pub units_released : (l : Account) (c : ℕ) (p : PlugAt) (ch u : ℕ) → IsSound l → Can c p (ReleaseUnits ch u) l
    → units_move (remainder l) (remainder (after c p (ReleaseUnits ch u) l)) ch ≡ ReleaseUnits ch u
units_released l c p ch u s h =
    let e = total_changed l.allocations ch (Some (record { holder = Pending c p; units = 0 })) h.within in
    let own : allocated (l.allocations ch) ≡ u = rw h.held refl in
    let some = h.some in
    let more : remainder l ≤ remainder (after c p (ReleaseUnits ch u) l) = omega (arith, s.load) in
    let same : remainder (after c p (ReleaseUnits ch u) l) - remainder l ≡ u = omega (arith, s.load) in
    let t : nat_lt (remainder (after c p (ReleaseUnits ch u) l)) (remainder l) ≡ false = grind (arith, nat_tests) in
    rw t (ap (λ v. ReleaseUnits ch v) same)

-- ---- channels

none_before : (n : ℕ) (test : ℕ → Bool) → ((j : ℕ) → j < n → test j ≡ false) → find_to n test ≡ None
none_before n test none = go (find_to n test) (find_to_is n test)
  where
    go : (o : Option ℕ) → IsFirst n test o → o ≡ None
    go None f = refl
    go (Some k) f = absurd (true≢false (sym f.1 ∙ none k f.0))

-- if one channel of a half becomes free or is allocated, its bit is the one that changes
pub changed_at : (free now : ℕ → Bool) (i : ℕ) → i < 32 → free i ≢ now i → ((j : ℕ) → j ≢ i → free j ≡ now j) → changed_bit (bits_word free) (bits_word now) ≡ Some i
changed_at free now i lt differ same = find_here 32 i test (none_before i test before) here lt
  where
    test : ℕ → Bool
    test j = not (field (bits_word free) j j == field (bits_word now) j j)

    before : (j : ℕ) → j < i → test j ≡ false
    before j jl = let e = same j (omega arith) in let a = free_bit free j (omega arith) in let b = free_bit now j (omega arith) in rw (a, b, e) (grind (arith, nat_tests))

    apart : (x y : Bool) → x ≢ y → not (flag x == flag y) ≡ true
    apart true true ne = absurd (ne refl)
    apart true false ne = refl
    apart false true ne = refl
    apart false false ne = absurd (ne refl)

    here : test i ≡ true
    here = rw (free_bit free i lt, free_bit now i lt) (apart (free i) (now i) differ)

-- ---- connections

pub more : (c : ℕ) (kind : ConnectionKind) (s : Connections) → c < 63 → HasRoom kind s
    → is_more (is_there s.broadcast) (counter s) (is_there (add_connection c kind s).broadcast) (counter (add_connection c kind s)) ≡ true
more c PointToPoint s lt room = go (is_there s.broadcast)
  where
    go : (b : Bool) → is_more b (counter s) b (counter (add_connection c PointToPoint s)) ≡ true
    go true = grind (arith, nat_tests, counter_changed c (s.counts c + 1) s lt)
    go false = grind (arith, nat_tests, counter_changed c (s.counts c + 1) s lt)
more c Broadcast s lt room = rw room refl

pub fewer : (c : ℕ) (kind : ConnectionKind) (s : Connections) → c < 63 → HasConnection c kind s
    → is_more (is_there s.broadcast) (counter s) (is_there (drop_connection c kind s).broadcast) (counter (drop_connection c kind s)) ≡ false
fewer c PointToPoint s lt has = go (is_there s.broadcast)
  where
    go : (b : Bool) → is_more b (counter s) b (counter (drop_connection c PointToPoint s)) ≡ false
    go true = grind (arith, nat_tests, counter_changed c (s.counts c - 1) s lt)
    go false = grind (arith, nat_tests, counter_changed c (s.counts c - 1) s lt)
fewer c Broadcast s lt has = rw has refl

same_kind : (b : Bool) → kind_of b b ≡ PointToPoint
same_kind true = refl
same_kind false = refl

pub kind_added : (c : ℕ) (kind : ConnectionKind) (s : Connections) → HasRoom kind s → kind_of (is_there s.broadcast) (is_there (add_connection c kind s).broadcast) ≡ kind
kind_added c PointToPoint s room = same_kind (is_there s.broadcast)
kind_added c Broadcast s room = rw room refl

pub kind_dropped : (c : ℕ) (kind : ConnectionKind) (s : Connections) → HasConnection c kind s → kind_of (is_there s.broadcast) (is_there (drop_connection c kind s).broadcast) ≡ kind
kind_dropped c PointToPoint s has = same_kind (is_there s.broadcast)
kind_dropped c Broadcast s has = rw has refl

no_broadcast : (o : Option Owner) → is_there o ≡ false → o ≡ None
no_broadcast None e = refl
no_broadcast (Some o) e = absurd (true≢false e)

-- a plug with no connection has room for one
pub empty_has_room : (kind : ConnectionKind) (s : Connections) → has_connection s ≡ false → HasRoom kind s
empty_has_room PointToPoint s e = grind (arith, nat_tests)
empty_has_room Broadcast s e = no_broadcast s.broadcast (grind arith)
