-- What the word of a plug says of its connections, and how one connection more or less changes it.
use Rattle.fw_account_tables.proofs.Common.{PlugAt, ConnectionKind, ◌≡◌, ◌≢◌, ◌<◌, ◌≤◌, ◌+◌, ◌-◌, ◌*◌, ◌⊎◌, inl, inr, ◌==◌, ◌||◌, not, nat_lt, ℕ, Bool, false, slice_index, cond, refl, ◌∙◌, ap, arith}
use Rattle.fw_account_tables.proofs.Common.{nat_tests, field, flag, out_word, in_word, out_fields, is_connected, units}
use Rattle.fw_account_tables.proofs.Common.{Connections, counter, has_connection, is_there, SeatsFor, shows_room, connection_value}
use Rattle.fw_account_tables.proofs.Common.{Seats}
use Rattle.fw_terms.specs.declared.plug.ConnectionKind.TheVariants.{PointToPoint, Broadcast}
use Rattle.fw_terms.specs.Tables.{update_plug}
use Rattle.fw_terms.proofs.Tables.{update_plug_at, sum_to_at}
use Rattle.fw_plug.specs.Words.{OutFields, InFields, FitsRegister, in_fields, units_of}
use Rattle.fw_plug.proofs.Words.{fields_of_word, in_fields_of_word}
use Rattle.fw_model_account.specs.Moves.{HasRoom, HasConnection, add_connection, drop_connection}
use Rattle.fw_model_account.specs.Decode.{has_room}
use Rattle.fw_account_tables.specs.Swaps.{Shows, is_broadcast}
use Rattle.fw_model_account.proofs.Connections.{counter_changed}

-- another plug keeps what it has
pub plug_other : {A : Type 0} (f : PlugAt → A) (p : PlugAt) (v : A) (q : PlugAt) → q ≢ p → update_plug f p v q ≡ f q
plug_other f p v q ne = go (update_plug_at f p v q)
  where
    go : ((q ≡ p) × (update_plug f p v q ≡ v)) ⊎ ((q ≢ p) × (update_plug f p v q ≡ f q)) → update_plug f p v q ≡ f q
    go (inl x) = absurd (ne x.0)
    go (inr x) = x.1

-- ---- what a word shows

pub output_shows : (f : OutFields) (s : Connections) (w : ℕ) → w ≡ out_word f → f.broadcast ≡ is_there s.broadcast → f.counter ≡ counter s → counter s ≤ 63
    → FitsRegister f.settings → Shows w s
output_shows f s w e b n most fits =
    let is = ap out_fields e ∙ fields_of_word f (omega arith) fits in
    record { broadcast = ap (λ (g : OutFields). g.broadcast) is ∙ b; counter = ap (λ (g : OutFields). g.counter) is ∙ n }

pub input_shows : (f : InFields) (s : Connections) (w : ℕ) → w ≡ in_word f → f.broadcast ≡ is_there s.broadcast → f.counter ≡ counter s → counter s ≤ 63
    → f.channel < 64 → Shows w s
input_shows f s w e b n most fits =
    let is = ap in_fields e ∙ in_fields_of_word f (omega arith) fits in
    record { broadcast = ap (λ (g : InFields). g.broadcast) is ∙ b; counter = ap (λ (g : InFields). g.counter) is ∙ n }

pub room_is : (kind : ConnectionKind) (w : ℕ) (s : Connections) → Shows w s → shows_room kind w ≡ has_room kind s
room_is PointToPoint w s h = let most : field w 2 7 ≤ 63 = omega arith in room (field w 2 7) most ∙ ap (λ n. nat_lt n 63) h.counter
  where
    room : (n : ℕ) → n ≤ 63 → not (n == 63) ≡ nat_lt n 63
    room n most = grind (arith, nat_tests)
room_is Broadcast w s h = ap not h.broadcast

counted : (b : Bool) (n : ℕ) → (b || not (n == 0)) ≡ (nat_lt 0 n || b)
counted b n = grind (arith, nat_tests)

pub connected_is : (w : ℕ) (s : Connections) → Shows w s → is_connected w ≡ has_connection s
connected_is w s h = ap (λ b. b || not (field w 2 7 == 0)) h.broadcast ∙ ap (λ n. is_there s.broadcast || not (n == 0)) h.counter ∙ counted
    (is_there s.broadcast) (counter s)

-- the units that an output plug's word says are those of its settings
pub units_of_word : (f : OutFields) → f.counter < 64 → FitsRegister f.settings → units (out_word f) ≡ units_of f.settings
units_of_word f most fits =
    let is = fields_of_word f most fits in
    let payload : field (out_word f) 22 31 ≡ 122 = let below : flag f.broadcast ≤ 1 = grind arith in let a = fits.channel in let b = fits.rate in let d =
    fits.overhead in omega arith in
    let rate : field (out_word f) 16 17 ≡ f.settings.rate = ap (λ (g : OutFields). g.settings.rate) is in
    let overhead : field (out_word f) 18 21 ≡ f.settings.overhead = ap (λ (g : OutFields). g.settings.overhead) is in
    rw (payload, rate, overhead) refl

-- ---- one connection more or less

abbrev pub bits_of : Connections → ℕ
bits_of s = flag (is_there s.broadcast) * 1073741824 + counter s * 16777216

pub bits_more : (c : ℕ) (kind : ConnectionKind) (s : Connections) → c < 63 → HasRoom kind s
    → bits_of (add_connection c kind s) ≡ bits_of s + connection_value kind
bits_more c PointToPoint s lt room = let e = counter_changed c (s.counts c + 1) s lt in omega arith
bits_more c Broadcast s lt room = rw room (omega arith)

pub bits_less : (c : ℕ) (kind : ConnectionKind) (s : Connections) → c < 63 → HasConnection c kind s
    → bits_of s ≡ bits_of (drop_connection c kind s) + connection_value kind
bits_less c PointToPoint s lt has = let e = counter_changed c (s.counts c - 1) s lt in omega arith
bits_less c Broadcast s lt has = rw has (omega arith)

-- the first connection is the only one
pub once_there : (c : ℕ) (kind : ConnectionKind) (s : Connections) → has_connection s ≡ false
    → is_there (add_connection c kind s).broadcast ≡ is_broadcast kind
once_there c PointToPoint s e = grind arith
once_there c Broadcast s e = refl

pub once_counted : (c : ℕ) (kind : ConnectionKind) (s : Connections) → c < 63 → has_connection s ≡ false
    → counter (add_connection c kind s) ≡ cond (is_broadcast kind) 0 1
once_counted c PointToPoint s lt e = grind (arith, nat_tests, counter_changed c (s.counts c + 1) s lt)
once_counted c Broadcast s lt e = grind (arith, nat_tests)

-- ---- whose the connections are

pub seat_room : (c : ℕ) (x : Seats) (s : Connections) → c < 63 → SeatsFor x s → counter s ≤ 63 → slice_index x.counts c < 255
seat_room c x s lt h most = let e = h.counts c lt in let m = sum_to_at 63 c s.counts lt in omega arith
