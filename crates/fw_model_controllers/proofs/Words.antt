-- What the words of an account's plug registers show, and the words after one connection more or less.
use Rattle.fw_model_controllers.proofs.Common.{ConnectionKind, PointToPoint, Broadcast, ◌≡◌, ℕ, ◌+◌, ◌-◌, ◌<◌, ◌≤◌, true, false}
use Rattle.fw_model_controllers.proofs.Common.{Option, Some, None, refl, ap, sym, ◌∙◌, arith, nat_tests, Settings, is_connected}
use Rattle.fw_model_controllers.proofs.Common.{has_connection, HasConnection, add_connection, drop_connection, has_broadcast, counter_of}
use Rattle.fw_model_controllers.proofs.Common.{channel_of, is_full, shows_connection, one_less, remainder_of, units_at}
use Rattle.fw_terms.proofs.Tables.{sum_to_at}
use Rattle.fw_words.specs.Quadlet.{field}
use Rattle.fw_plug.specs.Words.{FitsRegister, OutFields, out_fields, out_word, InFields, in_word}
use Rattle.fw_plug.proofs.Words.{fields_of_word, in_fields_of_word}
use Rattle.fw_model_account.specs.Account.{Owner, Connections, counter, is_there}
use Rattle.fw_model_account.specs.Moves.{HasRoom}
use Rattle.fw_model_account.proofs.Connections.{counter_changed}
use Rattle.fw_cmp_jobs.specs.Plugs.{overhead_of, one_more, with_channel, with_overhead, units_with}

-- ---- what a word shows

-- a word shows these connections
pub record Shows (w : ℕ) (s : Connections) : Type 0 where
  pub broadcast : has_broadcast w ≡ is_there s.broadcast
  pub counter : counter_of w ≡ counter s

abbrev pub output_word : Connections → Settings → ℕ
output_word s k = out_word (record { broadcast = is_there s.broadcast; counter = counter s; settings = k })

abbrev pub input_word : Connections → ℕ → ℕ
input_word s ch = in_word (record { broadcast = is_there s.broadcast; counter = counter s; channel = ch })

pub output_shows : (s : Connections) (k : Settings) → counter s ≤ 63 → FitsRegister k → Shows (output_word s k) s
output_shows s k most fits = let e = fields_of_word (record { broadcast = is_there s.broadcast; counter = counter s; settings = k }) (omega arith) fits in record {
  broadcast = ap (λ (f : OutFields). f.broadcast) e;
  counter = ap (λ (f : OutFields). f.counter) e;
}

pub settings_shown : (s : Connections) (k : Settings) → counter s ≤ 63 → FitsRegister k → (out_fields (output_word s k)).settings ≡ k
settings_shown s k most fits = ap (λ (f : OutFields). f.settings) (fields_of_word (record { broadcast = is_there s.broadcast; counter = counter s; settings = k }) (omega arith) fits)

pub input_shows : (s : Connections) (ch : ℕ) → counter s ≤ 63 → ch < 64 → Shows (input_word s ch) s
input_shows s ch most fits = let e = in_fields_of_word (record { broadcast = is_there s.broadcast; counter = counter s; channel = ch }) (omega arith) fits in record {
  broadcast = ap (λ (f : InFields). f.broadcast) e;
  counter = ap (λ (f : InFields). f.counter) e;
}

pub channel_shown : (s : Connections) (ch : ℕ) → counter s ≤ 63 → ch < 64 → channel_of (input_word s ch) ≡ ch
channel_shown s ch most fits = ap (λ (f : InFields). f.channel) (in_fields_of_word (record { broadcast = is_there s.broadcast; counter = counter s; channel = ch }) (omega arith) fits)

pub shows_connected : (w : ℕ) (s : Connections) → Shows w s → is_connected w ≡ has_connection s
shows_connected w s sh = grind (arith, nat_tests, sh.broadcast, sh.counter)

pub room_is : (kind : ConnectionKind) (w : ℕ) (s : Connections) → Shows w s → counter s ≤ 63 → is_full kind w ≡ false → HasRoom kind s
room_is PointToPoint w s sh most e = grind (arith, nat_tests, sh.counter)
room_is Broadcast w s sh most e = go s.broadcast (sym sh.broadcast ∙ e)
  where
    go : (o : Option Owner) → is_there o ≡ false → o ≡ None
    go None e = refl
    go (Some x) e = grind arith

pub shows_own : (c : ℕ) (kind : ConnectionKind) (w : ℕ) (s : Connections) → c < 63 → Shows w s → HasConnection c kind s → shows_connection kind w ≡ true
shows_own c PointToPoint w s lt sh has = grind (arith, nat_tests, sh.counter, sum_to_at 63 c s.counts lt)
shows_own c Broadcast w s lt sh has = sh.broadcast ∙ rw has refl

-- ---- one connection more or less

pub output_more : (c : ℕ) (kind : ConnectionKind) (s : Connections) (k : Settings) → c < 63 → HasRoom kind s → output_word (add_connection c kind s) k ≡ one_more kind (output_word s k)
output_more c PointToPoint s k lt room = let e : counter (add_connection c PointToPoint s) ≡ counter s + 1 = omega (arith, counter_changed c (s.counts c + 1) s lt) in omega arith
output_more c Broadcast s k lt room = rw room (omega arith)

pub output_less : (c : ℕ) (kind : ConnectionKind) (s : Connections) (k : Settings) → c < 63 → HasConnection c kind s → output_word (drop_connection c kind s) k ≡ one_less kind (output_word s k)
output_less c PointToPoint s k lt has = let e : counter (drop_connection c PointToPoint s) + 1 ≡ counter s = omega (arith, counter_changed c (s.counts c - 1) s lt, has) in omega arith
output_less c Broadcast s k lt has = rw has (omega arith)

pub input_more : (c : ℕ) (kind : ConnectionKind) (s : Connections) (ch : ℕ) → c < 63 → HasRoom kind s → input_word (add_connection c kind s) ch ≡ one_more kind (input_word s ch)
input_more c PointToPoint s ch lt room = let e : counter (add_connection c PointToPoint s) ≡ counter s + 1 = omega (arith, counter_changed c (s.counts c + 1) s lt) in omega arith
input_more c Broadcast s ch lt room = rw room (omega arith)

pub input_less : (c : ℕ) (kind : ConnectionKind) (s : Connections) (ch : ℕ) → c < 63 → HasConnection c kind s → input_word (drop_connection c kind s) ch ≡ one_less kind (input_word s ch)
input_less c PointToPoint s ch lt has = let e : counter (drop_connection c PointToPoint s) + 1 ≡ counter s = omega (arith, counter_changed c (s.counts c - 1) s lt, has) in omega arith
input_less c Broadcast s ch lt has = rw has (omega arith)

-- ---- other settings

channel_set : (s : Connections) (k : Settings) (ch : ℕ) → counter s ≤ 63 → FitsRegister k → with_channel (output_word s k) ch ≡ output_word s (record k { channel = ch })
channel_set s k ch most fits = let e : channel_of (output_word s k) ≡ k.channel = ap (λ (x : Settings). x.channel) (settings_shown s k most fits) in omega arith

overhead_set : (s : Connections) (k : Settings) (overhead : ℕ) → counter s ≤ 63 → FitsRegister k → with_overhead (output_word s k) overhead ≡ output_word s (record k { overhead = overhead })
overhead_set s k overhead most fits = let e : overhead_of (output_word s k) ≡ k.overhead = ap (λ (x : Settings). x.overhead) (settings_shown s k most fits) in omega arith

pub settings_set : (s : Connections) (k : Settings) (ch overhead : ℕ) → counter s ≤ 63 → FitsRegister k → ch < 64
    → with_overhead (with_channel (output_word s k) ch) overhead ≡ output_word s (record { channel = ch; rate = k.rate; overhead = overhead })
settings_set s k ch overhead most fits lt = ap (λ w. with_overhead w overhead) (channel_set s k ch most fits)
    ∙ overhead_set s (record k { channel = ch }) overhead most (record { channel = lt; rate = fits.rate; overhead = fits.overhead })

pub input_channel_set : (s : Connections) (old ch : ℕ) → counter s ≤ 63 → old < 64 → with_channel (input_word s old) ch ≡ input_word s ch
input_channel_set s old ch most lt = let e = channel_shown s old most lt in omega arith

-- ---- numbers

-- the units that an output plug's word shows with an overhead_ID
pub units_shown : (s : Connections) (k : Settings) (overhead : ℕ) → counter s ≤ 63 → FitsRegister k → units_with overhead (output_word s k) ≡ units_at k.rate overhead
units_shown s k overhead most fits =
    let rate : field (output_word s k) 16 17 ≡ k.rate = ap (λ (x : Settings). x.rate) (settings_shown s k most fits) in
    let payload : field (output_word s k) 22 31 ≡ 122 = omega arith in
    rw (payload, rate) refl

pub remainder_shown : (v : ℕ) → v ≤ 4915 → remainder_of v ≡ v
remainder_shown v le = omega arith
