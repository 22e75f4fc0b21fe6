-- Words of plugs between which one connection comes or goes, and nothing else changes that a move may not change.
use Rattle.fw_watch_laws.proofs.Common.{◌≡◌, refl, ap, sym, ◌∙◌, inl, inr, ◌⊎◌, ℕ, ◌+◌, ◌-◌, ◌*◌, ◌%◌, ◌^◌, ◌<◌, ◌≤◌, ◌==◌, ◌&&◌, not, Bool, true, false, if◌then◌else◌, arith, eq-eqb, update}
use Rattle.fw_watch_laws.proofs.Common.{Settings, flag, Output, Input}
use Rattle.std.proofs.Common.{bit_and}
use Rattle.std.proofs.lemmas.Nat.{and_assoc}
use Rattle.std.proofs.lemmas.Grind.{and_numeral, and_high_numeral}
use Rattle.fw_terms.specs.declared.plug.ConnectionKind.{ConnectionKind}
use Rattle.fw_terms.specs.declared.plug.ConnectionKind.TheVariants.{PointToPoint, Broadcast}
use Rattle.fw_words.specs.Quadlet.{field}
use Rattle.fw_plug.specs.Words.{FitsRegister, OutFields, InFields, out_word, in_word}
use Rattle.fw_model_account.specs.Account.{Connections, counter, is_there}
use Rattle.fw_model_account.specs.Moves.{HasRoom, HasConnection, add_connection, drop_connection}
use Rattle.fw_model_account.proofs.Connections.{counter_changed}
use Rattle.fw_watch_remarks.specs.Knowing.{is_connected}
use Rattle.fw_watch.specs.Swaps.{same_bits, are_next, moves_one, first_kept, is_move}

-- ---- one connection more or less

-- the counter changes by one, or the broadcast bit
abbrev pub one_step : Bool → ℕ → Bool → ℕ → Bool
one_step b n c k = if flag b == flag c then are_next n k else n == k

next_up : (n k : ℕ) → n + 1 ≡ k → are_next n k ≡ true
next_up n k e = rw (eq-eqb (n + 1) k e) refl

next_if : (b : Bool) → (if b then true else true) ≡ true
next_if true = refl
next_if false = refl

next_down : (n k : ℕ) → k + 1 ≡ n → are_next n k ≡ true
next_down n k e = rw (eq-eqb (k + 1) n e) (next_if (n + 1 == k))

same_flag : (b : Bool) (n k : ℕ) → are_next n k ≡ true → one_step b n b k ≡ true
same_flag true n k e = e
same_flag false n k e = e

pub step_added : (c : ℕ) (kind : ConnectionKind) (s : Connections) → c < 63 → HasRoom kind s
    → one_step (is_there s.broadcast) (counter s) (is_there (add_connection c kind s).broadcast) (counter (add_connection c kind s)) ≡ true
step_added c PointToPoint s h room =
    let e = counter_changed c (s.counts c + 1) s h in
    let more : ℕ = counter (record s { counts = update s.counts c (s.counts c + 1) }) in
    let up : counter s + 1 ≡ more = omega (arith, e) in
    same_flag (is_there s.broadcast) (counter s) more (next_up (counter s) more up)
step_added c Broadcast s h room = rw room (eq-eqb (counter s) (counter s) refl)

pub step_dropped : (c : ℕ) (kind : ConnectionKind) (s : Connections) → c < 63 → HasConnection c kind s
    → one_step (is_there s.broadcast) (counter s) (is_there (drop_connection c kind s).broadcast) (counter (drop_connection c kind s)) ≡ true
step_dropped c PointToPoint s h has =
    let e = counter_changed c (s.counts c - 1) s h in
    let less : ℕ = counter (record s { counts = update s.counts c (s.counts c - 1) }) in
    let down : less + 1 ≡ counter s = omega (arith, e, has) in
    same_flag (is_there s.broadcast) (counter s) less (next_down (counter s) less down)
step_dropped c Broadcast s h has = rw has (eq-eqb (counter s) (counter s) refl)

-- ---- moves

moves_by : (old new n k : ℕ) (b c : Bool) → field old 1 1 ≡ flag b → field new 1 1 ≡ flag c → field old 2 7 ≡ n → field new 2 7 ≡ k → one_step b n c k ≡ true → moves_one old new ≡ true
unfolding moves_one
moves_by old new n k b c e f g h s =
    let F : ℕ → ℕ → ℕ → ℕ → Bool = λ w x y z. if w == x then are_next y z else y == z in
    ap (λ (w : ℕ). F w (field new 1 1) (field old 2 7) (field new 2 7)) e ∙ ap (λ (x : ℕ). F (flag b) x (field old 2 7) (field new 2 7)) f
    ∙ ap (λ (y : ℕ). F (flag b) (flag c) y (field new 2 7)) g ∙ ap (λ (z : ℕ). F (flag b) (flag c) n z) h ∙ s

three_true : (a b c : Bool) → a ≡ true → b ≡ true → c ≡ true → (a && b && c) ≡ true
three_true true true true e f g = refl
three_true a b c e f g = cc

flag_below : (b : Bool) → flag b ≤ 1
flag_below true = omega arith
flag_below false = omega arith

-- a word whose counters are 0 has none of their bits
pub no_counters : (r : ℕ) → r < 2 ^ 24 → bit_and (2 ^ 31 + r) 0x7F000000 ≡ 0
no_counters r h =
    let a : bit_and (2 ^ 31 + r) 0x7F000000 ≡ bit_and (bit_and (2 ^ 31 + r) 0x7FFFFFFF) 0x7F000000 = sym (and_assoc 0x7F000000 (2 ^ 31 + r) 0x7FFFFFFF) in
    let b : bit_and (2 ^ 31 + r) 0x7FFFFFFF ≡ (2 ^ 31 + r) % 2 ^ 31 = and_numeral (2 ^ 31 + r) 0x7FFFFFFE refl in
    let c : (2 ^ 31 + r) % 2 ^ 31 ≡ r = omega (arith, h) in
    let d : bit_and r 0x7F000000 + r % 2 ^ 24 ≡ r = and_high_numeral r 0x7EFFFFFF refl (omega (arith, h)) in
    let z : bit_and r 0x7F000000 ≡ 0 = omega (arith, d, h) in
    a ∙ ap (λ (x : ℕ). bit_and x 0x7F000000) (b ∙ c) ∙ z

-- and is not connected
unconnected : (r : ℕ) → r < 2 ^ 24 → is_connected (2 ^ 31 + r) ≡ false
unconnected r h = ap (λ (x : ℕ). not (x == 0)) (no_counters r h)

-- ---- outputs

-- the settings are the same, or there was no connection
abbrev pub KeepsOut : OutFields → OutFields → Type 0
KeepsOut f g = (f.settings ≡ g.settings) ⊎ ((f.broadcast ≡ false) × (f.counter ≡ 0))

out_rest : (f : OutFields) → f.counter < 64 → FitsRegister f.settings
    → field (out_word f) 8 31 ≡ f.settings.channel * 2 ^ 16 + f.settings.rate * 2 ^ 14 + f.settings.overhead * 2 ^ 10 + 122
out_rest f h s = let b = flag_below f.broadcast in omega (arith, b, h, s.channel, s.rate, s.overhead)

out_payload : (f : OutFields) → f.counter < 64 → FitsRegister f.settings → field (out_word f) 22 31 ≡ 122
out_payload f h s = omega (arith, s.channel, s.rate, s.overhead)

kept_if : (b c : Bool) (old new first : ℕ) → field old 8 31 ≡ field new 8 31 → field old first 31 ≡ field new first 31 → same_bits old new (if b then 8 else first) 31 ≡ true
kept_if true c old new first e f = eq-eqb (field old 8 31) (field new 8 31) e
kept_if false c old new first e f = eq-eqb (field old first 31) (field new first 31) f

kept_from : (a b : Bool) (old new first : ℕ) → a ≡ false → field old first 31 ≡ field new first 31 → same_bits old new (if a && b then 8 else first) 31 ≡ true
kept_from true b old new first e f = cc
kept_from false b old new first e f = eq-eqb (field old first 31) (field new first 31) f

out_kept : (f g : OutFields) (k : ℕ) → f.counter < 64 → FitsRegister f.settings → g.counter < 64 → FitsRegister g.settings → KeepsOut f g
    → same_bits (out_word f) (out_word g) (first_kept (Output k) (out_word f) (out_word g)) 31 ≡ true
unfolding first_kept
out_kept f g k a b c d keeps =
    let payload : field (out_word f) 22 31 ≡ field (out_word g) 22 31 = out_payload f a b ∙ sym (out_payload g c d) in
    elim keeps [
      | inl same ↦ (
          let rest : field (out_word f) 8 31 ≡ field (out_word g) 8 31 =
          out_rest f a b ∙ ap (λ (s : Settings). s.channel * 2 ^ 16 + s.rate * 2 ^ 14 + s.overhead * 2 ^ 10 + 122) same ∙ sym (out_rest g c d) in
          kept_if (is_connected (out_word f) && is_connected (out_word g)) true (out_word f) (out_word g) 22 rest payload)
      | inr none ↦ (
          let r : ℕ = f.settings.channel * 2 ^ 16 + f.settings.rate * 2 ^ 14 + f.settings.overhead * 2 ^ 10 + 122 in
          let zero : flag f.broadcast ≡ 0 = ap flag none.0 in
          let word : out_word f ≡ 2 ^ 31 + r = omega (arith, zero, none.1) in
          let no : is_connected (out_word f) ≡ false = ap is_connected word ∙ unconnected r (omega (arith, b.channel, b.rate, b.overhead)) in
          kept_from (is_connected (out_word f)) (is_connected (out_word g)) (out_word f) (out_word g) 22 no payload)
    ]

out_first : (f : OutFields) → f.counter < 64 → FitsRegister f.settings → field (out_word f) 0 0 ≡ 1
out_first f h s = let b = flag_below f.broadcast in omega (arith, b, h, s.channel, s.rate, s.overhead)

out_broadcast : (f : OutFields) → f.counter < 64 → FitsRegister f.settings → field (out_word f) 1 1 ≡ flag f.broadcast
out_broadcast f h s = let b = flag_below f.broadcast in omega (arith, b, h, s.channel, s.rate, s.overhead)

out_counter : (f : OutFields) → f.counter < 64 → FitsRegister f.settings → field (out_word f) 2 7 ≡ f.counter
out_counter f h s = let b = flag_below f.broadcast in omega (arith, b, h, s.channel, s.rate, s.overhead)

pub out_is_move : (f g : OutFields) (k : ℕ) → f.counter < 64 → FitsRegister f.settings → g.counter < 64 → FitsRegister g.settings → KeepsOut f g
    → one_step f.broadcast f.counter g.broadcast g.counter ≡ true → is_move (Output k) (out_word f) (out_word g) ≡ true
unfolding is_move
out_is_move f g k a b c d keeps step =
    three_true (moves_one (out_word f) (out_word g)) (same_bits (out_word f) (out_word g) 0 0) (same_bits (out_word f) (out_word g) (first_kept (Output k) (out_word f) (out_word g)) 31)
    (moves_by (out_word f) (out_word g) f.counter g.counter f.broadcast g.broadcast (out_broadcast f a b) (out_broadcast g c d) (out_counter f a b) (out_counter g c d) step)
    (eq-eqb (field (out_word f) 0 0) (field (out_word g) 0 0) (out_first f a b ∙ sym (out_first g c d)))
    (out_kept f g k a b c d keeps)

-- ---- inputs

-- the channel is the same, or there was no connection
abbrev pub KeepsIn : InFields → InFields → Type 0
KeepsIn f g = (f.channel ≡ g.channel) ⊎ ((f.broadcast ≡ false) × (f.counter ≡ 0))

in_rest : (f : InFields) → f.counter < 64 → f.channel < 64 → field (in_word f) 8 31 ≡ f.channel * 2 ^ 16
in_rest f h s = let b = flag_below f.broadcast in omega (arith, b, h, s)

in_last : (f : InFields) → f.counter < 64 → f.channel < 64 → field (in_word f) 16 31 ≡ 0
in_last f h s = omega arith

in_kept : (f g : InFields) (k : ℕ) → f.counter < 64 → f.channel < 64 → g.counter < 64 → g.channel < 64 → KeepsIn f g
    → same_bits (in_word f) (in_word g) (first_kept (Input k) (in_word f) (in_word g)) 31 ≡ true
unfolding first_kept
in_kept f g k a b c d keeps =
    let last : field (in_word f) 16 31 ≡ field (in_word g) 16 31 = in_last f a b ∙ sym (in_last g c d) in
    elim keeps [
      | inl same ↦ (
          let rest : field (in_word f) 8 31 ≡ field (in_word g) 8 31 = in_rest f a b ∙ ap (λ (x : ℕ). x * 2 ^ 16) same ∙ sym (in_rest g c d) in
          kept_if (is_connected (in_word f) && is_connected (in_word g)) true (in_word f) (in_word g) 16 rest last)
      | inr none ↦ (
          let zero : flag f.broadcast ≡ 0 = ap flag none.0 in
          let word : in_word f ≡ 2 ^ 31 + f.channel * 2 ^ 16 = omega (arith, zero, none.1) in
          let no : is_connected (in_word f) ≡ false = ap is_connected word ∙ unconnected (f.channel * 2 ^ 16) (omega (arith, b)) in
          kept_from (is_connected (in_word f)) (is_connected (in_word g)) (in_word f) (in_word g) 16 no last)
    ]

in_first : (f : InFields) → f.counter < 64 → f.channel < 64 → field (in_word f) 0 0 ≡ 1
in_first f h s = let b = flag_below f.broadcast in omega (arith, b, h, s)

in_broadcast : (f : InFields) → f.counter < 64 → f.channel < 64 → field (in_word f) 1 1 ≡ flag f.broadcast
in_broadcast f h s = let b = flag_below f.broadcast in omega (arith, b, h, s)

in_counter : (f : InFields) → f.counter < 64 → f.channel < 64 → field (in_word f) 2 7 ≡ f.counter
in_counter f h s = let b = flag_below f.broadcast in omega (arith, b, h, s)

pub in_is_move : (f g : InFields) (k : ℕ) → f.counter < 64 → f.channel < 64 → g.counter < 64 → g.channel < 64 → KeepsIn f g
    → one_step f.broadcast f.counter g.broadcast g.counter ≡ true → is_move (Input k) (in_word f) (in_word g) ≡ true
unfolding is_move
in_is_move f g k a b c d keeps step =
    three_true (moves_one (in_word f) (in_word g)) (same_bits (in_word f) (in_word g) 0 0) (same_bits (in_word f) (in_word g) (first_kept (Input k) (in_word f) (in_word g)) 31)
    (moves_by (in_word f) (in_word g) f.counter g.counter f.broadcast g.broadcast (in_broadcast f a b) (in_broadcast g c d) (in_counter f a b) (in_counter g c d) step)
    (eq-eqb (field (in_word f) 0 0) (field (in_word g) 0 0) (in_first f a b ∙ sym (in_first g c d)))
    (in_kept f g k a b c d keeps)
