-- Values tell what was written: digits, flags, numbers that may be missing, cycles.
use Rattle.fw_log_json.proofs.Common.{◌≡◌, ℕ, suc, ◌+◌, ◌^◌, ◌<◌, if◌then◌else◌, Bool, true, false, List, [], ◌∷◌, ◌++◌, length, get_or, decimal, codes, Option, Some, None, IfSome, refl, ap, sym, ◌∙◌}
use Rattle.fw_log_json.proofs.Common.{arith, append_assoc, nat_tests, hex, hex_bytes, quoted, number_value}
use Rattle.std.proofs.Common.{zero, ◌*◌, ◌/◌, ◌%◌, nat_lt}
use Rattle.std.proofs.lemmas.List.{append_cancel_right, length-append}
use Rattle.std.specs.Fmt.{digit_glyph}
use Rattle.fw_log_json_packets.specs.Values.{flag_value, cycle_value}
use Rattle.fw_log_json.proofs.Told.{stops, Value, first_byte, one_text, number, no_number}

-- ---- texts in quotation marks that are as long

even : (a b r s : List ℕ) → length a ≡ length b → a ++ r ≡ b ++ s → (a ≡ b) × (r ≡ s)
even [] [] r s l e = (refl, e)
even [] (y ∷ b) r s l e = absurd (omega (arith, l))
even (x ∷ a) [] r s l e = absurd (omega (arith, l))
even (x ∷ a) (y ∷ b) r s l e =
    let first : x ≡ y = cc e in
    let rest : a ++ r ≡ b ++ s = cc e in
    let f = even a b r s (omega (arith, l)) rest in
    let same : a ≡ b = f.0 in
    (cc (first, same), f.1)

-- texts that are as long tell what they tell alone
in_quotes : {P : Type 0} (a b : List ℕ) → length a ≡ length b → (a ≡ b → P) → Value (quoted a) (quoted b) P
unfolding quoted
in_quotes a b l f = record {
  by = λ r s h k e.
      let long : length (a ++ 34 ∷ []) ≡ length (b ++ 34 ∷ []) = length-append a (34 ∷ []) ∙ ap (λ (n : ℕ). n + 1) l ∙ sym (length-append b (34 ∷ [])) in
      let rest : (a ++ 34 ∷ []) ++ r ≡ (b ++ 34 ∷ []) ++ s = cc e in
      let g = even (a ++ 34 ∷ []) (b ++ 34 ∷ []) r s long rest in
      (f (append_cancel_right a b (34 ∷ []) g.0), g.1);
}

-- ---- hexadecimal digits

glyph : (a b : ℕ) → a < 16 → b < 16 → digit_glyph false a ≡ digit_glyph false b → a ≡ b
glyph a b x y e = grind (arith, nat_tests)

long : (k n : ℕ) → length (hex k n) ≡ k
unfolding hex
long zero n = refl
long (suc k) n = length-append (hex k (n / 16)) (digit_glyph false (n % 16) ∷ []) ∙ ap (λ (m : ℕ). m + 1) (long k (n / 16)) ∙ omega arith

-- what so many digits can say
abbrev room : ℕ → ℕ
room zero = 1
room (suc k) = 16 * room k

hex_tells : (k m n : ℕ) → m < room k → n < room k → hex k m ≡ hex k n → m ≡ n
unfolding hex
hex_tells zero m n a b e = omega (arith, a, b)
hex_tells (suc k) m n a b e =
    let f = even (hex k (m / 16)) (hex k (n / 16)) (digit_glyph false (m % 16) ∷ []) (digit_glyph false (n % 16) ∷ []) (long k (m / 16) ∙ sym (long k (n / 16))) e in
    let high : m / 16 ≡ n / 16 = hex_tells k (m / 16) (n / 16) (omega (arith, a)) (omega (arith, b)) f.0 in
    let rest = f.1 in
    let glyphs : digit_glyph false (m % 16) ≡ digit_glyph false (n % 16) = cc rest in
    let low : m % 16 ≡ n % 16 = glyph (m % 16) (n % 16) (omega arith) (omega arith) glyphs in
    omega (arith, high, low)

pub in_digits : (k m n : ℕ) → m < room k → n < room k → Value (quoted (hex k m)) (quoted (hex k n)) (m ≡ n)
in_digits k m n a b = in_quotes (hex k m) (hex k n) (long k m ∙ sym (long k n)) (hex_tells k m n a b)

pub four : (m n : ℕ) → m < 2 ^ 16 → n < 2 ^ 16 → Value (quoted (hex 4 m)) (quoted (hex 4 n)) (m ≡ n)
four m n a b = in_digits 4 m n (omega (arith, a)) (omega (arith, b))

pub six : (m n : ℕ) → m < 2 ^ 24 → n < 2 ^ 24 → Value (quoted (hex 6 m)) (quoted (hex 6 n)) (m ≡ n)
six m n a b = in_digits 6 m n (omega (arith, a)) (omega (arith, b))

pub eight : (m n : ℕ) → m < 2 ^ 32 → n < 2 ^ 32 → Value (quoted (hex 8 m)) (quoted (hex 8 n)) (m ≡ n)
eight m n a b = in_digits 8 m n (omega (arith, a)) (omega (arith, b))

pub twelve : (m n : ℕ) → m < 2 ^ 48 → n < 2 ^ 48 → Value (quoted (hex 12 m)) (quoted (hex 12 n)) (m ≡ n)
twelve m n a b = in_digits 12 m n (omega (arith, a)) (omega (arith, b))

-- ---- bytes

twice_long : (bytes : List ℕ) → length (hex_bytes bytes) ≡ 2 * length bytes
twice_long [] = refl
twice_long (b ∷ bs) = omega (arith, twice_long bs)

one_byte : (a b : ℕ) → a < 256 → b < 256 → digit_glyph false (a / 16 % 16) ≡ digit_glyph false (b / 16 % 16) → digit_glyph false (a % 16) ≡ digit_glyph false (b % 16) → a ≡ b
one_byte a b x y e f =
    let high : a / 16 % 16 ≡ b / 16 % 16 = glyph (a / 16 % 16) (b / 16 % 16) (omega arith) (omega arith) e in
    let low : a % 16 ≡ b % 16 = glyph (a % 16) (b % 16) (omega arith) (omega arith) f in
    omega (arith, x, y, high, low)

bytes_tell : (xs ys : List ℕ) → ((i : ℕ) → get_or xs i 0 < 256) → ((i : ℕ) → get_or ys i 0 < 256) → length xs ≡ length ys → hex_bytes xs ≡ hex_bytes ys → xs ≡ ys
bytes_tell [] [] a b l e = refl
bytes_tell [] (y ∷ ys) a b l e = absurd (omega (arith, l))
bytes_tell (x ∷ xs) [] a b l e = absurd (omega (arith, l))
bytes_tell (x ∷ xs) (y ∷ ys) a b l e =
    let high : digit_glyph false (x / 16 % 16) ≡ digit_glyph false (y / 16 % 16) = cc e in
    let low : digit_glyph false (x % 16) ≡ digit_glyph false (y % 16) = cc e in
    let rest : hex_bytes xs ≡ hex_bytes ys = cc e in
    let first : x ≡ y = one_byte x y (a 0) (b 0) high low in
    let more : xs ≡ ys = bytes_tell xs ys (λ i. a (suc i)) (λ i. b (suc i)) (omega (arith, l)) rest in
    cc (first, more)

-- as many bytes
pub in_bytes : (xs ys : List ℕ) → ((i : ℕ) → get_or xs i 0 < 256) → ((i : ℕ) → get_or ys i 0 < 256) → length xs ≡ length ys → Value (quoted (hex_bytes xs)) (quoted (hex_bytes ys)) (xs ≡ ys)
in_bytes xs ys a b l = in_quotes (hex_bytes xs) (hex_bytes ys) (twice_long xs ∙ ap (λ (n : ℕ). 2 * n) l ∙ sym (twice_long ys)) (bytes_tell xs ys a b l)

-- ---- flags, what may be missing, cycles

pub flag : (x y : Bool) → Value (flag_value x) (flag_value y) (x ≡ y)
flag true true = record { by = λ r s h k e. (refl, ((one_text {a = codes "true"} {b = codes "true"} refl).by r s h k e).1) }
flag true false = record { by = λ r s h k e. let first : 116 ≡ 102 = first_byte e in absurd (omega (arith, first)) }
flag false true = record { by = λ r s h k e. let first : 102 ≡ 116 = first_byte e in absurd (omega (arith, first)) }
flag false false = record { by = λ r s h k e. (refl, ((one_text {a = codes "false"} {b = codes "false"} refl).by r s h k e).1) }

pub perhaps : (x y : Option ℕ) → IfSome x (λ n. n < 2 ^ 64) → IfSome y (λ n. n < 2 ^ 64) → Value (number_value x) (number_value y) (x ≡ y)
perhaps None None a b = record { by = λ r s h k e. (refl, ((one_text {a = codes "null"} {b = codes "null"} refl).by r s h k e).1) }
perhaps None (Some n) a b = record { by = λ r s h k e. absurd (no_number n b s (codes "null" ++ r) k refl (sym e)) }
perhaps (Some m) None a b = record { by = λ r s h k e. absurd (no_number m a r (codes "null" ++ s) h refl e) }
perhaps (Some m) (Some n) a b = record { by = λ r s h k e. let f = (number m n a b).by r s h k e in (ap Some f.0, f.1) }

-- a number in quotation marks
number_in_quotes : (m n : ℕ) → m < 2 ^ 64 → n < 2 ^ 64 → Value (quoted (decimal m)) (quoted (decimal n)) (m ≡ n)
unfolding quoted
number_in_quotes m n a b = record {
  by = λ r s h k e.
      let rest : (decimal m ++ 34 ∷ []) ++ r ≡ (decimal n ++ 34 ∷ []) ++ s = cc e in
      let f = (number m n a b).by (34 ∷ r) (34 ∷ s) refl refl (sym (append_assoc (decimal m) (34 ∷ []) r) ∙ rest ∙ append_assoc (decimal n) (34 ∷ []) s) in
      let last = f.1 in
      (f.0, cc last);
}

quote_or_digit : (m n : ℕ) → m < 2 ^ 64 → (r s : List ℕ) → stops r ≡ true → decimal m ++ r ≡ quoted (decimal n) ++ s → ⊥
unfolding quoted
quote_or_digit m n a r s h e = no_number m a r (quoted (decimal n) ++ s) h refl e

pub cycle : (m n : ℕ) → m < 2 ^ 64 → n < 2 ^ 64 → Value (cycle_value m) (cycle_value n) (m ≡ n)
cycle m n a b = by (nat_lt m (2 ^ 53)) (nat_lt n (2 ^ 53))
  where
    by : (x y : Bool) → Value (if x then decimal m else quoted (decimal m)) (if y then decimal n else quoted (decimal n)) (m ≡ n)
    by true true = number m n a b
    by true false = record { by = λ r s h k e. absurd (quote_or_digit m n a r s h e) }
    by false true = record { by = λ r s h k e. absurd (quote_or_digit n m b s r k (sym e)) }
    by false false = number_in_quotes m n a b
