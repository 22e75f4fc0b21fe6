-- The object of an entry is plain: printable ASCII without a backslash.
use Rattle.fw_log_json.proofs.Common.{◌≡◌, ℕ, suc, ◌+◌, ◌^◌, ◌<◌, ◌==◌, ◌&&◌, Bool, true, false, if◌then◌else◌, List, [], ◌∷◌, ◌++◌, length, get_or, codes, decimal, Option, Some, None, IfSome, refl}
use Rattle.fw_log_json.proofs.Common.{arith, nat_tests, join_with_byte, hex, hex_bytes, field, quoted, name_value, number_value, code, array}
use Rattle.std.proofs.Common.{zero, ◌/◌, ◌%◌, nat_le, nat_lt, not}
use Rattle.std.proofs.lemmas.Fmt.{decimal_by_steps}
use Rattle.std.specs.Fmt.{digit_glyph}
use Rattle.std.specs.List.{list_all}
use Rattle.std.specs.Char.{is_ascii_lowercase}
use Rattle.fw_log_json.specs.Laws.{IsPlain}
use Rattle.fw_log_json_packets.specs.Values.{flag_value, cycle_value}
use Rattle.fw_log_json.proofs.Told.{both_left, both_right}

abbrev plain_byte : ℕ → Bool
plain_byte b = nat_le 32 b && nat_lt b 127 && not (b == 92)

abbrev pub plain : List ℕ → Bool
plain [] = true
plain (b ∷ bs) = plain_byte b && plain bs

one : (b : ℕ) → plain_byte b ≡ true → IsPlain b
one b e = record { low = grind (arith, nat_tests); high = grind (arith, nat_tests); unescaped = grind (arith, nat_tests) }

-- each byte is plain
pub record Plain (bs : List ℕ) : Type 0 where
  pub is : plain bs ≡ true

pub each : (bs : List ℕ) → plain bs ≡ true → (i : ℕ) → i < length bs → IsPlain (get_or bs i 0)
each [] e i h = absurd (omega (arith, h))
each (b ∷ bs) e zero h = one b (both_left (plain_byte b) (plain bs) e)
each (b ∷ bs) e (suc i) h = each bs (both_right (plain_byte b) (plain bs) e) i (omega (arith, h))

-- words are plain: a test tells
pub word : (bs : List ℕ) → plain bs ≡ true → Plain bs
word bs e = record { is = e }

both : (a b : Bool) → a ≡ true → b ≡ true → (a && b) ≡ true
both a b e f = rw (e, f) refl

joined : (xs ys : List ℕ) → plain xs ≡ true → plain ys ≡ true → plain (xs ++ ys) ≡ true
joined [] ys e f = f
joined (x ∷ xs) ys e f = both (plain_byte x) (plain (xs ++ ys)) (both_left (plain_byte x) (plain xs) e) (joined xs ys (both_right (plain_byte x) (plain xs) e) f)

pub two : {xs ys : List ℕ} → Plain xs → Plain ys → Plain (xs ++ ys)
two {xs} {ys} a b = record { is = joined xs ys a.is b.is }

-- words of small letters alone are
pub letters : (bs : List ℕ) → list_all is_ascii_lowercase bs ≡ true → plain bs ≡ true
letters [] e = refl
letters (b ∷ bs) e =
    let first = both_left (is_ascii_lowercase b) (list_all is_ascii_lowercase bs) e in
    let small : plain_byte b ≡ true = grind (arith, nat_tests, first) in
    both (plain_byte b) (plain bs) small (letters bs (both_right (is_ascii_lowercase b) (list_all is_ascii_lowercase bs) e))

-- ---- numbers

digit : (n : ℕ) → n < 10 → plain ((48 + n) ∷ []) ≡ true
digit n h = grind (arith, nat_tests)

pub number : (n : ℕ) → n < 2 ^ 64 → Plain (decimal n)
number n h = record {
  is = decimal_by_steps (λ m ds. plain ds ≡ true) digit (λ m ds k e. joined ds ((48 + m % 10) ∷ []) e (digit (m % 10) (omega arith))) n h;
}

glyph : (d : ℕ) → d < 16 → plain (digit_glyph false d ∷ []) ≡ true
glyph d h = grind (arith, nat_tests)

pub digits : (k n : ℕ) → Plain (hex k n)
unfolding hex
digits zero n = word [] refl
digits (suc k) n = two (digits k (n / 16)) (word (digit_glyph false (n % 16) ∷ []) (glyph (n % 16) (omega arith)))

pub bytes : (bs : List ℕ) → Plain (hex_bytes bs)
bytes [] = word [] refl
bytes (b ∷ bs) =
    two (two (word (digit_glyph false (b / 16 % 16) ∷ []) (glyph (b / 16 % 16) (omega arith))) (word (digit_glyph false (b % 16) ∷ []) (glyph (b % 16) (omega arith)))) (bytes bs)

-- ---- values, and fields

pub in_quotes : {text : List ℕ} → Plain text → Plain (quoted text)
unfolding quoted
in_quotes t = two (two (word (codes "\"") refl) t) (word (codes "\"") refl)

-- the name is plain, if there is one
pub record Named (o : Option (List ℕ)) : Type 0 where
  pub is : IfSome o Plain

pub named : (o : Option (List ℕ)) → Named o → Plain (name_value o)
named None h = word (codes "null") refl
named (Some n) h = in_quotes h.is

pub perhaps : (o : Option ℕ) → IfSome o (λ n. n < 2 ^ 64) → Plain (number_value o)
perhaps None h = word (codes "null") refl
perhaps (Some n) h = number n h

pub flag : (b : Bool) → Plain (flag_value b)
flag true = word (codes "true") refl
flag false = word (codes "false") refl

pub cycle : (n : ℕ) → n < 2 ^ 64 → Plain (cycle_value n)
cycle n h = by (nat_lt n (2 ^ 53))
  where
    by : (b : Bool) → Plain (if b then decimal n else quoted (decimal n))
    by true = number n h
    by false = in_quotes (number n h)

pub keyed : {value : List ℕ} (key : List ℕ) → plain key ≡ true → Plain value → Plain (field key value)
unfolding field
keyed key e v = two (word key e) v

pub coded : (key : List ℕ) (n : ℕ) (name_key : List ℕ) (name : Option (List ℕ)) → plain key ≡ true → plain name_key ≡ true → n < 2 ^ 64 → Named name
    → Plain (code key n name_key name)
unfolding code
coded key n name_key name e f h p = two (keyed key e (number n h)) (keyed name_key f (named name p))

-- texts of an array, all plain
abbrev pub AllPlain : List (List ℕ) → Type 0
AllPlain [] = Unit {0}
AllPlain (t ∷ ts) = Plain t × AllPlain ts

rows : (ts : List (List ℕ)) → AllPlain ts → Plain (join_with_byte 44 ts)
rows [] h = word [] refl
rows (t ∷ []) h = h.0
rows (t ∷ u ∷ us) h = two h.0 (two (word (44 ∷ []) refl) (rows (u ∷ us) h.1))

pub in_brackets : (ts : List (List ℕ)) → AllPlain ts → Plain (array ts)
unfolding array
in_brackets ts h = two (two (word (codes "[") refl) (rows ts h)) (word (codes "]") refl)
