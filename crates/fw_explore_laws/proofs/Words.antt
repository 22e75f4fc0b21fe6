-- A word that is read of a line of a script is one line.
use Rattle.fw_explore_laws.proofs.Common.{ℕ, ◌≡◌, ◌≢◌, ◌+◌, ◌==◌, ◌&&◌, not, nat_le, List, [], ◌∷◌, ◌++◌, Bool, true, false, Option, Some, None, Ok, length, codes, refl, sym, subst, arith, list_all}
use Rattle.fw_explore_laws.proofs.Common.{and_parts, nat_tests, same_Some}
use Rattle.std.proofs.Common.{◌*◌, ◌/◌, ◌%◌, Err, find, is_some, cond}
use Rattle.std.specs.Char.{is_ascii_digit}
use Rattle.std.specs.Str.{bytes_eq}
use Rattle.std.specs.declared.result.Result.{Result}
use Rattle.std.specs.Int.{from_be_bytes, w16, w32}
use Rattle.std.specs.Str.Parse.{digits_value}
use Rattle.std.specs.Option.{option_map}
use Rattle.std.proofs.lemmas.Slice.Eq.{bytes_eq-Decides}
use Rattle.hex.specs.Hex.{decode_of, decode_pairs, decode_sized, digit_or_error, hex_digit_value, pair_value, value_at, ◌>>=◌}
use Rattle.hex.specs.declared.error.FromHexError.{FromHexError}
use Rattle.hex.specs.declared.error.FromHexError.TheVariants.{OddLength, InvalidStringLength}
use Rattle.fw_terms.specs.declared.device.DeviceKind.{DeviceKind}
use Rattle.fw_terms.specs.declared.device.DeviceKind.TheVariants.{Relay, Deck, Camcorder, Computer}
use Rattle.fw_terms.specs.Devices.{code_of, name_of}
use Rattle.fw_script_command.specs.Pieces.{separated, pieces}
use Rattle.fw_script_command.specs.Words.{both, channel_in, frame_in, is, is_decimal, is_name, is_name_byte, is_taken, kind_in, late_in}
use Rattle.fw_script_command.specs.Words.{meaning_in, name_in, number_in, offset_in, only_if, or_none, place_by, place_in, shown_in, some_in, word_in}
use Rattle.fw_script_command.proofs.NumberLaws.{all_digits}
use Rattle.fw_script_command.proofs.PiecesLaws.{pieces_part}
use Rattle.fw_explore_laws.proofs.Lines.{is_one_line}

-- ---- texts of one line

pub both_true : {x y : Bool} → x ≡ true → y ≡ true → (x && y) ≡ true
both_true e f = grind arith

pub all_weaker : (f g : ℕ → Bool) → ((b : ℕ) → f b ≡ true → g b ≡ true) → (w : List ℕ) → list_all f w ≡ true → list_all g w ≡ true
all_weaker f g weaker [] all = refl
all_weaker f g weaker (b ∷ w) all = let parts = and_parts (f b) (list_all f w) all in both_true (weaker b parts.0) (all_weaker f g weaker w parts.1)

pub all_more : (f : ℕ → Bool) (a b : List ℕ) → list_all f a ≡ true → list_all f b ≡ true → list_all f (a ++ b) ≡ true
all_more f [] b first second = second
all_more f (x ∷ a) b first second = let parts = and_parts (f x) (list_all f a) first in both_true parts.0 (all_more f a b parts.1 second)

pub one_more : (a b : List ℕ) → is_one_line a ≡ true → is_one_line b ≡ true → is_one_line (a ++ b) ≡ true
one_more a b = all_more (λ x. not (x == 10)) a b

pub no_feed : (b : ℕ) → b ≢ 10 → not (b == 10) ≡ true
no_feed b other = grind (arith, nat_tests)

-- ---- words

-- what is read of a word is there
abbrev pub IsRead : {A : Type 0} → Option A → List ℕ → Type 0
IsRead o w = is_some o ≡ true → is_one_line w ≡ true

only_one : {A : Type 0} (b : Bool) (x : A) (w : List ℕ) → (b ≡ true → is_one_line w ≡ true) → IsRead (only_if b x) w
only_one true x w so e = so refl
only_one false x w so e = absurd cc

name_byte : (b : ℕ) → is_name_byte b ≡ true → not (b == 10) ≡ true
name_byte b e = no_feed b (λ same. let P : ℕ → Type 0 = λ n. is_name_byte n ≡ true in absurd (let h : false ≡ true = subst P same e in cc))

digit_byte : (b : ℕ) → is_ascii_digit b ≡ true → not (b == 10) ≡ true
digit_byte b e = no_feed b (λ same. let P : ℕ → Type 0 = λ n. is_ascii_digit n ≡ true in absurd (let h : false ≡ true = subst P same e in cc))

pub name_one : (w : List ℕ) → IsRead (name_in w) w
name_one w = only_one (is_name w) w w (λ e. by e)
  where
    by : is_name w ≡ true → is_one_line w ≡ true
    by e =
        let prefix = and_parts _ (not (is_taken w)) e in
        let bytes = and_parts _ (list_all is_name_byte w) prefix.0 in
        all_weaker is_name_byte (λ b. not (b == 10)) name_byte w bytes.1

pub number_one : (low high : ℕ) (w : List ℕ) → IsRead (number_in low high w) w
number_one low high w = only_one (is_decimal w && nat_le low (digits_value 10 w) && nat_le (digits_value 10 w) high) (digits_value 10 w) w (λ e. by e)
  where
    by : (is_decimal w && nat_le low (digits_value 10 w) && nat_le (digits_value 10 w) high) ≡ true → is_one_line w ≡ true
    by e =
        let prefix = and_parts (is_decimal w && nat_le low (digits_value 10 w)) (nat_le (digits_value 10 w) high) e in
        let digits = and_parts (is_decimal w) (nat_le low (digits_value 10 w)) prefix.0 in
        all_weaker is_ascii_digit (λ b. not (b == 10)) digit_byte w (all_digits w digits.0)

-- a word that is some text has what the text has
pub is_text : (test : List ℕ → Bool) (text w : List ℕ) → is text w ≡ true → test text ≡ true → test w ≡ true
is_text test text w e so = subst (λ (l : List ℕ). test l ≡ true) (sym ((bytes_eq-Decides w text).0 e)) so

-- or one of some texts
meaning_by : {A : Type 0} (test : List ℕ → Bool) (row : List ℕ × A) (o : Option A) (w : List ℕ) (b : Bool) → is row.0 w ≡ b → test row.0 ≡ true → (is_some o ≡ true → test w ≡ true)
    → is_some (cond b (Some row.1) o) ≡ true → test w ≡ true
meaning_by test row o w true same so later e = is_text test row.0 w same so
meaning_by test row o w false other so later e = later e

pub meaning_text : {A : Type 0} (test : List ℕ → Bool) (rows : List (List ℕ × A)) (w : List ℕ) → list_all (λ (row : List ℕ × A). test row.0) rows ≡ true → is_some (meaning_in rows w) ≡ true
    → test w ≡ true
meaning_text test [] w all e = absurd cc
meaning_text test (row ∷ rows) w all e =
    let parts = and_parts (test row.0) (list_all (λ r. test r.0) rows) all in
    meaning_by test row (meaning_in rows w) w (is row.0 w) refl parts.0 (meaning_text test rows w parts.1) e

-- what each row has, has what is read by it
abbrev pub RowsHave : {A : Type 0} → (List ℕ → A → Type 0) → List (List ℕ × A) → Type 0
RowsHave P [] = Unit {0}
RowsHave P (row ∷ rows) = P row.0 row.1 × RowsHave P rows

row_has : {A : Type 0} (P : List ℕ → A → Type 0) (row : List ℕ × A) (o : Option A) (w : List ℕ) (a : A) (b : Bool) → is row.0 w ≡ b → P row.0 row.1 → (o ≡ Some a → P w a)
    → cond b (Some row.1) o ≡ Some a → P w a
row_has P row o w a true same so later e =
    subst (λ (x : _). P w x) (same_Some row.1 a e) (subst (λ (l : List ℕ). P l row.1) (sym ((bytes_eq-Decides w row.0).0 same)) so)
row_has P row o w a false other so later e = later e

pub meaning_has : {A : Type 0} (P : List ℕ → A → Type 0) (rows : List (List ℕ × A)) (w : List ℕ) (a : A) → RowsHave P rows → meaning_in rows w ≡ Some a → P w a
meaning_has P [] w a all e = absurd cc
meaning_has P (row ∷ rows) w a all e = row_has P row (meaning_in rows w) w a (is row.0 w) refl all.0 (meaning_has P rows w a all.1) e

kind_by : (k : DeviceKind) (o : Option DeviceKind) (w : List ℕ) (b : Bool) → bytes_eq w (name_of k) ≡ b → is_one_line (name_of k) ≡ true
    → (is_some (option_map code_of o) ≡ true → is_one_line w ≡ true)
    → is_some (option_map code_of (cond b (Some k) o)) ≡ true → is_one_line w ≡ true
kind_by k o w true same so later e = is_text is_one_line (name_of k) w same so
kind_by k o w false other so later e = later e

kinds_one : (ks : List DeviceKind) (w : List ℕ) → list_all (λ k. is_one_line (name_of k)) ks ≡ true → IsRead (option_map code_of (find (λ k. bytes_eq w (name_of k)) ks)) w
kinds_one [] w all e = absurd cc
kinds_one (k ∷ ks) w all e =
    let parts = and_parts (is_one_line (name_of k)) (list_all (λ j. is_one_line (name_of j)) ks) all in
    kind_by k (find (λ j. bytes_eq w (name_of j)) ks) w (bytes_eq w (name_of k)) refl parts.0 (kinds_one ks w parts.1) e

pub kind_one : (w : List ℕ) → IsRead (kind_in w) w
kind_one w e = kinds_one (Relay ∷ Deck ∷ Camcorder ∷ Computer ∷ []) w refl e

-- texts with a byte between them
pub separated_one : (s : ℕ) (ws : List (List ℕ)) → not (s == 10) ≡ true → list_all is_one_line ws ≡ true → is_one_line (separated s ws) ≡ true
separated_one s [] other all = refl
separated_one s (w ∷ []) other all = (and_parts (is_one_line w) true all).0
separated_one s (w ∷ v ∷ ws) other all =
    let parts = and_parts (is_one_line w) (list_all is_one_line (v ∷ ws)) all in
    one_more w (s ∷ separated s (v ∷ ws)) parts.0 (both_true other (separated_one s (v ∷ ws) other parts.1))

both_one : (o : Option (List ℕ)) (n : Option ℕ) → is_some (both o n) ≡ true → (is_some o ≡ true) × (is_some n ≡ true)
both_one (Some name) (Some n) e = (refl, refl)
both_one (Some name) None e = absurd cc
both_one None n e = absurd cc

place_by_one : (high : ℕ) (ws : List (List ℕ)) → is_some (place_by high ws) ≡ true → list_all is_one_line ws ≡ true
place_by_one high [] e = absurd cc
place_by_one high (name ∷ []) e = absurd cc
place_by_one high (name ∷ number ∷ []) e =
    let read = both_one (name_in name) (number_in 0 high number) e in
    both_true (name_one name read.0) (both_true (number_one 0 high number read.1) refl)
place_by_one high (name ∷ number ∷ w ∷ ws) e = absurd cc

pub place_one : (high : ℕ) (w : List ℕ) → IsRead (place_in high w) w
place_one high w e = subst (λ (l : List ℕ). is_one_line l ≡ true) (pieces_part 46 w).0 (separated_one 46 (pieces 46 w) refl (place_by_one high (pieces 46 w) e))

some_read : {A : Type 0} (o : Option A) → is_some (some_in o) ≡ true → is_some o ≡ true
some_read (Some x) e = refl
some_read None e = absurd cc

or_text : {A : Type 0} (text w : List ℕ) (o : Option A) (b : Bool) → is text w ≡ b → is_one_line text ≡ true → IsRead o w → is_some (cond b (Some None) (some_in o)) ≡ true → is_one_line w ≡ true
or_text text w o true same so later e = is_text is_one_line text w same so
or_text text w o false other so later e = later (some_read o e)

pub channel_one : (w : List ℕ) → IsRead (channel_in w) w
channel_one w e = or_text (codes "any") w (number_in 0 63 w) (is (codes "any") w) refl refl (number_one 0 63 w) e

pub shown_one : (w : List ℕ) → IsRead (shown_in w) w
shown_one w e = or_text (codes "manager") w (name_in w) (is (codes "manager") w) refl refl (name_one w) e

pub late_one : (w : List ℕ) → IsRead (late_in w) w
late_one w = only_one (is (codes "late") w) true w (λ same. is_text is_one_line (codes "late") w same refl)

-- ---- hexadecimal digits

digit_read : (c i v : ℕ) (o : Option ℕ) → digit_or_error c i o ≡ Ok v → is_some o ≡ true
digit_read c i v (Some x) e = refl
digit_read c i v None e = absurd cc

hex_byte : (c i v : ℕ) → digit_or_error c i (hex_digit_value c) ≡ Ok v → not (c == 10) ≡ true
hex_byte c i v e =
    no_feed c (λ same. let P : ℕ → Type 0 = λ n. is_some (hex_digit_value n) ≡ true in absurd (let h : false ≡ true = subst P same (digit_read c i v (hex_digit_value c) e) in cc))

bound : {A B : Type 0} (r : Result A FromHexError) (f : A → Result B FromHexError) (y : B) → (r >>= f) ≡ Ok y → (a : A) × (r ≡ Ok a) × (f a ≡ Ok y)
bound (Ok a) f y e = (a, refl, e)
bound (Err x) f y e = absurd cc

pairs_one : (i : ℕ) (w bytes : List ℕ) → decode_pairs i w ≡ Ok bytes → is_one_line w ≡ true
unfolding decode_pairs
pairs_one i [] bytes e = refl
pairs_one i (d ∷ []) bytes e = absurd cc
pairs_one i (high ∷ low ∷ rest) bytes e =
    let byte = bound (pair_value high low i) (λ b. decode_pairs (i + 2) rest >>= (λ bs. Ok (b ∷ bs))) bytes e in
    let first = bound (value_at high i) (λ h. value_at low (i + 1) >>= (λ l. Ok (h * 16 + l))) byte.0 byte.1 in
    let second = bound (value_at low (i + 1)) (λ l. Ok (first.0 * 16 + l)) byte.0 first.2 in
    let others = bound (decode_pairs (i + 2) rest) (λ bs. Ok (byte.0 ∷ bs)) bytes byte.2 in
    both_true (hex_byte high i first.0 first.1) (both_true (hex_byte low (i + 1) second.0 second.1) (pairs_one (i + 2) rest others.0 others.1))

read_ok : {A : Type 0} (f : List ℕ → A) (r : Result (List ℕ) FromHexError) → is_some (or_none f r) ≡ true → (bytes : List ℕ) × (r ≡ Ok bytes)
read_ok f (Ok bytes) e = (bytes, refl)
read_ok f (Err x) e = absurd cc

past_test : {A : Type 0} (b : Bool) (x : FromHexError) (r : Result A FromHexError) (y : A) → cond b (Err x) r ≡ Ok y → r ≡ Ok y
past_test true x r y e = absurd cc
past_test false x r y e = e

by_test : {A : Type 0} (b : Bool) (x : FromHexError) (r : Result A FromHexError) (y : A) → cond b r (Err x) ≡ Ok y → r ≡ Ok y
by_test true x r y e = e
by_test false x r y e = absurd cc

decoded_one : (w bytes : List ℕ) → decode_of w ≡ Ok bytes → is_one_line w ≡ true
decoded_one w bytes e = pairs_one 0 w bytes (past_test (length w % 2 == 1) OddLength (decode_pairs 0 w) bytes e)

sized_one : (n : ℕ) (w bytes : List ℕ) → decode_sized w n ≡ Ok bytes → is_one_line w ≡ true
sized_one n w bytes e =
    pairs_one 0 w bytes
    (by_test (length w / 2 == n) InvalidStringLength (decode_pairs 0 w) bytes
    (past_test (length w % 2 == 1) OddLength (cond (length w / 2 == n) (decode_pairs 0 w) (Err InvalidStringLength)) bytes e))

test_some : {A : Type 0} (b : Bool) (o : Option A) → is_some (cond b o None) ≡ true → is_some o ≡ true
test_some true o e = e
test_some false o e = absurd cc

pub offset_one : (w : List ℕ) → IsRead (offset_in w) w
offset_one w e =
    let read = read_ok (from_be_bytes w16) (decode_sized (48 ∷ w) 2) (test_some (length w == 3) (or_none (from_be_bytes w16) (decode_sized (48 ∷ w) 2)) e) in
    (and_parts true (is_one_line w) (sized_one 2 (48 ∷ w) read.0 read.1)).1

pub word_one : (w : List ℕ) → IsRead (word_in w) w
word_one w e = let read = read_ok (from_be_bytes w32) (decode_sized w 4) e in sized_one 4 w read.0 read.1

pub frame_one : (w : List ℕ) → IsRead (frame_in w) w
frame_one w e =
    let read = read_ok (λ (bytes : List ℕ). bytes) (decode_of w) (test_some (nat_le 1 (length w) && nat_le (length w) 220) (or_none (λ (bytes : List ℕ). bytes) (decode_of w)) e) in
    decoded_one w read.0 read.1
