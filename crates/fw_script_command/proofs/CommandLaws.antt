-- The numbers of a command that some line of a script gives.
use Rattle.std.proofs.Common.{◌≡◌, ℕ, ◌+◌, ◌-◌, ◌*◌, ◌<◌, ◌≤◌, ◌^◌, List, [], ◌∷◌, length, nat_le, ◌==◌, Bool, true}
use Rattle.std.proofs.Common.{false, cond, ◌&&◌, Option, Some, None, IfSome, Ok, refl, ap, inl, inr, sym, subst, arith}
use Rattle.std.specs.Prelude.{⊤, codes}
use Rattle.std.specs.declared.result.Result.{Result}
use Rattle.std.specs.Int.{from_be_bytes, w16}
use Rattle.std.specs.Str.Parse.{digits_value}
use Rattle.std.proofs.lemmas.Bool.{and_parts, eqb-true}
use Rattle.std.proofs.lemmas.Bool.Decides.{nat_tests}
use Rattle.std.proofs.lemmas.Option.{same_Some}
use Rattle.std.specs.Option.{option_map}
use Rattle.fw_terms.specs.declared.device.DeviceKind.{DeviceKind}
use Rattle.fw_terms.specs.Devices.{code_of}
use Rattle.fw_terms.proofs.KindLaws.{code_low}
use Rattle.hex.specs.Hex.{decode_pairs, decode_sized, digit_or_error, hex_digit_value, ◌>>=◌}
use Rattle.hex.specs.declared.error.FromHexError.{FromHexError}
use Rattle.fw_script_command.specs.Form.{HasArguments, HasForm, first_by}
use Rattle.fw_script_command.specs.Words.{both, channel_in, is, is_decimal, kind_in, speed_in, name_in, only_if, or_none, number_in, offset_in, place_by, place_in, some_in}
use Rattle.fw_script_command.specs.Pieces.{pieces}
use Rattle.fw_script_command.specs.declared.keyword.Keyword.{Keyword}
use Rattle.fw_script_command.specs.declared.keyword.Keyword.TheVariants.{Device, Cable, Reset, Connect, Broadcast, Listen, Break, Step, Settle, Wait, Cycles, Die, Lose}
use Rattle.fw_script_command.specs.declared.keyword.Keyword.TheVariants.{Start, Command as CommandWord, Read, Swap, Insert, Eject, Show, Withhold, Candidate, Contend, Dub, End}
use Rattle.fw_script_command.specs.declared.command.Command.{Command}
use Rattle.fw_script_command.specs.declared.command.Command.TheVariants as Commands

-- the numbers are in their ranges
abbrev pub CommandFits : Command → Type 0
CommandFits (Commands.Device name kind ports speed) = (kind ≤ 3) × (1 ≤ ports) × (ports ≤ 27) × (speed ≤ 2)
CommandFits (Commands.Connect name output input channel overhead) = (output.1 < 31) × (input.1 < 31) × IfSome channel (λ ch. ch < 64) × (overhead < 16)
CommandFits (Commands.Broadcast name output overhead) = (output.1 < 31) × (overhead < 16)
CommandFits (Commands.Listen name input) = input.1 < 31
CommandFits (Commands.Step name count) = count ≤ 10000
CommandFits (Commands.Contend name count) = count ≤ 10000
CommandFits (Commands.Settle rounds) = rounds ≤ 200000
CommandFits (Commands.Read a b offset) = offset < 2 ^ 12
CommandFits (Commands.Swap a b offset argument new) = offset < 2 ^ 12
CommandFits (Commands.Show name offset) = offset < 2 ^ 12
CommandFits _ = ⊤

-- ---- words

only_some : {A : Type 0} (b : Bool) (x y : A) → only_if b x ≡ Some y → (b ≡ true) × (x ≡ y)
only_some true x y e = (refl, same_Some x y e)
only_some false x y e = absurd (let z : ⊥ = cc in z)

some_if : (b : Bool) (o : Option ℕ) (n : ℕ) → cond b o None ≡ Some n → (b ≡ true) × (o ≡ Some n)
some_if true o n e = (refl, e)
some_if false o n e = absurd (let z : ⊥ = cc in z)

number_range : (low high : ℕ) (w : List ℕ) (n : ℕ) → number_in low high w ≡ Some n → (low ≤ n) × (n ≤ high)
number_range low high w n e = go (digits_value 10 w) (only_some (is_decimal w && nat_le low (digits_value 10 w) && nat_le (digits_value 10 w) high) (digits_value 10 w) n e)
  where
    go : (v : ℕ) → (is_decimal w && nat_le low v && nat_le v high ≡ true) × (v ≡ n) → (low ≤ n) × (n ≤ high)
    go v h =
        let last = and_parts (is_decimal w && nat_le low v) (nat_le v high) h.0 in
        let first = and_parts (is_decimal w) (nat_le low v) last.0 in
        (grind (arith, nat_tests), grind (arith, nat_tests))

kind_range : (o : Option DeviceKind) (n : ℕ) → option_map code_of o ≡ Some n → n ≤ 3
kind_range None n e = absurd (let z : ⊥ = cc in z)
kind_range (Some kind) n e = let is = same_Some (code_of kind) n e in let low = code_low kind in omega (arith, is, low)

speed_range : (a b c : Bool) (n : ℕ) → cond a (Some 0) (cond b (Some 1) (cond c (Some 2) None)) ≡ Some n → n ≤ 2
speed_range true b c n e = let is = same_Some 0 n e in omega arith
speed_range false true c n e = let is = same_Some 1 n e in omega arith
speed_range false false true n e = let is = same_Some 2 n e in omega arith
speed_range false false false n e = absurd (let z : ⊥ = cc in z)

-- ---- offsets

digit_range : (c v : ℕ) → hex_digit_value c ≡ Some v → v < 16
digit_range c v e = go (nat_le 65 c && nat_le c 70) (nat_le 97 c && nat_le c 102) (nat_le 48 c && nat_le c 57) refl refl refl e
  where
    go : (x y z : Bool) → nat_le 65 c && nat_le c 70 ≡ x → nat_le 97 c && nat_le c 102 ≡ y → nat_le 48 c && nat_le c 57 ≡ z
        → cond x (Some (c - 55)) (cond y (Some (c - 87)) (cond z (Some (c - 48)) None)) ≡ Some v → v < 16
    go true y z p q r e = let is = same_Some (c - 55) v e in let h = (and_parts (nat_le 65 c) (nat_le c 70) p).1 in grind (arith, nat_tests)
    go false true z p q r e = let is = same_Some (c - 87) v e in let h = (and_parts (nat_le 97 c) (nat_le c 102) q).1 in grind (arith, nat_tests)
    go false false true p q r e = let is = same_Some (c - 48) v e in let h = (and_parts (nat_le 48 c) (nat_le c 57) r).1 in grind (arith, nat_tests)
    go false false false p q r e = absurd (let t : ⊥ = cc in t)

digit_below : (c : ℕ) → IfSome (hex_digit_value c) (λ v. v < 16)
digit_below c = go (hex_digit_value c) refl
  where
    go : (o : Option ℕ) → hex_digit_value c ≡ o → IfSome o (λ v. v < 16)
    go None e = tt
    go (Some v) e = digit_range c v e

-- the two bytes of a zero and three digits
abbrev decoded : ℕ → ℕ → ℕ → Option ℕ → Option ℕ → Option ℕ → Result (List ℕ) FromHexError
decoded a b c x y z =
    (digit_or_error a 1 x >>= (λ l. Ok (0 * 16 + l)))
    >>= (λ first. ((digit_or_error b 2 y >>= (λ h. digit_or_error c 3 z >>= (λ l. Ok (h * 16 + l)))) >>= (λ last. Ok (last ∷ []))) >>= (λ bytes. Ok (first ∷ bytes)))

decoded_small : (a b c n : ℕ) (x y z : Option ℕ) → IfSome x (λ v. v < 16) → IfSome y (λ v. v < 16) → IfSome z (λ v. v < 16) → or_none (from_be_bytes w16) (decoded a b c x y z) ≡ Some n → n < 2 ^ 12
decoded_small a b c n (Some x) (Some y) (Some z) p q r e = let is = same_Some (from_be_bytes w16 ((0 * 16 + x) ∷ (y * 16 + z) ∷ [])) n e in omega arith
decoded_small a b c n None y z p q r e = absurd (let t : ⊥ = cc in t)
decoded_small a b c n (Some x) None z p q r e = absurd (let t : ⊥ = cc in t)
decoded_small a b c n (Some x) (Some y) None p q r e = absurd (let t : ⊥ = cc in t)

three_digits : (w : List ℕ) (n : ℕ) → length w ≡ 3 → or_none (from_be_bytes w16) (decode_sized (48 ∷ w) 2) ≡ Some n → n < 2 ^ 12
unfolding decode_pairs
three_digits [] n size e = absurd (omega arith)
three_digits (a ∷ []) n size e = absurd (omega arith)
three_digits (a ∷ b ∷ []) n size e = absurd (omega arith)
three_digits (a ∷ b ∷ c ∷ []) n size e = decoded_small a b c n (hex_digit_value a) (hex_digit_value b) (hex_digit_value c) (digit_below a) (digit_below b) (digit_below c) e
three_digits (a ∷ b ∷ c ∷ d ∷ w) n size e = absurd (omega arith)

offset_range : (w : List ℕ) (n : ℕ) → offset_in w ≡ Some n → n < 2 ^ 12
offset_range w n e = let h = some_if (length w == 3) (or_none (from_be_bytes w16) (decode_sized (48 ∷ w) 2)) n e in three_digits w n (eqb-true (length w) 3 h.0) h.1

-- ---- plugs and channels

both_range : (high : ℕ) (o : Option (List ℕ)) (k : Option ℕ) (p : List ℕ × ℕ) → ((n : ℕ) → k ≡ Some n → n ≤ high) → both o k ≡ Some p → p.1 ≤ high
both_range high (Some name) (Some n) p low e = let same : n ≡ p.1 = ap (λ (p : List ℕ × ℕ). p.1) (same_Some (name, n) p e) in let le = low n refl in omega arith
both_range high (Some name) None p low e = absurd (let z : ⊥ = cc in z)
both_range high None k p low e = absurd (let z : ⊥ = cc in z)

place_by_range : (high : ℕ) (ws : List (List ℕ)) (p : List ℕ × ℕ) → place_by high ws ≡ Some p → p.1 ≤ high
place_by_range high [] p e = absurd (let z : ⊥ = cc in z)
place_by_range high (name ∷ []) p e = absurd (let z : ⊥ = cc in z)
place_by_range high (name ∷ number ∷ []) p e = both_range high (name_in name) (number_in 0 high number) p (λ n is. (number_range 0 high number n is).1) e
place_by_range high (name ∷ number ∷ w ∷ ws) p e = absurd (let z : ⊥ = cc in z)

place_range : (high : ℕ) (w : List ℕ) (p : List ℕ × ℕ) → place_in high w ≡ Some p → p.1 ≤ high
place_range high w p e = place_by_range high (pieces 46 w) p e

some_channel : (k asked : Option ℕ) → ((n : ℕ) → k ≡ Some n → n ≤ 63) → some_in k ≡ Some asked → IfSome asked (λ ch. ch < 64)
some_channel (Some n) asked low e = let le = low n refl in let P : Option ℕ → Type 0 = λ o. IfSome o (λ ch. ch < 64) in subst P (same_Some (Some n) asked e) (omega arith)
some_channel None asked low e = absurd (let z : ⊥ = cc in z)

channel_range : (w : List ℕ) (asked : Option ℕ) → channel_in w ≡ Some asked → IfSome asked (λ ch. ch < 64)
channel_range w asked e = go (is (codes "any") w) e
  where
    go : (b : Bool) → cond b (Some None) (some_in (number_in 0 63 w)) ≡ Some asked → IfSome asked (λ ch. ch < 64)
    go true e = let P : Option ℕ → Type 0 = λ o. IfSome o (λ ch. ch < 64) in subst P (same_Some None asked e) tt
    go false e = some_channel (number_in 0 63 w) asked (λ n is. (number_range 0 63 w n is).1) e

-- ---- first words

first_has : {A : Type 0} (f : List ℕ → Option A) (P : A → Type 0) → ((w : List ℕ) (a : A) → f w ≡ Some a → P a) → (ws : List (List ℕ)) (a : A) → first_by f ws ≡ Some a → P a
first_has f P has [] a e = absurd (let z : ⊥ = cc in z)
first_has f P has (w ∷ ws) a e = has w a e

first_number : (low high : ℕ) (ws : List (List ℕ)) (n : ℕ) → first_by (number_in low high) ws ≡ Some n → (low ≤ n) × (n ≤ high)
first_number low high = first_has (number_in low high) (λ n. (low ≤ n) × (n ≤ high)) (number_range low high)

first_kind : (ws : List (List ℕ)) (n : ℕ) → first_by kind_in ws ≡ Some n → n ≤ 3
first_kind = first_has kind_in (λ n. n ≤ 3) (λ w n e. kind_range _ n e)

first_speed : (ws : List (List ℕ)) (n : ℕ) → first_by speed_in ws ≡ Some n → n ≤ 2
first_speed = first_has speed_in (λ n. n ≤ 2) (λ w n e. speed_range _ _ _ n e)

first_offset : (ws : List (List ℕ)) (n : ℕ) → first_by offset_in ws ≡ Some n → n < 2 ^ 12
first_offset = first_has offset_in (λ n. n < 2 ^ 12) offset_range

first_place : (high : ℕ) (ws : List (List ℕ)) (p : List ℕ × ℕ) → first_by (place_in high) ws ≡ Some p → p.1 ≤ high
first_place high = first_has (place_in high) (λ p. p.1 ≤ high) (place_range high)

first_channel : (ws : List (List ℕ)) (asked : Option ℕ) → first_by channel_in ws ≡ Some asked → IfSome asked (λ ch. ch < 64)
first_channel = first_has channel_in (λ asked. IfSome asked (λ ch. ch < 64)) channel_range

-- ---- commands

fits_as : (c d : Command) → c ≡ d → CommandFits d → CommandFits c
fits_as c d is = subst CommandFits (sym is)

-- `h.4` is what holds of the second word and of those after it, `h.4.4` of the third, and so on; the last is the command
arguments_fit : (k : Keyword) (ws : List (List ℕ)) (c : Command) → HasArguments k ws c → CommandFits c
arguments_fit Device ws c h =
    let ports = first_number 1 27 h.4.1 h.4.4.0 h.4.4.2 in
    fits_as c (Commands.Device h.0 h.4.0 h.4.4.0 h.4.4.4.0) h.4.4.4.4.1 (first_kind h.1 h.4.0 h.4.2, ports.0, ports.1, first_speed h.4.4.1 h.4.4.4.0 h.4.4.4.2)
arguments_fit Connect ws c h =
    let output = first_place 30 h.1 h.4.0 h.4.2 in
    let input = first_place 30 h.4.1 h.4.4.0 h.4.4.2 in
    let overhead = first_number 0 15 h.4.4.4.1 h.4.4.4.4.0 h.4.4.4.4.2 in
    fits_as c (Commands.Connect h.0 h.4.0 h.4.4.0 h.4.4.4.0 h.4.4.4.4.0) h.4.4.4.4.4.1 (omega arith, omega arith, first_channel h.4.4.1 h.4.4.4.0 h.4.4.4.2, omega arith)
arguments_fit Broadcast ws c h =
    let output = first_place 30 h.1 h.4.0 h.4.2 in
    let overhead = first_number 0 15 h.4.1 h.4.4.0 h.4.4.2 in
    fits_as c (Commands.Broadcast h.0 h.4.0 h.4.4.0) h.4.4.4.1 (omega arith, omega arith)
arguments_fit Listen ws c h = let input = first_place 30 h.1 h.4.0 h.4.2 in fits_as c (Commands.Listen h.0 h.4.0) h.4.4.1 (omega arith)
arguments_fit Settle ws c h = fits_as c (Commands.Settle h.0) h.4.1 (first_number 1 200000 ws h.0 h.2).1
arguments_fit Step ws c h = fits_as c (Commands.Step h.0 h.4.0) h.4.4.1 (first_number 1 10000 h.1 h.4.0 h.4.2).1
arguments_fit Read ws c h = fits_as c (Commands.Read h.0 h.4.0 h.4.4.0) h.4.4.4.1 (first_offset h.4.1 h.4.4.0 h.4.4.2)
arguments_fit Swap ws c h = fits_as c (Commands.Swap h.0 h.4.0 h.4.4.0 h.4.4.4.0 h.4.4.4.4.0) h.4.4.4.4.4.1 (first_offset h.4.1 h.4.4.0 h.4.4.2)
arguments_fit Show ws c h = fits_as c (Commands.Show h.0 h.4.0) h.4.4.1 (first_offset h.1 h.4.0 h.4.2)
arguments_fit Cable ws c h = fits_as c (Commands.Cable h.0 h.4.0) h.4.4.1 tt
arguments_fit Reset ws c h = fits_as c (Commands.Reset h.0) h.4.1 tt
arguments_fit Break ws c h = fits_as c (Commands.Break h.0 h.4.0) h.4.4.1 tt
arguments_fit Wait ws c h = fits_as c (Commands.Wait h.0) h.4.1 tt
arguments_fit Cycles ws c h = fits_as c (Commands.Cycles h.0) h.4.1 tt
arguments_fit Die ws c (inl h) = fits_as c (Commands.Die h.0 false) h.4.1 tt
arguments_fit Die ws c (inr h) = fits_as c (Commands.Die h.0 true) h.4.4.1 tt
arguments_fit Lose ws c h = fits_as c (Commands.Lose h.0) h.4.1 tt
arguments_fit Start ws c h = fits_as c (Commands.Start h.0) h.4.1 tt
arguments_fit CommandWord ws c h = fits_as c (Commands.Command h.0 h.4.0 h.4.4.0) h.4.4.4.1 tt
arguments_fit Insert ws c h = fits_as c (Commands.Insert h.0 h.4.0 h.4.4.0) h.4.4.4.1 tt
arguments_fit Eject ws c h = fits_as c (Commands.Eject h.0) h.4.1 tt
arguments_fit Withhold ws c h = fits_as c Commands.Withhold h.1 tt
arguments_fit Candidate ws c h = fits_as c (Commands.Candidate h.0) h.4.1 tt
arguments_fit Contend ws c h = fits_as c (Commands.Contend h.0 h.4.0) h.4.4.1 (first_number 1 10000 h.1 h.4.0 h.4.2).1
arguments_fit Dub ws c h = fits_as c (Commands.Dub h.0) h.4.1 tt
arguments_fit End ws c h = fits_as c Commands.End h.1 tt

pub command_fits : (c : Command) (line : List ℕ) → HasForm c line → CommandFits c
command_fits c line h = arguments_fit h.keyword h.others c h.arguments
