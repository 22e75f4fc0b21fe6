-- The texts of a compare_swap of a quadlet that are put together beforehand.
use Rattle.std.proofs.Common.{◌≡◌, refl, ap, sym, ◌∙◌, ℕ, List, [], ◌∷◌, ◌++◌, codes, decimal, arith, append_assoc}
use Rattle.std.proofs.lemmas.Fmt.{decimal_digit}
use Rattle.fw_log_names.specs.Names.{function_name}
use Rattle.std.proofs.Common.{length}
use Rattle.fw_text.specs.Texts.{hex_bytes}
use Rattle.fw_log_json_packets.specs.Values.{field, code, quoted}
use Rattle.fw_log_json_packets.specs.Packets.{lock_fields}
use Rattle.fw_log_json_packets.proofs.Joins.{then}

pub swap_text : codes ",\"data_length\":8,\"extended_tcode\":2,\"extended_tcode_name\":\"compare_swap\",\"data\":\""
    ≡ field (codes ",\"data_length\":") (decimal 8) ++ code (codes ",\"extended_tcode\":") 2 (codes ",\"extended_tcode_name\":") (function_name 2) ++ codes ",\"data\":\""
unfolding field code quoted
swap_text =
    let eight : decimal 8 ≡ 56 ∷ [] = decimal_digit 8 (omega arith) in
    let two : decimal 2 ≡ 50 ∷ [] = decimal_digit 2 (omega arith) in
    rw (eight, two) refl

pub old_text : codes ",\"data_length\":4,\"extended_tcode\":2,\"extended_tcode_name\":\"compare_swap\",\"data\":\""
    ≡ field (codes ",\"data_length\":") (decimal 4) ++ code (codes ",\"extended_tcode\":") 2 (codes ",\"extended_tcode_name\":") (function_name 2) ++ codes ",\"data\":\""
unfolding field code quoted
old_text =
    let four : decimal 4 ≡ 52 ∷ [] = decimal_digit 4 (omega arith) in
    let two : decimal 2 ≡ 50 ∷ [] = decimal_digit 2 (omega arith) in
    rw (four, two) refl

-- the function of a compare_swap
abbrev function : List ℕ
function = code (codes ",\"extended_tcode\":") 2 (codes ",\"extended_tcode_name\":") (function_name 2)

-- the size and the function, the digits of the data, and a quotation mark
pub lock_written : (before first second last bytes : List ℕ) (n : ℕ) → length bytes ≡ n
    → first ≡ before ++ (field (codes ",\"data_length\":") (decimal n) ++ function ++ codes ",\"data\":\"")
    → second ≡ first ++ hex_bytes bytes → last ≡ second ++ codes "\"" → last ≡ before ++ lock_fields 2 bytes
unfolding field quoted
lock_written before first second last bytes n count e f g =
    let key : List ℕ = codes ",\"data\":\"" in
    let size : List ℕ = codes ",\"data_length\":" in
    let prefix : List ℕ = (size ++ decimal n) ++ function in
    let digits : List ℕ = hex_bytes bytes in
    let all : last ≡ before ++ (((prefix ++ key) ++ digits) ++ codes "\"") =
    then before second last ((prefix ++ key) ++ digits) (codes "\"") (then before first second (prefix ++ key) digits e f) g in
    all ∙ ap (λ (t : List ℕ). before ++ t) (append_assoc (prefix ++ key) digits (codes "\"") ∙ append_assoc prefix key (digits ++ codes "\""))
    ∙ ap (λ (k : ℕ). before ++ (((size ++ decimal k) ++ function) ++ (key ++ (digits ++ codes "\"")))) (sym count)

-- the key of the data and a quotation mark, the digits, and a quotation mark
pub data_written : (before first second last bytes : List ℕ) → first ≡ before ++ codes ",\"data\":\"" → second ≡ first ++ hex_bytes bytes
    → last ≡ second ++ codes "\"" → last ≡ before ++ field (codes ",\"data\":") (quoted (hex_bytes bytes))
unfolding field quoted
data_written before first second last bytes e f g =
    let key : List ℕ = codes ",\"data\":\"" in
    let digits : List ℕ = hex_bytes bytes in
    then before second last (key ++ digits) (codes "\"") (then before first second key digits e f) g ∙ ap (λ (t : List ℕ). before ++ t) (append_assoc key digits (codes "\""))
