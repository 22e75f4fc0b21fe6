-- The texts of isochronous packets that are put together beforehand.
use Rattle.std.proofs.Common.{◌≡◌, refl, ap, sym, ◌∙◌, ℕ, ◌+◌, ◌/◌, ◌%◌, ◌≤◌, ◌<◌, List, [], ◌∷◌, ◌++◌, Some, codes, decimal, arith, append_assoc}
use Rattle.std.proofs.lemmas.Fmt.{decimal_digit, decimal_step}
use Rattle.fw_text.proofs.DecimalLaws.{two_digits}
use Rattle.fw_cip.specs.declared.packet.CipHeader.{CipHeader}
use Rattle.fw_log_names.specs.Names.{format_name}
use Rattle.fw_text.specs.Texts.{hex}
use Rattle.fw_log_json_packets.specs.Values.{field, quoted, code, name_value}
use Rattle.fw_log_json_packets.proofs.Joins.{longer_text}

-- the digits of a number of three
pub three_digits : (n : ℕ) → 100 ≤ n → n < 1000 → decimal n ≡ (48 + n / 100) ∷ (48 + n / 10 % 10) ∷ (48 + n % 10) ∷ []
three_digits n more less =
    let prefix : decimal (n / 10) ≡ (48 + n / 100) ∷ (48 + n / 10 % 10) ∷ [] =
    two_digits (n / 10) (omega arith) (omega arith) ∙ ap (λ (d : ℕ). (48 + d) ∷ (48 + n / 10 % 10) ∷ []) (let e : n / 10 / 10 ≡ n / 100 = omega arith in e) in
    decimal_step n (omega arith) (omega arith) ∙ ap (λ (d : List ℕ). d ++ (48 + n % 10) ∷ []) prefix

dbs_digits : decimal 120 ≡ 49 ∷ 50 ∷ 48 ∷ []
dbs_digits = decimal_step 120 (omega arith) (omega arith) ∙ ap (λ (d : List ℕ). d ++ 48 ∷ []) (two_digits 12 (omega arith) (omega arith))

length_digits : decimal 488 ≡ 52 ∷ 56 ∷ 56 ∷ []
length_digits = decimal_step 488 (omega arith) (omega arith) ∙ ap (λ (d : List ℕ). d ++ 56 ∷ []) (two_digits 48 (omega arith) (omega arith))

-- a packet with a block
pub long_opening : codes ",\"data_length\":488,\"tag\":1" ≡ field (codes ",\"data_length\":") (decimal 488) ++ field (codes ",\"tag\":") (decimal 1)
unfolding field
long_opening =
    let one : decimal 1 ≡ 49 ∷ [] = decimal_digit 1 (omega arith) in
    rw (length_digits, one) refl

-- a packet without one
pub short_opening : codes ",\"data_length\":8,\"tag\":1" ≡ field (codes ",\"data_length\":") (decimal 8) ++ field (codes ",\"tag\":") (decimal 1)
unfolding field
short_opening =
    let eight : decimal 8 ≡ 56 ∷ [] = decimal_digit 8 (omega arith) in
    let one : decimal 1 ≡ 49 ∷ [] = decimal_digit 1 (omega arith) in
    rw (eight, one) refl

-- four pieces after a text
pub four : (t a b c d : List ℕ) → t ++ (a ++ b ++ c ++ d) ≡ t ++ a ++ b ++ c ++ d
four t a b c d = sym (append_assoc t (a ++ b ++ c) d) ∙ ap (λ (x : List ℕ). x ++ d) (sym (append_assoc t (a ++ b) c) ∙ ap (λ (x : List ℕ). x ++ c) (sym (append_assoc t a b)))

pub usual_pieces : codes ",\"dbs\":120,\"fn\":0,\"qpc\":0,\"sph\":0"
    ≡ field (codes ",\"dbs\":") (decimal 120) ++ field (codes ",\"fn\":") (decimal 0) ++ field (codes ",\"qpc\":") (decimal 0) ++ field (codes ",\"sph\":") (decimal 0)
unfolding field
usual_pieces =
    let none : decimal 0 ≡ 48 ∷ [] = decimal_digit 0 (omega arith) in
    rw (dbs_digits, none) refl

-- how the blocks of SD-DVCR are cut
pub usual_sizes : (before last : List ℕ) → last ≡ before ++ codes ",\"dbs\":120,\"fn\":0,\"qpc\":0,\"sph\":0"
    → last ≡ before ++ field (codes ",\"dbs\":") (decimal 120) ++ field (codes ",\"fn\":") (decimal 0) ++ field (codes ",\"qpc\":") (decimal 0) ++ field (codes ",\"sph\":") (decimal 0)
usual_sizes before last e = e ∙ ap (λ (t : List ℕ). before ++ t) usual_pieces ∙ four before _ _ _ _

-- the transaction code and its name
pub iso_code : (before last : List ℕ) → last ≡ before ++ codes ",\"tcode\":10,\"tcode_name\":\"iso_data\""
    → last ≡ before ++ code (codes ",\"tcode\":") 10 (codes ",\"tcode_name\":") (Some (codes "iso_data"))
iso_code before last e = longer_text before last (codes ",\"tcode\":") 10 (codes ",\"tcode_name\":") (codes "iso_data") (omega arith) (omega arith) e

-- three pieces after a text
pub three : (t a b c : List ℕ) → t ++ (a ++ b ++ c) ≡ t ++ a ++ b ++ c
three t a b c = sym (append_assoc t (a ++ b) c) ∙ ap (λ (x : List ℕ). x ++ c) (sym (append_assoc t a b))

pub pieces_525 : (h : CipHeader) → h.fmt ≡ 0 → h.fdf ≡ 65535 → codes ",\"fmt\":0,\"fdf\":\"00ffff\",\"format_name\":\"SD-DVCR 525-60\""
    ≡ field (codes ",\"fmt\":") (decimal h.fmt) ++ field (codes ",\"fdf\":") (quoted (hex 6 h.fdf)) ++ field (codes ",\"format_name\":") (name_value (format_name h))
unfolding field quoted hex
pieces_525 h e f =
    let none : decimal 0 ≡ 48 ∷ [] = decimal_digit 0 (omega arith) in
    rw (e, f, none) refl

pub pieces_625 : (h : CipHeader) → h.fmt ≡ 0 → h.fdf ≡ 8454143 → codes ",\"fmt\":0,\"fdf\":\"80ffff\",\"format_name\":\"SD-DVCR 625-50\""
    ≡ field (codes ",\"fmt\":") (decimal h.fmt) ++ field (codes ",\"fdf\":") (quoted (hex 6 h.fdf)) ++ field (codes ",\"format_name\":") (name_value (format_name h))
unfolding field quoted hex
pieces_625 h e f =
    let none : decimal 0 ≡ 48 ∷ [] = decimal_digit 0 (omega arith) in
    rw (e, f, none) refl

-- SD-DVCR with 525 lines, and no time stamp
pub untimed_525 : (before last : List ℕ) (h : CipHeader) → h.fmt ≡ 0 → h.fdf ≡ 65535
    → last ≡ before ++ codes ",\"fmt\":0,\"fdf\":\"00ffff\",\"format_name\":\"SD-DVCR 525-60\""
    → last ≡ before ++ field (codes ",\"fmt\":") (decimal h.fmt) ++ field (codes ",\"fdf\":") (quoted (hex 6 h.fdf)) ++ field (codes ",\"format_name\":") (name_value (format_name h))
untimed_525 before last h e f g = g ∙ ap (λ (t : List ℕ). before ++ t) (pieces_525 h e f) ∙ three before _ _ _

-- with 625 lines
pub untimed_625 : (before last : List ℕ) (h : CipHeader) → h.fmt ≡ 0 → h.fdf ≡ 8454143
    → last ≡ before ++ codes ",\"fmt\":0,\"fdf\":\"80ffff\",\"format_name\":\"SD-DVCR 625-50\""
    → last ≡ before ++ field (codes ",\"fmt\":") (decimal h.fmt) ++ field (codes ",\"fdf\":") (quoted (hex 6 h.fdf)) ++ field (codes ",\"format_name\":") (name_value (format_name h))
untimed_625 before last h e f g = g ∙ ap (λ (t : List ℕ). before ++ t) (pieces_625 h e f) ∙ three before _ _ _
