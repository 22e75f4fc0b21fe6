-- The fields of a CIP header, one after another.
use Rattle.std.proofs.Common.{◌≡◌, refl, ap, sym, ◌∙◌, ℕ, Bool, false, List, ◌++◌, codes, decimal}
use Rattle.fw_cip.specs.Iso.{bit}
use Rattle.fw_cip.specs.declared.packet.CipHeader.{CipHeader}
use Rattle.fw_log_names.specs.Names.{format_name}
use Rattle.fw_text.specs.Texts.{hex}
use Rattle.fw_log_json_packets.specs.Values.{field, quoted, name_value}
use Rattle.fw_log_json_packets.specs.Packets.{cip_fields}
use Rattle.fw_log_json_packets.specs.Usual.{IsUsualCip}
use Rattle.fw_log_json_packets.proofs.IsoTexts.{four, three}
use Rattle.fw_log_json_packets.proofs.Joins.{then}

-- how blocks are cut
abbrev sizes_of : ℕ → ℕ → ℕ → Bool → List ℕ
sizes_of size fraction padding header =
    field (codes ",\"dbs\":") (decimal size) ++ field (codes ",\"fn\":") (decimal fraction) ++ field (codes ",\"qpc\":") (decimal padding) ++ field (codes ",\"sph\":") (decimal (bit header))

sizes_are : (h : CipHeader) → IsUsualCip h → sizes_of 120 0 0 false ≡ sizes_of h.dbs h.fraction h.qpc h.sph
sizes_are h is =
    ap (λ (n : ℕ). sizes_of n 0 0 false) (sym is.size) ∙ ap (λ (n : ℕ). sizes_of h.dbs n 0 false) (sym is.fraction)
    ∙ ap (λ (n : ℕ). sizes_of h.dbs h.fraction n false) (sym is.padding) ∙ ap (λ (b : Bool). sizes_of h.dbs h.fraction h.qpc b) (sym is.header)

-- four pieces after what follows a text
four_after : (before text prefix a b c d : List ℕ) → text ≡ before ++ prefix → text ++ (a ++ b ++ c ++ d) ≡ before ++ (prefix ++ a ++ b ++ c ++ d)
four_after before text prefix a b c d e =
    let t1 : text ++ a ≡ before ++ (prefix ++ a) = then before text (text ++ a) prefix a e refl in
    let t2 : text ++ a ++ b ≡ before ++ (prefix ++ a ++ b) = then before (text ++ a) (text ++ a ++ b) (prefix ++ a) b t1 refl in
    let t3 : text ++ a ++ b ++ c ≡ before ++ (prefix ++ a ++ b ++ c) = then before (text ++ a ++ b) (text ++ a ++ b ++ c) (prefix ++ a ++ b) c t2 refl in
    four text a b c d ∙ then before (text ++ a ++ b ++ c) (text ++ a ++ b ++ c ++ d) (prefix ++ a ++ b ++ c) d t3 refl

-- three
three_after : (before text prefix a b c : List ℕ) → text ≡ before ++ prefix → text ++ (a ++ b ++ c) ≡ before ++ (prefix ++ a ++ b ++ c)
three_after before text prefix a b c e =
    let t1 : text ++ a ≡ before ++ (prefix ++ a) = then before text (text ++ a) prefix a e refl in
    let t2 : text ++ a ++ b ≡ before ++ (prefix ++ a ++ b) = then before (text ++ a) (text ++ a ++ b) (prefix ++ a) b t1 refl in
    three text a b c ∙ then before (text ++ a ++ b) (text ++ a ++ b ++ c) (prefix ++ a ++ b) c t2 refl

-- the header of a usual packet
pub cip_written : (before first second third last : List ℕ) (h : CipHeader) → IsUsualCip h → first ≡ before ++ field (codes ",\"sid\":") (decimal h.sid)
    → second ≡ first ++ sizes_of 120 0 0 false → third ≡ second ++ field (codes ",\"dbc\":") (decimal h.dbc)
    → last ≡ third ++ (field (codes ",\"fmt\":") (decimal h.fmt) ++ field (codes ",\"fdf\":") (quoted (hex 6 h.fdf)) ++ field (codes ",\"format_name\":") (name_value (format_name h)))
    → last ≡ before ++ cip_fields h
cip_written before first second third last h is e f g i =
    let sid : List ℕ = field (codes ",\"sid\":") (decimal h.sid) in
    let dbs : List ℕ = field (codes ",\"dbs\":") (decimal h.dbs) in
    let fraction : List ℕ = field (codes ",\"fn\":") (decimal h.fraction) in
    let qpc : List ℕ = field (codes ",\"qpc\":") (decimal h.qpc) in
    let sph : List ℕ = field (codes ",\"sph\":") (decimal (bit h.sph)) in
    let dbc : List ℕ = field (codes ",\"dbc\":") (decimal h.dbc) in
    let cut : second ≡ before ++ (sid ++ dbs ++ fraction ++ qpc ++ sph) =
    f ∙ ap (λ (t : List ℕ). first ++ t) (sizes_are h is) ∙ four_after before first sid dbs fraction qpc sph e in
    let counted : third ≡ before ++ (sid ++ dbs ++ fraction ++ qpc ++ sph ++ dbc) = then before second third (sid ++ dbs ++ fraction ++ qpc ++ sph) dbc cut g in
    i ∙ three_after before third (sid ++ dbs ++ fraction ++ qpc ++ sph ++ dbc) _ _ _ counted
