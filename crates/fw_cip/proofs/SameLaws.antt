-- One list of bytes is of one packet, and no packet's bytes begin with another's.
use Rattle.std.proofs.Common.{◌≡◌, ℕ, List, [], ◌++◌, Bool, Option, Some, None, IfSome, length, get_or, drop, arith, refl, ap, sym, ◌∙◌, append_assoc, length-append}
use Rattle.std.proofs.lemmas.List.{append-nil, nil_from_length}
use Rattle.fw_words.specs.Quadlet.{quadlet_at}
use Rattle.fw_words.specs.Layout.{packed, values}
use Rattle.fw_words.proofs.LayoutLaws.{packed-same}
use Rattle.fw_cip.specs.declared.packet.CipHeader.{CipHeader}
use Rattle.fw_cip.specs.declared.packet.IsoPacket.{IsoPacket}
use Rattle.fw_cip.specs.Iso.{bit, three, spelling, block_bytes, data_length, header_layout, first_layout, second_layout, Fits, IsBlock}
use Rattle.fw_cip.proofs.SpelledLaws.{heads, header_below, first_below, second_below}

same_bit : (a b : Bool) → bit a ≡ bit b → a ≡ b
same_bit a b e = grind arith

cip : ℕ → ℕ → ℕ → ℕ → Bool → ℕ → ℕ → ℕ → CipHeader
cip a b c d e f g h = record { sid = a; dbs = b; fraction = c; qpc = d; sph = e; dbc = f; fmt = g; fdf = h }

cip_of : (c : CipHeader) → c ≡ cip c.sid c.dbs c.fraction c.qpc c.sph c.dbc c.fmt c.fdf
unfolding cip
cip_of c = refl

same_cip : (c d : CipHeader) → first_layout c ≡ first_layout d → second_layout c ≡ second_layout d → c ≡ d
same_cip c d first second =
    let at = λ (i : ℕ). ap (λ fs. get_or (values fs) i 0) first in
    let following = λ (i : ℕ). ap (λ fs. get_or (values fs) i 0) second in
    let sid : c.sid ≡ d.sid = at 1 in
    let dbs : c.dbs ≡ d.dbs = at 2 in
    let fraction : c.fraction ≡ d.fraction = at 3 in
    let qpc : c.qpc ≡ d.qpc = at 4 in
    let sph : c.sph ≡ d.sph = same_bit _ _ (at 5) in
    let dbc : c.dbc ≡ d.dbc = at 7 in
    let fmt : c.fmt ≡ d.fmt = following 1 in
    let fdf : c.fdf ≡ d.fdf = following 2 in
    cc (cip_of c, cip_of d)

iso : ℕ → ℕ → CipHeader → Option (List ℕ) → IsoPacket
iso channel sy header block = record { channel = channel; sy = sy; cip = header; block = block }

iso_of : (p : IsoPacket) → p ≡ iso p.channel p.sy p.cip p.block
unfolding iso
iso_of p = refl

-- what stands after the headers
following : (a b c : ℕ) (rest : List ℕ) → drop 12 (three a b c ++ rest) ≡ rest
unfolding three
following a b c rest = refl

same_block : (x y : Option (List ℕ)) (more : List ℕ) → data_length x ≡ data_length y → IfSome x IsBlock → IfSome y IsBlock → block_bytes y ≡ block_bytes x ++ more → (y ≡ x) × (more ≡ [])
same_block None None more n f g e = (refl, sym e)
same_block None (Some b) more n f g e = absurd (omega arith)
same_block (Some a) None more n f g e = absurd (omega arith)
same_block (Some a) (Some b) more n f g e =
    let none : more ≡ [] = nil_from_length more (omega (arith, f.size, g.size, ap length e, length-append a more)) in
    (ap Some (e ∙ ap (λ m. a ++ m) none ∙ append-nil a), none)

pub spelled_alone : (p q : IsoPacket) (more : List ℕ) → Fits p → Fits q → spelling q ≡ spelling p ++ more → (q ≡ p) × (more ≡ [])
spelled_alone p q more f g e =
    let a = packed (header_layout p) 0 in
    let b = packed (first_layout p.cip) 0 in
    let c = packed (second_layout p.cip) 0 in
    let whole : spelling q ≡ three a b c ++ (block_bytes p.block ++ more) = e ∙ append_assoc (three a b c) (block_bytes p.block) more in
    let h = heads a b c (block_bytes p.block ++ more) (header_below p f.header) (first_below p.cip f.first) (second_below p.cip f.second) in
    let k = heads _ _ _ (block_bytes q.block) (header_below q g.header) (first_below q.cip g.first) (second_below q.cip g.second) in
    let first : a ≡ packed (header_layout q) 0 = sym h.first ∙ ap (λ s. quadlet_at s 0) (sym whole) ∙ k.first in
    let second : b ≡ packed (first_layout q.cip) 0 = sym h.second ∙ ap (λ s. quadlet_at s 4) (sym whole) ∙ k.second in
    let third : c ≡ packed (second_layout q.cip) 0 = sym h.third ∙ ap (λ s. quadlet_at s 8) (sym whole) ∙ k.third in
    let header = (packed-same (header_layout p) (header_layout q) 0 0 refl f.header g.header first).fields in
    let at = λ (i : ℕ). ap (λ fs. get_or (values fs) i 0) header in
    let cips : p.cip ≡ q.cip =
    same_cip p.cip q.cip (packed-same (first_layout p.cip) (first_layout q.cip) 0 0 refl f.first g.first second).fields
    (packed-same (second_layout p.cip) (second_layout q.cip) 0 0 refl f.second g.second third).fields in
    let rest : block_bytes q.block ≡ block_bytes p.block ++ more = sym (following _ _ _ (block_bytes q.block)) ∙ ap (drop 12) whole ∙ following a b c (block_bytes p.block ++ more) in
    let blocks = same_block p.block q.block more (at 0) f.block g.block rest in
    let channel : p.channel ≡ q.channel = at 2 in
    let sy : p.sy ≡ q.sy = at 4 in
    let block : q.block ≡ p.block = blocks.0 in
    let same : q ≡ p = cc (iso_of p, iso_of q) in
    (same, blocks.1)

pub same_packet : (p q : IsoPacket) → Fits p → Fits q → spelling p ≡ spelling q → p ≡ q
same_packet p q f g e = (spelled_alone q p [] g f (e ∙ sym (append-nil (spelling q)))).0
