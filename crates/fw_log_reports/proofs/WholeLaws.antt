-- The self-ID packets of a bus reset's body, and what stands in the body.
use Rattle.std.proofs.Common.{◌≡◌, ℕ, zero, suc, ◌+◌, ◌*◌, ◌<◌, List, [], ◌∷◌, ◌++◌, get_or, flat_map, length, take, drop, arith, refl, ap, sym, ◌∙◌}
use Rattle.std.proofs.lemmas.List.{take_at}
use Rattle.std.proofs.Math.Seq.{drop-append-add}
use Rattle.fw_phy.specs.Phy.{spelling}
use Rattle.fw_phy.specs.declared.packet.PhyPacket.{PhyPacket}
use Rattle.fw_log.specs.Bodies.{AreIds, ids_at}
use Rattle.fw_log.proofs.ResetLaws.{BodyHas, body_has, shape_of}
use Rattle.fw_log_text.specs.Resets.{IsResetBody}

-- the packet at a place
spelled : (ids : List PhyPacket) (i : ℕ) (d : PhyPacket) → i < length ids → take 8 (drop (8 * i) (flat_map spelling ids)) ≡ spelling (get_or ids i d)
spelled [] i d h = absurd (omega (arith, h))
spelled (p ∷ ps) zero d h = take_at (spelling p) (flat_map spelling ps) 8 refl
spelled (p ∷ ps) (suc i) d h =
    let n : 8 * suc i ≡ 8 + 8 * i = omega arith in
    ap (λ (k : ℕ). take 8 (drop k (spelling p ++ flat_map spelling ps))) n ∙ ap (λ (t : List ℕ). take 8 t) (drop-append-add (spelling p) (flat_map spelling ps) (8 * i))
    ∙ spelled ps i d (omega (arith, h))

pub spelled_at : (all : List PhyPacket) (bytes rest : List ℕ) (i : ℕ) (d : PhyPacket) → AreIds all bytes → i < length all → rest ≡ drop (8 * i) bytes → take 8 rest ≡ spelling (get_or all i d)
spelled_at all bytes rest i d h within e =
    ap (λ (t : List ℕ). take 8 t) (e ∙ ap (λ (b : List ℕ). drop (8 * i) b) (sym h.same)) ∙ spelled all i d within

-- what the body of some reset has
pub has : (bytes : List ℕ) (x : IsResetBody bytes) → BodyHas x.reset bytes
has bytes x = body_has x.reset bytes (shape_of x.reset x.fits) x.same

pub are_ids : (bytes rest : List ℕ) (x : IsResetBody bytes) → rest ≡ drop (ids_at bytes) bytes → AreIds x.reset.ids rest
are_ids bytes rest x e = record { fits = x.fits.packets; same = sym (e ∙ (has bytes x).ids) }
