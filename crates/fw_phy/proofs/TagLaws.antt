-- What stands at the beginning of each kind of packet.
use Rattle.std.proofs.Common.{◌≡◌, ℕ, ◌%◌, ◌^◌, ◌≤◌, Bool, None, arith, refl}
use Rattle.std.proofs.lemmas.Bool.Decides.{nat_tests}
use Rattle.fw_words.specs.Quadlet.{field, first_set}
use Rattle.fw_words.proofs.FirstSet.{low_zero, first_set_zero}
use Rattle.fw_phy.specs.declared.packet.SelfId.{SelfId as Self}
use Rattle.fw_phy.specs.declared.packet.SelfIdMore.{SelfIdMore as More}
use Rattle.fw_phy.specs.declared.packet.PhyPacket.{PhyPacket}
use Rattle.fw_phy.specs.declared.packet.PhyPacket.TheVariants.{SelfId, SelfIdMore, Config, LinkOn}
use Rattle.fw_phy.specs.Phy.{reserved_bit, Fits, quadlet_of}

-- if none of the last bits is 1, they are 0
pub low_16 : (q : ℕ) → first_set q 16 16 ≡ None → q % 65536 ≡ 0
low_16 q h = low_zero q 16 16 refl h

pub low_24 : (q : ℕ) → first_set q 8 24 ≡ None → q % 16777216 ≡ 0
low_24 q h = low_zero q 8 24 refl h

-- what stands if the kinds of packet differ
pub tag_self : (s : Self) → Fits (SelfId s) → (field (quadlet_of (SelfId s)) 0 1 ≡ 2) × (field (quadlet_of (SelfId s)) 8 8 ≡ 0)
tag_self s fits = (omega (arith, fits.fields), omega (arith, fits.fields))

pub tag_more : (s : More) → Fits (SelfIdMore s) → (field (quadlet_of (SelfIdMore s)) 0 1 ≡ 2) × (field (quadlet_of (SelfIdMore s)) 8 8 ≡ 1)
tag_more s fits = (omega (arith, fits.fields), omega (arith, fits.fields))

pub zeros_more : (s : More) → Fits (SelfIdMore s) → let q = quadlet_of (SelfIdMore s) in (field q 9 11 ≤ 2) × (field q 12 12 ≡ 0) × (field q 13 13 ≡ 0) × (field q 30 30 ≡ 0)
zeros_more s fits = (omega (arith, fits.fields, fits.shape), omega (arith, fits.fields), omega (arith, fits.fields), omega (arith, fits.fields))

pub tag_config : (root gap : ℕ) (r t : Bool) → Fits (Config root r t gap) → (field (quadlet_of (Config root r t gap)) 0 1 ≡ 0) × (quadlet_of (Config root r t gap) % 2 ^ 16 ≡ 0)
tag_config root gap r t fits = (omega (arith, fits.fields), omega (arith, fits.fields))

pub tag_link_on : (phy : ℕ) → Fits (LinkOn phy) → (field (quadlet_of (LinkOn phy)) 0 1 ≡ 1) × (quadlet_of (LinkOn phy) % 2 ^ 24 ≡ 0)
tag_link_on phy fits = (omega (arith, fits.fields), omega (arith, fits.fields))

-- a quadlet with these fields is a packet
self_goes_on : (q : ℕ) → field q 0 1 ≡ 2 → field q 8 8 ≡ 0 → reserved_bit q ≡ None
self_goes_on q kind clear = grind (arith, nat_tests)

more_goes_on : (q : ℕ) → field q 0 1 ≡ 2 → field q 8 8 ≡ 1 → field q 9 11 ≤ 2 → field q 12 12 ≡ 0 → field q 13 13 ≡ 0 → field q 30 30 ≡ 0 → reserved_bit q ≡ None
more_goes_on q kind one number a b c = grind (arith, nat_tests)

config_goes_on : (q : ℕ) → field q 0 1 ≡ 0 → first_set q 16 16 ≡ None → reserved_bit q ≡ None
config_goes_on q kind none = grind (arith, nat_tests)

link_on_goes_on : (q : ℕ) → field q 0 1 ≡ 1 → first_set q 8 24 ≡ None → reserved_bit q ≡ None
link_on_goes_on q kind none = grind (arith, nat_tests)

pub spelled_none : (p : PhyPacket) → Fits p → reserved_bit (quadlet_of p) ≡ None
spelled_none (SelfId s) fits = let t = tag_self s fits in self_goes_on _ t.0 t.1
spelled_none (SelfIdMore s) fits = let t = tag_more s fits in let z = zeros_more s fits in more_goes_on _ t.0 t.1 z.0 z.1 z.2 z.3
spelled_none (Config root r t gap) fits = let k = tag_config root gap r t fits in config_goes_on _ k.0 (first_set_zero _ 16 16 refl k.1)
spelled_none (LinkOn phy) fits = let k = tag_link_on phy fits in link_on_goes_on _ k.0 (first_set_zero _ 8 24 refl k.1)
