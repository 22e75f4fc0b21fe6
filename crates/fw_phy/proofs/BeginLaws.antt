-- Packets that begin as a quadlet does: what the first bits of a kind fix, and which kinds have these as their own.
use Rattle.std.proofs.Common.{rules, mul_assoc, mod-lt, ◌≡◌, ◌≢◌, ℕ, zero, suc, ◌+◌, ◌-◌, ◌*◌, ◌/◌, ◌%◌, ◌^◌, ◌≤◌, ◌<◌, ◌==◌, inl, inr, false, Some, None, List, [], ◌∷◌, arith, refl, ap, sym, ◌∙◌}
use Rattle.std.proofs.lemmas.Nat.{mod-pow-add, pow_pos, pow-add, shr-shr, shr_high, shr_split, shl-shr}
use Rattle.std.proofs.lemmas.Bool.{cases_eq}
use Rattle.std.proofs.lemmas.Bool.Decides.{nat_tests}
use Rattle.fw_words.specs.Quadlet.{field, first_set}
use Rattle.fw_words.proofs.FirstSet.{first_set_none, first_set_here, first_set_next}
use Rattle.fw_phy.specs.declared.packet.PhyPacket.{PhyPacket}
use Rattle.fw_phy.specs.declared.packet.PhyPacket.TheVariants.{SelfId, SelfIdMore, Config, LinkOn}
use Rattle.fw_phy.specs.Phy.{Fits, quadlet_of, bit, prefix}
use Rattle.fw_phy.proofs.TagLaws.{tag_self, tag_more, zeros_more, tag_config, tag_link_on}

-- if the first bits are the same, so are the fields within them
pub same_field : (p q at i j : ℕ) → at ≤ 31 → j ≤ at → prefix p (at + 1) ≡ prefix q (at + 1) → field p i j ≡ field q i j
same_field p q at i j within low e =
    let split : 31 - j ≡ (32 - (at + 1)) + (at - j) = omega arith in
    let h : p / 2 ^ (31 - j) ≡ q / 2 ^ (31 - j) = rw (split, ← shr-shr, ← shr-shr) (ap (λ n. n / 2 ^ (at - j)) e) in
    ap (λ n. n % 2 ^ (j - i + 1)) h

-- the first 1 among the bits from a place on
pub record First (q at b : ℕ) : Type 0 where
  pub low : at ≤ b
  pub high : b < 32
  pub set : field q b b ≡ 1
  pub clear : q % 2 ^ (32 - at) / 2 ^ (32 - b) ≡ 0

low_none : (q n : ℕ) → q % 2 ^ n / 2 ^ n ≡ 0
low_none q n = let e : q % 2 ^ n ≡ 0 * 2 ^ n + q % 2 ^ n = omega arith in rw e (shr_high 0 n (q % 2 ^ n) (mod-lt q (pow_pos n)))

pub first_of : (q at n b : ℕ) → at + n ≡ 32 → first_set q at n ≡ Some b → First q at b
first_of q at zero b whole h = let e = first_set_none q at zero refl in absurd (let z : ⊥ = cc in z)
first_of q at (suc n) b whole h = elim (cases_eq (field q at at) 1) [
  | inl one ↦
      let e : at ≡ b = let k = first_set_here q at (suc n) (omega arith) one in cc in
      rw (← e) (record { low = omega arith; high = omega arith; set = one; clear = low_none q (32 - at) })
  | inr other ↦
      let one_less : suc n - 1 ≡ n = omega arith in
      let next : first_set q (at + 1) n ≡ Some b = rw one_less at (sym (first_set_next q at (suc n) (omega arith) other) ∙ h) in
      let w = first_of q (at + 1) n b (omega arith) next in
      let here : 31 - at ≡ n = omega arith in
      let wide : at - at + 1 ≡ 1 = omega arith in
      let bits : 32 - at ≡ 1 + n = omega arith in
      let fewer : 32 - (at + 1) ≡ n = omega arith in
      let clear : q / 2 ^ n % 2 ^ 1 ≢ 1 = rw (here, wide) at other in
      let digit : q / 2 ^ n % 2 ^ 1 ≡ 0 = omega arith in
      let same : q % 2 ^ (1 + n) ≡ q % 2 ^ n = rw (mod-pow-add q 1 n, digit) (omega arith) in
      let low = w.low in
      record { low = omega arith; high = w.high; set = w.set; clear = rw (bits, same) (rw fewer at w.clear) }
]

-- if none of the bits is 1, this one is not
pub none_set : (q at n b : ℕ) → first_set q at n ≡ None → at ≤ b → b < at + n → field q b b ≢ 1
none_set q at zero b h low high one = absurd (let z : ⊥ = omega arith in z)
none_set q at (suc n) b h low high one = elim (cases_eq (field q at at) 1) [
  | inl set ↦ let k = first_set_here q at (suc n) (omega arith) set in cc
  | inr other ↦
      let one_less : suc n - 1 ≡ n = omega arith in
      let next : first_set q (at + 1) n ≡ None = rw one_less at (sym (first_set_next q at (suc n) (omega arith) other) ∙ h) in
      elim (cases_eq at b) [
        | inl same ↦ other (rw same one)
        | inr differ ↦ none_set q (at + 1) n b next (omega arith) (omega arith) one
      ]
]

-- what is cleared from a place on begins as before, up to the first 1 that was cleared
pub same_prefix : (q at b : ℕ) → at ≤ b → b < 32 → q % 2 ^ (32 - at) / 2 ^ (32 - b) ≡ 0 → q / 2 ^ (32 - at) * 2 ^ (32 - at) / 2 ^ (32 - b) ≡ q / 2 ^ (32 - b)
same_prefix q at b low high clear =
    let k = q / 2 ^ (32 - at) in
    let r = q % 2 ^ (32 - at) in
    let width : 32 - at ≡ (b - at) + (32 - b) = omega arith in
    let power : 2 ^ (32 - at) ≡ 2 ^ (b - at) * 2 ^ (32 - b) = ap (λ n. 2 ^ n) width ∙ pow-add 2 (b - at) (32 - b) in
    let high_part : k * 2 ^ (32 - at) ≡ k * 2 ^ (b - at) * 2 ^ (32 - b) = ap (λ n. k * n) power ∙ sym (mul_assoc k (2 ^ (b - at)) (2 ^ (32 - b))) in
    let whole : q ≡ k * 2 ^ (b - at) * 2 ^ (32 - b) + r = sym (shr_split q (32 - at)) ∙ ap (λ n. n + r) high_part in
    let small : r < 2 ^ (32 - b) = let s = shr_split r (32 - b) in let l = mod-lt r (pow_pos (32 - b)) in let z : r / 2 ^ (32 - b) * 2 ^ (32 - b) ≡ 0 = rw clear (omega arith) in omega arith in
    ap (λ n. n / 2 ^ (32 - b)) high_part ∙ (shl-shr (k * 2 ^ (b - at)) (32 - b) ∙ sym (ap (λ n. n / 2 ^ (32 - b)) whole ∙ shr_high (k * 2 ^ (b - at)) (32 - b) r small))

-- what the kinds' quadlets have
pub kind_low : (p : PhyPacket) → Fits p → field (quadlet_of p) 0 1 ≤ 2
kind_low (SelfId s) f = let t = tag_self s f in omega (arith, t.0)
kind_low (SelfIdMore s) f = let t = tag_more s f in omega (arith, t.0)
kind_low (Config a b c d) f = let t = tag_config a d b c f in omega (arith, t.0)
kind_low (LinkOn x) f = let t = tag_link_on x f in omega (arith, t.0)

pub of_config : (p : PhyPacket) → Fits p → field (quadlet_of p) 0 1 ≡ 0 → quadlet_of p % 2 ^ 16 ≡ 0
of_config (SelfId s) f k = absurd (let t = tag_self s f in let z : ⊥ = omega (arith, t.0) in z)
of_config (SelfIdMore s) f k = absurd (let t = tag_more s f in let z : ⊥ = omega (arith, t.0) in z)
of_config (Config a b c d) f k = (tag_config a d b c f).1
of_config (LinkOn x) f k = absurd (let t = tag_link_on x f in let z : ⊥ = omega (arith, t.0) in z)

pub of_link_on : (p : PhyPacket) → Fits p → field (quadlet_of p) 0 1 ≡ 1 → quadlet_of p % 2 ^ 24 ≡ 0
of_link_on (SelfId s) f k = absurd (let t = tag_self s f in let z : ⊥ = omega (arith, t.0) in z)
of_link_on (SelfIdMore s) f k = absurd (let t = tag_more s f in let z : ⊥ = omega (arith, t.0) in z)
of_link_on (Config a b c d) f k = absurd (let t = tag_config a d b c f in let z : ⊥ = omega (arith, t.0) in z)
of_link_on (LinkOn x) f k = (tag_link_on x f).1

pub record MoreZeros (q : ℕ) : Type 0 where
  pub number : field q 9 11 ≤ 2
  pub first : field q 12 12 ≡ 0
  pub second : field q 13 13 ≡ 0
  pub third : field q 30 30 ≡ 0

pub of_more : (p : PhyPacket) → Fits p → field (quadlet_of p) 0 1 ≡ 2 → field (quadlet_of p) 8 8 ≡ 1 → MoreZeros (quadlet_of p)
of_more (SelfId s) f k l = absurd (let t = tag_self s f in let z : ⊥ = omega (arith, t.1) in z)
of_more (SelfIdMore s) f k l = let z = zeros_more s f in record { number = z.0; first = z.1; second = z.2; third = z.3 }
of_more (Config a b c d) f k l = absurd (let t = tag_config a d b c f in let z : ⊥ = omega (arith, t.0) in z)
of_more (LinkOn x) f k l = absurd (let t = tag_link_on x f in let z : ⊥ = omega (arith, t.0) in z)

bit_of : (x : ℕ) → x < 2 → bit (x == 1) ≡ x
bit_of x h = grind (arith, nat_tests)

-- a packet that begins as the quadlet does
pub config_at : ℕ → PhyPacket
config_at q = Config (field q 2 7) (field q 8 8 == 1) (field q 9 9 == 1) (field q 10 15)

pub config_fits : (q : ℕ) → Fits (config_at q)
unfolding config_at
config_fits q =
    let r : bit (field q 8 8 == 1) ≡ field q 8 8 = bit_of (field q 8 8) (omega arith) in
    let t : bit (field q 9 9 == 1) ≡ field q 9 9 = bit_of (field q 9 9) (omega arith) in
    record {
      fields = (omega arith, omega arith, (omega arith, omega arith, (omega arith, omega arith, (omega arith, omega arith, (omega arith, omega arith, (omega arith, omega arith, tt))))));
      shape = tt;
    }

pub config_is : (q : ℕ) → q < 2 ^ 32 → field q 0 1 ≡ 0 → quadlet_of (config_at q) ≡ q / 2 ^ (32 - 16) * 2 ^ (32 - 16)
unfolding config_at
config_is q small kind =
    let r : bit (field q 8 8 == 1) ≡ field q 8 8 = bit_of (field q 8 8) (omega arith) in
    let t : bit (field q 9 9 == 1) ≡ field q 9 9 = bit_of (field q 9 9) (omega arith) in
    omega arith

pub link_on_is : (q : ℕ) → q < 2 ^ 32 → field q 0 1 ≡ 1 → quadlet_of (LinkOn (field q 2 7)) ≡ q / 2 ^ (32 - 8) * 2 ^ (32 - 8)
link_on_is q small kind = omega arith

pub link_on_fits : (q : ℕ) → Fits (LinkOn (field q 2 7))
link_on_fits q = record { fields = (omega arith, omega arith, (omega arith, omega arith, (omega arith, omega arith, tt))); shape = tt }

no_ports : List ℕ
no_ports = 0 ∷ 0 ∷ 0 ∷ 0 ∷ 0 ∷ 0 ∷ 0 ∷ 0 ∷ []

-- an extended self-ID packet without ports
pub more_at : ℕ → ℕ → PhyPacket
more_at q n = SelfIdMore (record { phy = field q 2 7; number = n; ports = no_ports; more = false })

pub more_fits : (q n : ℕ) → n ≤ 2 → Fits (more_at q n)
unfolding more_at no_ports
more_fits q n low = record { fields = search rules; shape = (refl, low) }

pub more_is : (q n : ℕ) → n ≤ 2 → quadlet_of (more_at q n) ≡ (((2 * 64 + field q 2 7) * 2 + 1) * 8 + n) * 1048576
unfolding more_at no_ports
more_is q n low = omega arith

-- an extended self-ID packet with the ports of the quadlet
ports_at : ℕ → List ℕ
ports_at q = field q 14 15 ∷ field q 16 17 ∷ field q 18 19 ∷ field q 20 21 ∷ field q 22 23 ∷ field q 24 25 ∷ field q 26 27 ∷ field q 28 29 ∷ []

pub whole_at : ℕ → PhyPacket
whole_at q = SelfIdMore (record { phy = field q 2 7; number = field q 9 11; ports = ports_at q; more = false })

pub whole_fits : (q : ℕ) → field q 9 11 ≤ 2 → Fits (whole_at q)
unfolding whole_at ports_at
whole_fits q low = record { fields = search rules; shape = (refl, low) }

pub whole_is : (q : ℕ) → q < 2 ^ 32 → field q 0 1 ≡ 2 → field q 8 8 ≡ 1 → field q 9 11 ≤ 2 → field q 12 12 ≡ 0 → field q 13 13 ≡ 0 → quadlet_of (whole_at q) / 4 ≡ q / 4
unfolding whole_at ports_at
whole_is q small kind one low a b = omega arith

-- a self-ID packet of nothing but zeros
pub zeros : PhyPacket
zeros = SelfId (record { phy = 0; link = false; gap = 0; speed = 0; delay = 0; contender = false; power = 0; ports = 0 ∷ 0 ∷ 0 ∷ []; initiator = false; more = false })

pub zeros_fits : Fits zeros
unfolding zeros
zeros_fits = record { fields = search rules; shape = refl }

pub zeros_is : quadlet_of zeros ≡ 2147483648
unfolding zeros
zeros_is = refl
