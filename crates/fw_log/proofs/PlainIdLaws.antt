-- The self-ID packet that a quadlet is, if it is the one that comes next.
use Rattle.fw_log.proofs.Common.{◌≡◌, ℕ, ◌+◌, ◌-◌, ◌*◌, ◌/◌, ◌^◌, ◌≤◌, ◌<◌, List, [], ◌∷◌, ◌==◌, ◌&&◌, Bool, true, Some, None, Option, arith, refl, ap, sym, subst, ◌∙◌, if◌then◌else◌, nat_tests}
use Rattle.fw_log.proofs.Common.{field, packed, PhyPacket, are_ids}
use Rattle.std.proofs.Common.{suc, ◌%◌}
use Rattle.fw_words.specs.Layout.{cut, FitWidths}
use Rattle.fw_words.proofs.LayoutLaws.{packed-cut, cut-fits}
use Rattle.fw_phy.specs.Phy.{bit, layout, Fits, quadlet_of}
use Rattle.fw_phy.specs.SelfIds.{begins_self_id}
use Rattle.fw_phy.specs.declared.packet.PhyPacket.TheVariants.{SelfId, SelfIdMore}
use Rattle.fw_log.specs.Plain.{next_by, GoesOnBy}
use Rattle.fw_log.specs.declared.plain_reset.Turn.{Turn}
use Rattle.fw_log.proofs.TestLaws.{equal, equals, differs, positive, both, both_by, either, passed, chosen, other}

-- the packet of each form that the fields of a quadlet are
abbrev zero_at : ℕ → PhyPacket
zero_at q = SelfId (record {
  phy = field q 2 7;
  link = field q 9 9 == 1;
  gap = field q 10 15;
  speed = field q 16 17;
  delay = field q 18 19;
  contender = field q 20 20 == 1;
  power = field q 21 23;
  ports = field q 24 25 ∷ field q 26 27 ∷ field q 28 29 ∷ [];
  initiator = field q 30 30 == 1;
  more = field q 31 31 == 1;
})

abbrev more_at : ℕ → PhyPacket
more_at q = SelfIdMore (record {
  phy = field q 2 7;
  number = field q 9 11;
  ports = field q 14 15 ∷ field q 16 17 ∷ field q 18 19 ∷ field q 20 21 ∷ field q 22 23 ∷ field q 24 25 ∷ field q 26 27 ∷ field q 28 29 ∷ [];
  more = field q 31 31 == 1;
})

abbrev zero_widths : List ℕ
zero_widths = 2 ∷ 6 ∷ 1 ∷ 1 ∷ 6 ∷ 2 ∷ 2 ∷ 1 ∷ 3 ∷ 2 ∷ 2 ∷ 2 ∷ 1 ∷ 1 ∷ []

abbrev more_widths : List ℕ
more_widths = 2 ∷ 6 ∷ 1 ∷ 3 ∷ 2 ∷ 2 ∷ 2 ∷ 2 ∷ 2 ∷ 2 ∷ 2 ∷ 2 ∷ 2 ∷ 1 ∷ 1 ∷ []

one_bit : (n : ℕ) → bit (n % 2 == 1) ≡ n % 2
one_bit n = by (n % 2) (omega arith)
  where
    by : (m : ℕ) → m < 2 → bit (m == 1) ≡ m
    by m less = grind (arith, nat_tests)

zero_cut : (q : ℕ) → field q 0 1 ≡ 2 → field q 8 8 ≡ 0 → layout (zero_at q) ≡ cut q 0 zero_widths
zero_cut q kind first = cc (kind, first, one_bit (q / 4194304), one_bit (q / 2048), one_bit (q / 2), one_bit (q / 1))

more_cut : (q : ℕ) → field q 0 1 ≡ 2 → field q 8 8 ≡ 1 → field q 12 13 ≡ 0 → field q 30 30 ≡ 0 → layout (more_at q) ≡ cut q 0 more_widths
more_cut q kind first zeros last = cc (kind, first, zeros, last, one_bit (q / 1))

record IsAt (p : PhyPacket) (q : ℕ) : Type 0 where
  pub fits : Fits p
  pub same : quadlet_of p ≡ q

zero_is : (q : ℕ) → q < 2 ^ 32 → field q 0 1 ≡ 2 → field q 8 8 ≡ 0 → IsAt (zero_at q) q
zero_is q small kind first =
    let e = zero_cut q kind first in
    let none : 0 ≡ q / 4294967296 = omega arith in
    record {
      fits = record { fields = subst FitWidths (sym e) (cut-fits q 0 zero_widths refl); shape = refl };
      same = ap (λ fs. packed fs 0) e ∙ packed-cut q 0 0 zero_widths refl refl none;
    }

more_is : (q : ℕ) → q < 2 ^ 32 → field q 0 1 ≡ 2 → field q 8 8 ≡ 1 → field q 9 11 ≤ 2 → field q 12 13 ≡ 0 → field q 30 30 ≡ 0 → IsAt (more_at q) q
more_is q small kind first low zeros last =
    let e = more_cut q kind first zeros last in
    let none : 0 ≡ q / 4294967296 = omega arith in
    record {
      fits = record { fields = subst FitWidths (sym e) (cut-fits q 0 more_widths refl); shape = (refl, low) };
      same = ap (λ fs. packed fs 0) e ∙ packed-cut q 0 0 more_widths refl refl none;
    }

-- what the tested bits say
zero_bits : (q node : ℕ) → node < 64 → field q 0 8 ≡ 256 + 2 * node → (field q 0 1 ≡ 2) × (field q 2 7 ≡ node) × (field q 8 8 ≡ 0)
zero_bits q node small e = (omega arith, omega arith, omega arith)

more_bits : (q node number : ℕ) → node < 64 → number ≤ 2 → field q 0 13 ≡ 8224 + 64 * node + 4 * number
    → (field q 0 1 ≡ 2) × (field q 2 7 ≡ node) × (field q 8 8 ≡ 1) × (field q 9 11 ≡ number) × (field q 12 13 ≡ 0)
more_bits q node number small few e = (omega arith, omega arith, omega arith, omega arith, omega arith)

-- The quadlet is that of the packet that comes next; its last bit says whether one more of its node follows.
record Comes (q node met : ℕ) : Type 0 where
  pub packet : PhyPacket
  pub fits : Fits packet
  pub same : quadlet_of packet ≡ q
  pub goes : (ps : List PhyPacket) (n : ℕ)
      → are_ids node (next_by met) (packet ∷ ps) n ≡ (if field q 31 31 == 1 then are_ids node (next_by (met + 1)) ps n else are_ids (node + 1) None ps n)

goes_by : (a m : Bool) (node met n : ℕ) (o : Option ℕ) (ps : List PhyPacket) → a ≡ true → o ≡ next_by (met + 1)
    → (a && (if m then are_ids node o ps n else are_ids (node + 1) None ps n))
    ≡ (if m then are_ids node (next_by (met + 1)) ps n else are_ids (node + 1) None ps n)
goes_by a m node met n o ps e f =
    passed a _ e ∙ ap (λ p. if m then are_ids node p ps n else are_ids (node + 1) None ps n) f

zero_comes : (q node met : ℕ) → q < 2 ^ 32 → node < 64 → met ≡ 0 → field q 0 8 ≡ 256 + 2 * node → Comes q node met
zero_comes q node met small few none bits =
    let b = zero_bits q node few bits in
    let p = zero_is q small b.0 b.2 in
    let one : 1 ≡ met + 1 = omega arith in
    record {
      packet = zero_at q;
      fits = p.fits;
      same = p.same;
      goes = λ ps n. ap (λ m. are_ids node (next_by m) (zero_at q ∷ ps) n) none
          ∙ goes_by (field q 2 7 == node) (field q 31 31 == 1) node met n (Some 0) ps (equals _ _ b.1) (ap next_by one);
    }

more_comes : (q node met : ℕ) → q < 2 ^ 32 → node < 64 → 0 < met → met ≤ 3
    → field q 0 13 ≡ 8224 + 64 * node + 4 * (met - 1) → field q 30 30 ≡ 0 → Comes q node met
more_comes q node met small few some most bits last =
    let b = more_bits q node (met - 1) few (omega arith) bits in
    let p = more_is q small b.0 b.2 (omega (arith, b.3)) b.4 last in
    let this : met ≡ suc (met - 1) = omega arith in
    let next : suc (met - 1 + 1) ≡ met + 1 = omega arith in
    record {
      packet = more_at q;
      fits = p.fits;
      same = p.same;
      goes = λ ps n. ap (λ m. are_ids node (next_by m) (more_at q ∷ ps) n) this
          ∙ goes_by ((field q 2 7 == node) && (field q 9 11 == met - 1)) (field q 31 31 == 1) node met n (Some (met - 1 + 1)) ps
          (both_by _ _ (equals _ _ b.1) (equals _ _ b.3)) (ap next_by next);
    }

abbrev turn : ℕ → ℕ → Turn
turn node met = record { node = node; met = met }

comes : (q node met : ℕ) → q < 2 ^ 32 → node < 64 → met ≤ 3 → begins_self_id q node met ≡ true → Comes q node met
comes q node met small few most h =
    either (met == 0) _ _ h (λ e s. zero_comes q node met small few (equal _ _ e) (equal _ _ s)) (λ o s.
    let t = both _ _ s in
    more_comes q node met small few (positive met o) most (equal _ _ t.first) (equal _ _ t.second))

-- after the packet that comes next, one more of its node, or one of the next node
pub goes_more : (q node met : ℕ) → q < 2 ^ 32 → node < 64 → met ≤ 3 → begins_self_id q node met ≡ true → field q 31 31 ≡ 1
    → GoesOnBy q (turn node met) (turn node (met + 1))
goes_more q node met small few most h flag =
    let c = comes q node met small few most h in
    record { packet = c.packet; fits = c.fits; same = c.same; goes = λ ps n. c.goes ps n ∙ chosen _ _ _ (equals _ _ flag); few = omega arith }

pub goes_on : (q node met : ℕ) → q < 2 ^ 32 → node < 64 → met ≤ 3 → begins_self_id q node met ≡ true → (field q 31 31 ≡ 1 → ⊥)
    → GoesOnBy q (turn node met) (turn (node + 1) 0)
goes_on q node met small few most h flag =
    let c = comes q node met small few most h in
    record { packet = c.packet; fits = c.fits; same = c.same; goes = λ ps n. c.goes ps n ∙ other _ _ _ (differs _ _ flag); few = omega arith }
