-- The rounds of each topology that can be made end with one root.
use Rattle.fw_tree.proofs.Common.{◌≡◌, ◌⊎◌, inl, inr, ℕ, zero, suc, ◌<◌, ◌≤◌, ◌+◌, Bool, true, false, not, ◌&&◌, arith, refl, sym, Peers, is_seen, stays, counted, Settled, Topology, Made}
use Rattle.fw_tree.specs.Numbering.{EndsWithOneRoot}
use Rattle.fw_tree.proofs.ForestLaws.{first_of, second_of, not_false}
use Rattle.fw_tree.proofs.CountLaws.{counted_most, counted_less}
use Rattle.fw_tree.proofs.RoundLaws.{stayed, same_from}
use Rattle.fw_tree.proofs.RootLaws.{ended, one_root, some_root, some_below}
use Rattle.fw_tree.proofs.ReachLaws.{bus_of, sound_made}

-- a round after which nothing changes
record Rest (g : Peers) (most : ℕ) : Type 0 where
  round : ℕ
  few : round ≤ most
  settled : Settled g round

kept : (b c : Bool) → (c ≡ true → b ≡ true) → ((b && not c) ≡ true → ⊥) → c ≡ b
kept true true s n = refl
kept true false s n = absurd (n refl)
kept false true s n = sym (s refl)
kept false false s n = refl

-- the device that leaves in the round, or none does
leaver : (g : Peers) (r : ℕ) → ((d : ℕ) × (d < 63) × (stays g r d ≡ true) × (stays g (suc r) d ≡ false)) ⊎ Settled g r
leaver g r = elim (some_below (λ d. stays g r d && not (stays g (suc r) d)) 63) [
  | inl w ↦ inl (w.0, w.1, first_of (stays g r w.0) (not (stays g (suc r) w.0)) w.2, not_false (stays g (suc r) w.0) (second_of (stays g r w.0) (not (stays g (suc r) w.0)) w.2))
  | inr none ↦ inr (λ d low. kept (stays g r d) (stays g (suc r) d) (λ s. stayed g r d s) (λ h. none d low h))
]

fewer : (g : Peers) (r d : ℕ) → d < 63 → stays g r d ≡ true → stays g (suc r) d ≡ false → counted (λ k. stays g (suc r) k) 63 < counted (λ k. stays g r k) 63
fewer g r d low still gone = counted_less (λ k. stays g r k) (λ k. stays g (suc r) k) 63 d low (λ k s. stayed g r k s) gone still

rest_from : (g : Peers) (fuel r most : ℕ) → counted (λ d. stays g r d) 63 ≤ fuel → r + fuel ≤ most → Rest g most
rest_from g zero r most bound room = elim (leaver g r) [
  | inl w ↦ absurd (let l = fewer g r w.0 w.1 w.2 w.3 in let z : ⊥ = omega arith in z)
  | inr settled ↦ record { round = r; few = omega arith; settled = settled }
]
rest_from g (suc n) r most bound room = elim (leaver g r) [
  | inl w ↦ let l = fewer g r w.0 w.1 w.2 w.3 in rest_from g n (suc r) most (omega arith) (omega arith)
  | inr settled ↦ record { round = r; few = omega arith; settled = settled }
]

pub ends_with_one_root : (p : Topology) → Made p → EndsWithOneRoot p.cables
ends_with_one_root p m =
    let g = p.cables in
    let s = sound_made p m in
    let rest = rest_from g 63 0 63 (counted_most (λ d. stays g 0 d) 63) (omega arith) in
    let bus = bus_of g s.range in
    let n = ended g bus.on rest.round s.range s.cables s.none bus.is_on rest.settled in
    let root = some_root g (is_seen bus.on) rest.round n in
    record {
      round = rest.round;
      few = rest.few;
      rest = λ r d later low. same_from g rest.round r d s.range rest.settled later low;
      root = root.device;
      is_root = record {
        is_on = bus.is_on.walk root.device root.is_on;
        is_root = root.is_root;
        alone = λ d w h. one_root g (is_seen bus.on) rest.round d root.device n (bus.is_on.has d w) root.is_on h root.is_root;
      };
    }
