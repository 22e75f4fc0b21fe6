-- Two cablings are the same if their devices have the same cables: elsewhere no cable is.
use Rattle.fw_tree.proofs.Common.{◌≡◌, inl, inr, ℕ, ◌<◌, ◌≤◌, List, [], None, slice_index_or, arith, sym, ◌∙◌, cases_lt, PhyFacts, Peers, peer}
use Rattle.std.proofs.lemmas.List.{ext_get_or}
use Rattle.fw_tree.specs.Topology.{IsKept}
use Rattle.fw_tree.proofs.ForestLaws.{none_of}
use Rattle.fw_tree.proofs.PlacedLaws.{declared_of}

-- a device that is not there has no cable
none_beyond : (facts : List PhyFacts) (count : ℕ) (g : Peers) → IsKept facts count g → (d p : ℕ) → count ≤ d → peer g d p ≡ None
none_beyond facts count g k d p high = none_of (peer g d p) (λ e is. let low = declared_of facts count g k d p e is in absurd (omega arith))

pub same_cables : (facts others : List PhyFacts) (count : ℕ) (g h : Peers) → IsKept facts count g → IsKept others count h
    → ((d p : ℕ) → d < count → peer g d p ≡ peer h d p) → g ≡ h
same_cables facts others count g h k l same =
    ext_get_or [] g h (k.sound.range.devices ∙ sym l.sound.range.devices) (λ d low.
    let within : d < 63 = omega (arith, k.sound.range.devices) in
    ext_get_or None (slice_index_or g d []) (slice_index_or h d []) (k.sound.range.ports d within ∙ sym (l.sound.range.ports d within)) (λ p _. peers d p))
  where
    peers : (d p : ℕ) → peer g d p ≡ peer h d p
    peers d p = elim (cases_lt d count) [
      | inl low ↦ same d p low
      | inr high ↦ none_beyond facts count g k d p high ∙ sym (none_beyond others count h l d p high)
    ]
