-- Cables that form no loop.
use Rattle.std.specs.Prelude.{◌≡◌, ℕ, Some, None, Bool, true}
use Rattle.fw_tree.specs.declared.facts.End.{End}
use Rattle.fw_tree.specs.Cables.{Peers, peer}
use Rattle.fw_tree.specs.Rounds.{is_open}

-- the cable at the port leads to a device of the set
abbrev pub IsOpen : Peers → (ℕ → Bool) → ℕ → ℕ → Type 0
IsOpen g s d p = is_open s (peer g d p) ≡ true

-- at most one cable of the device leads to devices of the set
abbrev pub HasOne : Peers → (ℕ → Bool) → ℕ → Type 0
HasOne g s d = (p q : ℕ) → IsOpen g s d p → IsOpen g s d q → p ≡ q

-- a device of the set, other than x, that has at most one cable to the set
pub record Leaf (g : Peers) (s : ℕ → Bool) (x : ℕ) : Type 0 where
  pub leaf : ℕ
  pub member : s leaf ≡ true
  pub other : leaf ≡ x → ⊥
  pub one : HasOne g s leaf

-- the cables form no loop: each set of two devices or more has two that have at most one cable to the set
abbrev pub HasNoLoop : Peers → Type 0
HasNoLoop g = (s : ℕ → Bool) (x y : ℕ) → s y ≡ true → (y ≡ x → ⊥) → Leaf g s x

-- each cable stands at both of its ends, and these are of two devices
pub record AreCables (g : Peers) : Type 0 where
  pub back : (d p : ℕ) (e : End) → peer g d p ≡ Some e → peer g e.device e.port ≡ Some (record { device = d; port = p })
  pub apart : (d p : ℕ) (e : End) → peer g d p ≡ Some e → e.device ≡ d → ⊥

-- one cable more, at two ports that had none
pub record IsAdded (g h : Peers) (a b : End) : Type 0 where
  pub first : peer h a.device a.port ≡ Some b
  pub second : peer h b.device b.port ≡ Some a
  pub others : (d p : ℕ) → ((d ≡ a.device) × (p ≡ a.port) → ⊥) → ((d ≡ b.device) × (p ≡ b.port) → ⊥) → peer h d p ≡ peer g d p
  pub free_first : peer g a.device a.port ≡ None
  pub free_second : peer g b.device b.port ≡ None

-- cables join only devices that are both in the set, or both out of it
abbrev pub Splits : Peers → (ℕ → Bool) → Type 0
Splits g c = (d p : ℕ) (e : End) → peer g d p ≡ Some e → c e.device ≡ c d
