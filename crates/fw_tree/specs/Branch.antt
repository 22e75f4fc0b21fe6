-- What numbering a branch does.
use Rattle.std.specs.Prelude.{◌≡◌, ℕ, ◌<◌, ◌&&◌, ◌||◌, List, [], ◌∷◌, ◌++◌, Option, Some, Bool, true}
use Rattle.fw_tree.specs.declared.rounds.Parent.{Parent}
use Rattle.fw_tree.specs.Cables.{Peers, InRange}
use Rattle.fw_tree.specs.Rounds.{IsRoot}
use Rattle.fw_tree.specs.Forest.{AreCables, Splits}
use Rattle.fw_tree.specs.Parents.{IsParent, parent_at}
use Rattle.fw_tree.specs.Paths.{comes_before, is_left, is_prefix}
use Rattle.fw_tree.specs.Numbers.{LeadsDown, AreNodes, counted, number_at, has_number}

-- the tree of the bus
pub record Tree (g : Peers) (par : List (Option Parent)) (root : ℕ) (on : ℕ → Bool) : Type 0 where
  pub range : InRange g
  pub cables : AreCables g
  pub parents : (d : ℕ) → d < 63 → IsParent g d (parent_at par d)
  pub splits : Splits g on
  pub within : (d : ℕ) → on d ≡ true → d < 63
  pub top : IsRoot g root
  pub alone : (d : ℕ) → on d ≡ true → IsRoot g d → d ≡ root

-- a path to each device of the bus
pub record ArePaths (g : Peers) (root : ℕ) (on : ℕ → Bool) (paths : ℕ → List ℕ) : Type 0 where
  pub lead : (d : ℕ) → on d ≡ true → LeadsDown g root (paths d) d

-- the devices of the bus that pass have their numbers, and no others
pub record Done (on : ℕ → Bool) (paths : ℕ → List ℕ) (f : ℕ → Bool) (number : List (Option ℕ)) : Type 0 where
  pub has : (v : ℕ) → has_number number v ≡ (on v && f v)
  pub place : (v : ℕ) → on v ≡ true → f v ≡ true → number_at number v ≡ Some (counted (λ e. on e && comes_before (paths e) (paths v)) 63)
  pub nodes : AreNodes number (counted (has_number number) 63)

-- if all left of the device had its number, the device and its branch have theirs too
abbrev pub Branch : Peers → List (Option Parent) → ℕ → (ℕ → Bool) → (ℕ → List ℕ) → ℕ → List (Option ℕ) → List (Option ℕ) → Type 0
Branch g par root on paths d old now = Tree g par root on → ArePaths g root on paths → on d ≡ true → Done on paths (λ v. is_left (paths v) (paths d)) old
    → Done on paths (λ v. is_left (paths v) (paths d) || is_prefix (paths d) (paths v)) now

-- the same as far as a port of the device
abbrev pub Ports : Peers → List (Option Parent) → ℕ → (ℕ → Bool) → (ℕ → List ℕ) → ℕ → ℕ → List (Option ℕ) → List (Option ℕ) → Type 0
Ports g par root on paths d p old now = Tree g par root on → ArePaths g root on paths → on d ≡ true → Done on paths (λ v. is_left (paths v) (paths d)) old
    → Done on paths (λ v. is_left (paths v) (paths d ++ p ∷ [])) now
