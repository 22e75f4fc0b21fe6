-- Tree identification in rounds.
use Rattle.std.specs.Prelude.{◌≡◌, ◌⊎◌, ℕ, ◌<◌, zero, suc, ◌==◌, [], Option, Some, None, Bool, true, false, not, ◌&&◌, slice_index_or, count_by}
use Rattle.fw_tree.specs.declared.facts.End.{End}
use Rattle.fw_tree.specs.Cables.{Peers, peer}

-- a cable at the port leads to a device that stays
abbrev pub is_open : (ℕ → Bool) → Option End → Bool
is_open stays None = false
is_open stays (Some e) = stays e.device

-- how many of its cables lead to devices that stay
abbrev pub open_count : Peers → (ℕ → Bool) → ℕ → ℕ
open_count g stays d = count_by (is_open stays) (slice_index_or g d [])

-- the device has not left before the round
abbrev pub stays : Peers → ℕ → ℕ → Bool
stays g zero d = true
stays g (suc r) d = stays g r d && not (open_count g (stays g r) d == 1)

-- of those who stay it leaves, and its parent is at this port
pub record LeavesBy (g : Peers) (s : ℕ → Bool) (d port : ℕ) : Type 0 where
  pub still : s d ≡ true
  pub one : open_count g s d ≡ 1
  pub parent : is_open s (peer g d port) ≡ true

-- the two leave towards each other
pub record Tie (g : Peers) (s : ℕ → Bool) (d e : ℕ) : Type 0 where
  pub port : ℕ
  pub other : ℕ
  pub first : LeavesBy g s d port × (peer g d port ≡ Some (record { device = e; port = other }))
  pub second : LeavesBy g s e other × (peer g e other ≡ Some (record { device = d; port = port }))

-- it is the later one of two that leave towards each other
abbrev pub WinsTie : Peers → (ℕ → Bool) → ℕ → Type 0
WinsTie g s d = (e : ℕ) × (e < d) × Tie g s d e

-- the root: it never leaves, or it wins a tie
abbrev pub IsRoot : Peers → ℕ → Type 0
IsRoot g d = ((r : ℕ) → stays g r d ≡ true) ⊎ ((r : ℕ) × WinsTie g (stays g r) d)

-- it leaves in the round, and is not the later one of a tie: its parent is at this port
pub record HasParent (g : Peers) (d port round : ℕ) : Type 0 where
  pub leaves : LeavesBy g (stays g round) d port
  pub below : WinsTie g (stays g round) d → ⊥
