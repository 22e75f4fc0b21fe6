-- What the rounds find: each device's parent, or that it is root.
use Rattle.std.specs.Prelude.{◌≡◌, ℕ, suc, ◌+◌, ◌<◌, List, [], ◌∷◌, Option, Some, None, Bool, true, false, IfSome, slice_index_or}
use Rattle.fw_tree.specs.declared.rounds.Parent.{Parent}
use Rattle.fw_tree.specs.Cables.{Peers, peer, is_seen, IsOnBus}
use Rattle.fw_tree.specs.Rounds.{open_count, stays, LeavesBy, WinsTie, HasParent, IsRoot}

-- what one round notes of a device that leaves in it
abbrev pub Notes : Peers → (ℕ → Bool) → ℕ → ℕ → Option Parent → Type 0
Notes g s round d None = WinsTie g s d
Notes g s round d (Some p) = (p.round ≡ round) × (p.port < 27) × LeavesBy g s d p.port × (WinsTie g s d → ⊥)

-- what all rounds note of a device that has left
abbrev pub Noted : Peers → ℕ → Option Parent → Type 0
Noted g d None = (r : ℕ) × WinsTie g (stays g r) d
Noted g d (Some p) = (p.round < 63) × (p.port < 27) × HasParent g d p.port p.round

-- what is known of a device in the end
abbrev pub IsParent : Peers → ℕ → Option Parent → Type 0
IsParent g d None = IsRoot g d
IsParent g d (Some p) = (p.round < 63) × (p.port < 27) × HasParent g d p.port p.round

-- what is noted of a device
abbrev pub parent_at : List (Option Parent) → ℕ → Option Parent
parent_at parents d = slice_index_or parents d None

-- how many stay
abbrev pub staying : List Bool → ℕ
staying [] = 0
staying (true ∷ xs) = staying xs + 1
staying (false ∷ xs) = staying xs

-- a device that leaves in a round is marked as due in it
abbrev pub IsDue : Peers → List Bool → List Bool → ℕ → Type 0
IsDue g now due d = is_seen now d ≡ true → open_count g (is_seen now) d ≡ 1 → is_seen due d ≡ true

-- a cable of the device that leads to one that stays leads to one that is marked
abbrev pub IsOpenMarked : Peers → (ℕ → Bool) → ℕ → List Bool → Type 0
IsOpenMarked g s d due = (p : ℕ) → IfSome (peer g d p) (λ e. s e.device ≡ true → is_seen due e.device ≡ true)

-- the round leaves all as it was
abbrev pub Settled : Peers → ℕ → Type 0
Settled g r = (d : ℕ) → d < 63 → stays g (suc r) d ≡ stays g r d

-- the devices that were seen are those of the bus
pub record IsOn (g : Peers) (on : List Bool) : Type 0 where
  pub walk : (d : ℕ) → is_seen on d ≡ true → IsOnBus g d
  pub has : (d : ℕ) → IsOnBus g d → is_seen on d ≡ true

-- the one root of the bus
pub record IsTheRoot (g : Peers) (root : ℕ) : Type 0 where
  pub is_on : IsOnBus g root
  pub is_root : IsRoot g root
  pub alone : (d : ℕ) → IsOnBus g d → IsRoot g d → d ≡ root
