-- The numbers of self-identification (IEEE 1394-1995): a device's children in order of their ports, each with its branch, before the device.
use Rattle.std.specs.Prelude.{◌≡◌, ℕ, zero, suc, ◌+◌, ◌<◌, ◌&&◌, List, [], ◌∷◌, ◌++◌, Option, Some, None, Bool, true, false, slice_index_or, if◌then◌else◌}
use Rattle.fw_tree.specs.declared.facts.End.{End}
use Rattle.fw_tree.specs.declared.rounds.Parent.{Parent}
use Rattle.fw_tree.specs.Cables.{Peers, peer, IsOnBus}
use Rattle.fw_tree.specs.Rounds.{HasParent, IsRoot}
use Rattle.fw_tree.specs.Parents.{parent_at}
use Rattle.fw_tree.specs.Paths.{comes_before}

-- the path of ports leads down from the root to the device
pub data LeadsDown (g : Peers) (root : ℕ) : List ℕ → ℕ → Type 0 where
  at_root : LeadsDown g root [] root
  down_to : {k v : List ℕ} {d e : ℕ} → LeadsDown g root k d → (p q round : ℕ) → peer g d p ≡ Some (record { device = e; port = q }) → HasParent g e q round → v ≡ k ++ p ∷ [] → LeadsDown g root v e

-- how many numbers below n pass
unfoldable pub counted : (ℕ → Bool) → ℕ → ℕ
counted f zero = 0
counted f (suc n) = counted f n + (if f n then 1 else 0)

-- what a list by device says of a device
abbrev pub number_at : List (Option ℕ) → ℕ → Option ℕ
number_at number d = slice_index_or number d None

-- what a list by node says of a node: its device
abbrev pub device_at : List ℕ → ℕ → ℕ
device_at devices n = slice_index_or devices n 0

-- a number is there
abbrev pub is_there : Option ℕ → Bool
is_there None = false
is_there (Some n) = true

-- the device has a number
abbrev pub has_number : List (Option ℕ) → ℕ → Bool
has_number number d = is_there (number_at number d)

-- each device of the bus has the count of the devices of the bus that come before it by the paths, and no other device has a number
pub record AreNumbers (g : Peers) (root : ℕ) (number : List (Option ℕ)) : Type 0 where
  pub paths : ℕ → List ℕ
  pub lead : (d : ℕ) → IsOnBus g d → LeadsDown g root (paths d) d
  pub places : (d : ℕ) → IsOnBus g d → number_at number d ≡ Some (counted (λ e. has_number number e && comes_before (paths e) (paths d)) 63)
  pub only : (d : ℕ) → has_number number d ≡ true → IsOnBus g d

-- each number below the count is of exactly one device, and no other number is given
pub record AreNodes (number : List (Option ℕ)) (count : ℕ) : Type 0 where
  pub below : (d n : ℕ) → number_at number d ≡ Some n → n < count
  pub taken : (n : ℕ) → n < count → (d : ℕ) × (number_at number d ≡ Some n)
  pub one : (d e n : ℕ) → number_at number d ≡ Some n → number_at number e ≡ Some n → d ≡ e

-- the device hangs on the other at the port
pub record IsChild (g : Peers) (parents : List (Option Parent)) (d p c : ℕ) : Type 0 where
  pub end : End
  pub parent : Parent
  pub is : peer g d p ≡ Some end
  pub device : end.device ≡ c
  pub noted : parent_at parents c ≡ Some parent
  pub port : parent.port ≡ end.port

-- how late a device leaves, the root last
abbrev pub rank : Option Parent → ℕ
rank None = 63
rank (Some p) = p.round

-- the port at which the parent is, or none for the root
abbrev pub IsParentPort : Peers → ℕ → Option ℕ → Type 0
IsParentPort g d None = IsRoot g d
IsParentPort g d (Some p) = (round : ℕ) × HasParent g d p round

-- the ports that lead up to the parents of the devices of the bus, and no others
pub record AreParents (g : Peers) (ports : List (Option ℕ)) : Type 0 where
  pub on : (d : ℕ) → IsOnBus g d → IsParentPort g d (number_at ports d)
  pub only : (d p : ℕ) → number_at ports d ≡ Some p → IsOnBus g d

-- the port, if the device is on the bus
abbrev pub shown : Bool → Option Parent → Option ℕ
shown false o = None
shown true None = None
shown true (Some p) = Some p.port
