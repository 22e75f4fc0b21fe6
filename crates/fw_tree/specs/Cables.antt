-- Cables between the ports of devices, and the walks along them.
use Rattle.std.specs.Prelude.{◌≡◌, ◌⊎◌, ℕ, ◌+◌, ◌<◌, List, [], ◌∷◌, length, Option, Some, None, IfSome, slice_index_or, IsTrue, Bool, true, false}
use Rattle.fw_tree.specs.declared.facts.End.{End}

-- what is at the other end of the cable at each port of each device
abbrev pub Peers : Type 0
Peers = List (List (Option End))

-- the far end of the cable at a port of a device
abbrev pub peer : Peers → ℕ → ℕ → Option End
peer g device port = slice_index_or (slice_index_or g device []) port None

-- a cable at the port leads to the device
abbrev pub LeadsTo : Option End → ℕ → Type 0
LeadsTo None d = ⊥
LeadsTo (Some e) d = e.device ≡ d

-- a cable joins the two devices
pub record AreJoined (g : Peers) (a b : ℕ) : Type 0 where
  pub port : ℕ
  pub leads : LeadsTo (peer g a port) b

-- a walk of cables leads from the one device to the other
pub data Walk (g : Peers) (a : ℕ) : ℕ → Type 0 where
  here : Walk g a a
  along : {b c : ℕ} → Walk g a b → AreJoined g b c → Walk g a c

-- the bus is the part that is connected with device 0 (own)
abbrev pub IsOnBus : Peers → ℕ → Type 0
IsOnBus g d = Walk g 0 d

-- which devices were seen
abbrev pub is_seen : List Bool → ℕ → Bool
is_seen seen d = slice_index_or seen d false

-- each seen device has a walk from a
abbrev pub AllReached : Peers → ℕ → List Bool → Type 0
AllReached g a seen = (d : ℕ) → IsTrue (is_seen seen d) → Walk g a d

-- what is joined to a seen device is seen
abbrev pub IsClosed : Peers → List Bool → Type 0
IsClosed g seen = (d p : ℕ) → IsTrue (is_seen seen d) → IfSome (peer g d p) (λ e. IsTrue (is_seen seen e.device))

-- there are 63 devices of 27 ports at most, and cables end at them
pub record InRange (g : Peers) : Type 0 where
  pub devices : length g ≡ 63
  pub ports : (d : ℕ) → d < 63 → length (slice_index_or g d []) ≡ 27
  pub ends : (d p : ℕ) → IfSome (peer g d p) (λ e. (e.device < 63) × (e.port < 27))

-- how many were not seen
abbrev pub unseen : List Bool → ℕ
unseen [] = 0
unseen (true ∷ xs) = unseen xs
unseen (false ∷ xs) = unseen xs + 1

-- a cable at one of the ports leads to the device
pub record IsPeer (ports : List (Option End)) (d : ℕ) : Type 0 where
  pub port : ℕ
  pub leads : LeadsTo (slice_index_or ports port None) d

-- what stands at the ports was seen
abbrev pub AreMarked : List (Option End) → List Bool → Type 0
AreMarked ports seen = (p : ℕ) → IfSome (slice_index_or ports p None) (λ e. IsTrue (is_seen seen e.device))

-- old's are still seen, and what has come is at one of the ports
pub record MarksPeers (ports : List (Option End)) (old new : List Bool) : Type 0 where
  pub keeps : (d : ℕ) → IsTrue (is_seen old d) → IsTrue (is_seen new d)
  pub from : (d : ℕ) → IsTrue (is_seen new d) → IsTrue (is_seen old d) ⊎ IsPeer ports d

-- old's are still seen, and what has come can be walked to from them
pub record Spreads (g : Peers) (old new : List Bool) : Type 0 where
  pub keeps : (d : ℕ) → IsTrue (is_seen old d) → IsTrue (is_seen new d)
  pub reached : (a : ℕ) → AllReached g a old → AllReached g a new
