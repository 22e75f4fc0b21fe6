-- The devices of a cabling and the cables between them.
use Rattle.std.specs.Prelude.{◌≡◌, ℕ, zero, suc, ◌<◌, ◌≤◌, ◌==◌, ◌&&◌, ◌||◌, nat_lt, List, [], ◌∷◌, ◌++◌, length, replicate, Option, Some, None, Bool, true, false, slice_index_or, slice_set, take}
use Rattle.fw_tree.specs.declared.facts.End.{End}
use Rattle.fw_tree.specs.declared.facts.PhyFacts.{PhyFacts}
use Rattle.fw_tree.specs.declared.TreeFault.{TreeFault}
use Rattle.fw_tree.specs.declared.TreeFault.TheVariants.{TooMany, NoPort, PortUsed, Loop}
use Rattle.fw_tree.specs.Cables.{Peers, peer, Walk, InRange, IsClosed, is_seen}
use Rattle.fw_tree.specs.Forest.{HasNoLoop, AreCables}
use Rattle.fw_tree.specs.SelfIds.{facts_at}

-- the facts of each device, and the cable at each port
pub record Topology : Type 0 where
  pub devices : List PhyFacts
  pub cables : Peers

-- how many ports a device has: none if there is no such device
abbrev pub ports_of : List PhyFacts → ℕ → ℕ
ports_of [] d = 0
ports_of (f ∷ fs) zero = f.ports
ports_of (f ∷ fs) (suc d) = ports_of fs d

-- the device has the port
abbrev pub has_port : Topology → End → Bool
has_port p e = nat_lt e.port (ports_of p.devices e.device)

-- a cable is there
abbrev pub has_cable : Option End → Bool
has_cable None = false
has_cable (Some e) = true

-- one of the ports has a cable, or both ends are one port
abbrev pub are_used : Peers → End → End → Bool
are_used g a b = has_cable (peer g a.device a.port) || has_cable (peer g b.device b.port) || ((a.device == b.device) && (a.port == b.port))

-- the cables, with this at the port
abbrev pub put : Peers → End → Option End → Peers
put g e o = slice_set g e.device (slice_set (slice_index_or g e.device []) e.port o)

-- the cables, with one more between the two ports
abbrev pub with_cable : Peers → End → End → Peers
with_cable g a b = put (put g a (Some b)) b (Some a)

-- the fault is the first that holds of the two ends
abbrev pub IsFault : Topology → End → End → TreeFault → Type 0
IsFault p a b TooMany = ⊥
IsFault p a b NoPort = (has_port p a && has_port p b) ≡ false
IsFault p a b PortUsed = ((has_port p a && has_port p b) ≡ true) × (are_used p.cables a b ≡ true)
IsFault p a b Loop = ((has_port p a && has_port p b) ≡ true) × (are_used p.cables a b ≡ false) × Walk p.cables a.device b.device

-- no fault holds, and the cable is there
pub record IsJoined (p q : Topology) (a b : End) : Type 0 where
  pub ports : (has_port p a && has_port p b) ≡ true
  pub free : are_used p.cables a b ≡ false
  pub apart : Walk p.cables a.device b.device → ⊥
  pub same : q.devices ≡ p.devices
  pub added : q.cables ≡ with_cable p.cables a b

-- the topology with one device more, which has no cable yet
pub record IsExtended (p q : Topology) (f : PhyFacts) : Type 0 where
  pub room : length p.devices < 63
  pub some : 0 < f.ports
  pub most : f.ports ≤ 27
  pub speed : f.speed ≤ 2
  pub is : q ≡ record { devices = p.devices ++ f ∷ []; cables = p.cables }

-- no cable at any port
abbrev pub no_cables : Peers
no_cables = replicate 63 (replicate 27 None)

-- the topologies that devices and cables can make, one accepted call after another
pub data Made : Topology → Type 0 where
  empty : {q : Topology} → q ≡ record { devices = []; cables = no_cables } → Made q
  device : {p q : Topology} → Made p → (f : PhyFacts) → IsExtended p q f → Made q
  cable : {p q : Topology} → Made p → (a b : End) → IsJoined p q a b → Made q

-- a device has 1 to 27 ports
abbrev pub AreDevices : List PhyFacts → Type 0
AreDevices [] = Unit {0}
AreDevices (f ∷ fs) = (0 < f.ports) × (f.ports ≤ 27) × (f.speed ≤ 2) × AreDevices fs

-- what is true of each topology that can be made
pub record IsSound (p : Topology) : Type 0 where
  pub few : length p.devices ≤ 63
  pub devices : AreDevices p.devices
  pub range : InRange p.cables
  pub cables : AreCables p.cables
  pub none : HasNoLoop p.cables
  pub placed : (d q : ℕ) (e : End) → peer p.cables d q ≡ Some e → q < ports_of p.devices d

-- cables stand only at ports that their devices have
abbrev pub ArePlaced : List PhyFacts → Peers → Type 0
ArePlaced facts g = (d p : ℕ) (e : End) → peer g d p ≡ Some e → p < (facts_at facts d).ports

-- the devices that were seen hold a and not b, and no cable leads out of them
pub record Separates (g : Peers) (a b : ℕ) : Type 0 where
  pub seen : List Bool
  pub closed : IsClosed g seen
  pub first : is_seen seen a ≡ true
  pub second : is_seen seen b ≡ false

-- what is true of the fields of a cabling
pub record IsKept (facts : List PhyFacts) (count : ℕ) (cables : Peers) : Type 0 where
  pub size : length facts ≡ 63
  pub most : count ≤ 63
  pub made : Made (record { devices = take count facts; cables = cables })
  pub sound : IsSound (record { devices = take count facts; cables = cables })
