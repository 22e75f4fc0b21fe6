-- What a numbering of a bus is.
use Rattle.std.specs.Prelude.{◌≡◌, ℕ, ◌<◌, ◌≤◌, length, List, Option, Some, None, true}
use Rattle.fw_tree.specs.declared.facts.PhyFacts.{PhyFacts}
use Rattle.fw_tree.specs.declared.numbering.Numbering.{Numbering}
use Rattle.fw_tree.specs.Cables.{Peers}
use Rattle.fw_tree.specs.Rounds.{stays}
use Rattle.fw_tree.specs.Parents.{IsTheRoot}
use Rattle.fw_tree.specs.Numbers.{AreNumbers, AreParents, AreNodes, counted, has_number, number_at}
use Rattle.fw_tree.specs.SelfIds.{facts_at}
use Rattle.fw_tree.specs.Topology.{Topology}

-- the root, the numbers and the parents of the topology's bus
pub record IsNumbering (p : Topology) (n : Numbering) : Type 0 where
  pub some : 0 < length p.devices
  pub root : IsTheRoot p.cables n.root
  pub numbers : AreNumbers p.cables n.root n.number
  pub parents : AreParents p.cables n.parent_port
  pub count : n.count ≡ counted (has_number n.number) 63
  pub nodes : AreNodes n.number n.count

-- the two say the same of each device
pub record IsSame (m n : Numbering) : Type 0 where
  pub root : m.root ≡ n.root
  pub count : m.count ≡ n.count
  pub number : (d : ℕ) → number_at m.number d ≡ number_at n.number d
  pub parent_port : (d : ℕ) → number_at m.parent_port d ≡ number_at n.parent_port d

-- the device has the number, a link, and contends
pub record Contends (devices : List PhyFacts) (number : List (Option ℕ)) (d n : ℕ) : Type 0 where
  pub numbered : number_at number d ≡ Some n
  pub link : (facts_at devices d).link ≡ true
  pub contender : (facts_at devices d).contender ≡ true

-- of those below the bound it has the greatest number, or there is none
abbrev pub IsGreatest : List PhyFacts → List (Option ℕ) → ℕ → Option ℕ → Type 0
IsGreatest devices number bound None = (d n : ℕ) → n < bound → Contends devices number d n → ⊥
IsGreatest devices number bound (Some d) = (n : ℕ) × (n < bound) × Contends devices number d n × ((e m : ℕ) → m < bound → Contends devices number e m → m ≤ n)

-- the isochronous resource manager (IEEE 1394-1995): the device of the greatest number among those that have a link and contend, or none
abbrev pub IsManager : List PhyFacts → List (Option ℕ) → Option ℕ → Type 0
IsManager devices number None = (d n : ℕ) → Contends devices number d n → ⊥
IsManager devices number (Some d) = (n : ℕ) × Contends devices number d n × ((e m : ℕ) → Contends devices number e m → m ≤ n)

-- after some round nothing changes any more, and one device of the bus is root
pub record EndsWithOneRoot (g : Peers) : Type 0 where
  pub round : ℕ
  pub few : round ≤ 63
  pub rest : (r d : ℕ) → round ≤ r → d < 63 → stays g r d ≡ stays g round d
  pub root : ℕ
  pub is_root : IsTheRoot g root
