-- The tree of a cabling, as identifying it finds it.
use Rattle.std.specs.Prelude.{◌≡◌, ℕ, Option, Some, option_and_then, option_map}
use Rattle.fw_tree.specs.declared.facts.End.{End}
use Rattle.fw_tree.specs.declared.numbering.Numbering.{Numbering}
use Rattle.fw_tree.specs.Cables.{peer}
use Rattle.fw_tree.specs.Numbers.{number_at}
use Rattle.fw_tree.specs.SelfIds.{facts_at}
use Rattle.fw_tree.specs.Topology.{Topology}
use Rattle.fw_map.specs.declared.tree.Tree.{Tree}
use Rattle.fw_map.specs.Trees.{speed_at}

-- the far end of the cable at the device's parent port
abbrev pub up_end : Topology → Numbering → ℕ → Option End
up_end p n d = option_and_then (peer p.cables d) (number_at n.parent_port d)

-- each node of the tree is the device of its number: it hangs where that device's parent port leads, and has its speed
pub record IsTreeOf (p : Topology) (n : Numbering) (t : Tree) : Type 0 where
  pub count : t.count ≡ n.count
  pub parent : (d v : ℕ) → number_at n.number d ≡ Some v → number_at t.parent v ≡ option_and_then (λ (e : End). number_at n.number e.device) (up_end p n d)
  pub parent_port : (d v : ℕ) → number_at n.number d ≡ Some v → number_at t.parent_port v ≡ option_map (λ (e : End). e.port) (up_end p n d)
  pub own_port : (d v : ℕ) → number_at n.number d ≡ Some v → number_at t.own_port v ≡ number_at n.parent_port d
  pub speed : (d v : ℕ) → number_at n.number d ≡ Some v → speed_at t.sp v ≡ (facts_at p.devices d).speed
