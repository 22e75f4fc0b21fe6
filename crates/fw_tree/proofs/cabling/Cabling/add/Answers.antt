use Rattle.fw_tree.proofs.Common.{arith, take, length, length-set, refl, ◌≡◌, ◌<◌, ◌≤◌, ◌+◌, ℕ, List, slice_set, PhyFacts, Peers, Made}
use Rattle.std.proofs.lemmas.List.{take_more_set}
use Rattle.fw_tree.specs.Topology.{device}
use Rattle.fw_tree.proofs.TopologyLaws.{sound_add, short}
use Rattle.fw_tree.proofs.cabling.Cabling.add.Goals as goal

made_add : (fs : List PhyFacts) (n : ℕ) (g : Peers) (f : PhyFacts) → Made (record { devices = take n fs; cables = g }) → length fs ≡ 63 → n < 63 → 0 < f.ports → f.ports ≤ 27 → f.speed ≤ 2
    → Made (record { devices = take (n + 1) (slice_set fs n f); cables = g })
made_add fs n g f m size room some most speed =
    let k = take_more_set fs n f (omega arith) in
    rw k (device m f (record { room = short fs n room; some = some; most = most; speed = speed; is = refl }))

pub invariant_of-self : goal.invariant_of-self
invariant_of-self c =
    let size = c.self.invariant.size in
    let k = take_more_set c.self.inside.facts c.self.inside.count c.args.facts (omega arith) in
    let room = short c.self.inside.facts c.self.inside.count (omega arith) in
    record {
      size = simp length-set size;
      most = omega arith;
      made = made_add c.self.inside.facts c.self.inside.count c.self.inside.cables c.args.facts c.self.invariant.made size (omega arith) c.requires.some c.requires.most c.requires.speed;
      sound = rw k (sound_add (take c.self.inside.count c.self.inside.facts) c.self.inside.cables c.args.facts c.self.invariant.sound room c.requires.some c.requires.most c.requires.speed);
    }

pub returns-clause-made : goal.returns-clause-made
returns-clause-made c = made_add c.self.inside.facts c.self.inside.count c.self.inside.cables c.args.facts c.self.invariant.made c.self.invariant.size
    (omega arith) c.requires.some c.requires.most c.requires.speed
