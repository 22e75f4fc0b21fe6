use Rattle.fw_tree.proofs.Common.{ℕ, ap, subst, sym, length, ◌∙◌, is_seen, Topology, IsSound, Made, AreNodes, parent_at}
use Rattle.fw_tree.specs.declared.numbering.Numbering.{Numbering}
use Rattle.fw_tree.specs.Numbering.{IsNumbering}
use Rattle.fw_tree.specs.Numbers.{shown}
use Rattle.fw_tree.proofs.PlacedLaws.{declared_of, placed_of}
use Rattle.fw_tree.proofs.OneNumberingLaws.{one_numbering, same_on}
use Rattle.fw_tree.proofs.ReachLaws.{bus_of}
use Rattle.fw_tree.proofs.RootLaws.{ended}
use Rattle.fw_tree.proofs.TreeLaws.{tree_of, numbers_of, parents_of, blank_number}
use Rattle.fw_tree.proofs.cabling.Cabling.identify.Goals as goal

pub returns : goal.returns
returns c =
    let size = λ (p : Topology). length p.devices in
    let s = c.self.invariant.sound in
    let e = c.parents-parents.ensures in
    let root = c.find_root-root.ensures.root in
    let bus = bus_of c.self.inside.cables s.range in
    let n = ended c.self.inside.cables bus.on e.settled.0 s.range s.cables s.none bus.is_on e.settled.1 in
    let t = tree_of c.self.inside.cables c.parents-parents.result c.find_root-root.result e.settled.0 bus.on s.range s.cables s.none bus.is_on e.settled.1 e.parents root in
    let w = numbers_of c.self.inside.cables c.parents-parents.result c.find_root-root.result bus.on _ c.numbers_from-number.result t bus.is_on root.is_on blank_number
    (λ paths. c.numbers_from-number.ensures (is_seen bus.on) paths) in
    let count = c.numbered.ensures.count in
    let N : ℕ → Type 0 = AreNodes c.numbers_from-number.result in
    let result : Numbering = record { root = c.find_root-root.result; count = c.numbered.result; number = c.numbers_from-number.result; parent_port = c.parent_ports.result } in
    let P : Topology → Type 0 = λ p. IsNumbering p result in
    let numbering = subst P c.self.view_is (record {
      some = rw (sym (ap size c.self.view_is)) at c.requires;
      root = root;
      numbers = w.numbers;
      parents = parents_of c.self.inside.cables c.parents-parents.result bus.on c.parent_ports.result bus.is_on n.within e.parents
          (λ d low. c.parent_ports.ensures.ports d low ∙ ap (λ b. shown b (parent_at c.parents-parents.result d))
          (same_on c.self.inside.cables c.find_root-root.result c.numbers_from-number.result bus.on bus.is_on w.numbers d)) c.parent_ports.ensures.size;
      count = count;
      nodes = subst N (sym count) w.nodes;
    }) in
    let Q : Topology → Type 0 = IsSound in
    record {
      numbering = numbering;
      only = λ n h. one_numbering c.args.self.now result n (subst Q c.self.view_is s) numbering h;
      made = let R : Topology → Type 0 = Made in
          subst R c.self.view_is c.self.invariant.made;
    }

pub parents-parents-requires-clause-placed : goal.parents-parents-requires-clause-placed
parents-parents-requires-clause-placed c = placed_of c.self.inside.facts c.self.inside.count c.self.inside.cables c.self.invariant

pub parents-parents-requires-clause-declared : goal.parents-parents-requires-clause-declared
parents-parents-requires-clause-declared c = declared_of c.self.inside.facts c.self.inside.count c.self.inside.cables c.self.invariant

pub numbers_from-number-requires-clause-placed : goal.numbers_from-number-requires-clause-placed
numbers_from-number-requires-clause-placed c = placed_of c.self.inside.facts c.self.inside.count c.self.inside.cables c.self.invariant
