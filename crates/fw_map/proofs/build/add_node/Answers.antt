use Rattle.fw_map.proofs.Common.{◌≡◌, ◌==◌, ◌≤◌, ◌+◌, ℕ, List, refl, sym, ap, subst, ◌∙◌, slice_set, arith, PhyPacket, speed_of, counted, field_of, fields, IsLast, branches, Grown, is_open}
use Rattle.fw_map.proofs.OrderLaws.{grown}
use Rattle.fw_map.proofs.NodeLaws.{agrees_like, due_of, joining_next}
use Rattle.fw_map.proofs.build.add_node.Goals as goal

few : (s n : ℕ) → s ≡ n → n ≤ 63 → s ≤ 63
few s n e l = omega arith

pub returns-then-count-due-clause-agrees : goal.returns-then-count-due-clause-agrees
returns-then-count-due-clause-agrees c = λ s h a. absurd (
    let size = h.count in
    let f = c.requires.fits in
    let w = due_of c.args.e.now s c.args.node h (few s.count _ size f.few) f.packets (omega (arith, c.requires.node)) in
    let P : List PhyPacket → Type 0 = λ ids. c.parent_ports-count.result.0 ≡ fields ids c.args.node 2 in
    c.if-count-due.true (subst P c.requires.ids c.parent_ports-count.ensures.count ∙ (w ∙ sym c.due.ensures)))

pub returns-then-not-take_children-clause-agrees : goal.returns-then-not-take_children-clause-agrees
returns-then-not-take_children-clause-agrees c = λ s h a. absurd (
    let size = h.count in
    let f = c.requires.fits in
    let P : List PhyPacket → Type 0 = λ ids. Grown ids s.count 27 s in
    let w = c.if-not-take_children.ensures.agrees s s.count (omega (arith, c.requires.node)) (subst P (sym c.requires.ids) (grown c.args.e.now s h (few s.count _ size f.few) f.packets)) a in
    let z = w.0 in
    let y : ⊥ = cc in y)

pub returns-clause-joining : goal.returns-clause-joining
returns-clause-joining c =
    let e = c.args.e.now in
    let d = c.args.node in
    let is = c.requires.ids in
    let f = c.requires.fits in
    let v = c.take_children.new.tree in
    let P : List PhyPacket → Type 0 = λ ids. Grown ids (d + 1) 27 v in
    let Q : List PhyPacket → Type 0 = λ ids. counted (is_open v) (d + 1) ≡ branches ids (d + 1) in
    let R : List PhyPacket → Type 0 = λ ids. fields ids d 3 ≤ branches ids d in
    let S : List PhyPacket → Type 0 = λ ids. c.parent_ports-count.result.0 ≡ fields ids d 2 in
    let T : List PhyPacket → Type 0 = λ ids. IsLast (λ p. field_of ids d p == 2) 27 c.parent_ports-count.result.1 in
    joining_next e d c.args.tree.now v _ c.parent_ports-count.result.1 (omega (arith, c.requires.node, f.few)) f.packets c.requires.joining c.if-not-take_children.ensures.rest
    (subst P is c.if-not-take_children.ensures.grown)
    (subst Q is c.if-not-take_children.ensures.counts)
    (subst R is c.if-not-take_children.ensures.enough)
    (sym (subst S is c.parent_ports-count.ensures.count) ∙ (c.if-count-due.false ∙ c.due.ensures))
    (subst T is c.parent_ports-count.ensures.last)
    refl refl refl
    (ap (λ k. slice_set v.own_port k c.parent_ports-count.result.1) c.from.ensures)
    (ap (λ k. slice_set v.sp k c.speed_of.result) c.from-2.ensures ∙ ap (λ x. slice_set v.sp d x) (c.speed_of.ensures ∙ ap (speed_of d) is))

pub returns-clause-agrees : goal.returns-clause-agrees
returns-clause-agrees c = λ s h a.
    let size = h.count in
    let f = c.requires.fits in
    let v = c.take_children.new.tree in
    let P : List PhyPacket → Type 0 = λ ids. Grown ids s.count 27 s in
    let w = c.if-not-take_children.ensures.agrees s s.count (omega (arith, c.requires.node)) (subst P (sym c.requires.ids) (grown c.args.e.now s h (few s.count _ size f.few) f.packets)) a in
    (refl, agrees_like s v _ (c.args.node + 1) 27 refl refl w.1)
