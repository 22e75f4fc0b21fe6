use Rattle.fw_tree.proofs.Common.{◌≡◌, ◌<◌, ◌≤◌, ◌+◌, ◌-◌, Bool, None, ap, sym, ◌∙◌, arith, ℕ, List, Option, subst, get_or_past, peer, Ports, counted, has_number}
use Rattle.fw_tree.proofs.Common.{rank, parent_at}
use Rattle.fw_tree.proofs.PlacedLaws.{ports_all}
use Rattle.fw_tree.proofs.TreeLaws.{ports_first, ports_child, ports_none, ports_childless, child_lower, childless}
use Rattle.fw_tree.proofs.numbers.+number_branch.Goals as goal
use Rattle.fw_tree.proofs.numbers.+number_branch.Goals.{in-None, in-Some+then-is_leaf, in-Some+else-is_leaf}

pub loop-p-init : goal.loop-p-init
loop-p-init t c = record { size = omega (arith, c.told-number); ports = λ root on paths. ports_first c.args.g.now c.args.parents.now root on paths c.args.d c.args.number.now; next = c.requires.next }

pub number_branch-next-requires : goal.number_branch-next-requires
number_branch-next-requires t c =
    let lower : rank (parent_at c.args.parents.now c.in-Some.child) < rank (parent_at c.args.parents.now c.args.d) =
    child_lower c.args.g.now c.args.parents.now c.args.d c.loop-p.p c.in-Some.child c.requires.cables c.requires.parents c.requires.device c.in-Some.ensures.within c.in-Some.ensures.child in
    let falls : rank (parent_at c.args.parents.now c.in-Some.child) < t = omega (arith, c.decreases) in
    (falls, (c.requires.range, (c.requires.cables, (c.requires.placed, (c.requires.parents, (c.in-Some.ensures.within, c.loop-p.invariant.next))))))

pub loop-p-preserved : goal.loop-p-preserved
loop-p-preserved t c = record {
  size = c.match-child_at.array_long;
  ports = λ root on paths.
      let g = c.args.g.now in
      let par = c.args.parents.now in
      let P : List (Option ℕ) → Type 0 = Ports g par root on paths c.args.d (c.loop-p.p + 1) c.args.number.now in
      elim c.match-child_at.branch [
        | in-Some+then-is_leaf w ↦
            let first : rank (parent_at par w.in-Some.child) ≡ 0 = w.is_leaf.ensures w.if-is_leaf.true in
            let none = childless g par w.in-Some.child c.requires.range c.requires.cables c.requires.parents w.in-Some.ensures.within first in
            let ports = ports_childless g par root on paths w.in-Some.child 27 c.loop-p.number none in
            subst P (sym w.number-is)
            (ports_child g par root on paths c.args.d c.loop-p.p w.in-Some.child c.args.number.now c.loop-p.number w.number_one-next.new.number w.in-Some.ensures.child
            (c.loop-p.invariant.ports root on paths) (w.number_one-next.ensures.branch g par root on paths c.loop-p.number ports))
        | in-Some+else-is_leaf w ↦ subst P (sym w.number-is)
            (ports_child g par root on paths c.args.d c.loop-p.p w.in-Some.child c.args.number.now c.loop-p.number w.number_branch-next.new.number w.in-Some.ensures.child
            (c.loop-p.invariant.ports root on paths) (w.number_branch-next.ensures.branch root on paths))
        | in-None w ↦ subst P (sym w.number-is) (ports_none g par root on paths c.args.d c.loop-p.p c.args.number.now c.loop-p.number w.in-None.ensures.none
            (c.loop-p.invariant.ports root on paths))
      ];
  next =
      let Q : List (Option ℕ) → Type 0 = λ number. c.match-child_at.next ≡ counted (has_number number) 63 in
      elim c.match-child_at.branch [
        | in-Some+then-is_leaf w ↦ subst Q (sym w.number-is) (w.next-is ∙ w.number_one-next.ensures.next)
        | in-Some+else-is_leaf w ↦ subst Q (sym w.number-is) (w.next-is ∙ w.number_branch-next.ensures.next)
        | in-None w ↦ subst Q (sym w.number-is) (w.next-is ∙ c.loop-p.invariant.next)
      ];
}

pub returns-clause-branch : goal.returns-clause-branch
returns-clause-branch t c = λ root on paths.
    let g = c.args.g.now in
    let par = c.args.parents.now in
    let ports = c.cables_of-p-end.result.now in
    let last : c.loop-p.p + (27 - c.loop-p.p) ≡ 27 = omega (arith, c.cables_of-p-end.ensures.most) in
    let none : (q : ℕ) → c.loop-p.p ≤ q → peer g c.args.d q ≡ None =
    λ q h. ap (λ (d : ℕ). peer g d q) (sym c.from.ensures) ∙ sym (c.cables_of-p-end.ensures.ports q) ∙ get_or_past ports q None (omega (arith, h)) in
    let P : ℕ → Type 0 = λ p. Ports g par root on paths c.args.d p c.args.number.now c.loop-p.number in
    c.number_one.ensures.branch g par root on paths c.args.number.now
    (subst P last (ports_all g par root on paths c.args.d c.loop-p.p (27 - c.loop-p.p) c.args.number.now c.loop-p.number none (c.loop-p.invariant.ports root on paths)))
