use Rattle.fw_tree.proofs.Common.{◌≡◌, ◌<◌, ◌≤◌, ◌+◌, ◌-◌, ℕ, None, inl, arith, peer}
use Rattle.std.proofs.Common.{rules}
use Rattle.fw_tree.proofs.DueLaws.{Going, going_all, going_first, going_on, marked_more, due_next}
use Rattle.fw_tree.proofs.ForestLaws.{none_of}
use Rattle.fw_tree.proofs.ParentLaws.{leave_more, leave_fewer, leave_same}
use Rattle.fw_tree.proofs.rounds.leave.Goals as goal
use Rattle.fw_tree.proofs.rounds.leave.Goals.{then-before-d, else-before-d, After-loop-d}

pub loop-d-init : goal.loop-d-init
loop-d-init c = going_first c.args.g.now c.args.round c.args.now.now.stays _ c.args.parents.now (search rules)

pub loop-d-preserved : goal.loop-d-preserved
loop-d-preserved c =
    let i = c.loop-d.invariant in
    let g = c.args.g.now in
    let round = c.args.round in
    let old = c.args.now.now.stays in
    let was = c.args.parents.now in
    let now = c.loop-d.now in
    let par = c.loop-d.parents in
    let low : c.loop-d.d < 63 = omega arith in
    elim c.if-before-d.branch [
      | then-before-d w ↦
          let e = w.leave_one-left.ensures in
          let then = w.leave_one-left.new.after in
          let left = w.leave_one-left.result in
          rw (w.now-is, w.parents-is, w.changed-is) (record {
            leave = leave_more g round old now.stays then.stays was par w.leave_one-left.new.parents c.loop-d.d left low i.leave e.left e.gone e.notes e.others e.same e.same_parents;
            marked = marked_more g round old now.stays then.stays now.due then.due was par c.loop-d.d left i.leave i.marked e.gone e.same e.keeps e.marked;
            same = leave_same old now.stays then.stays c.loop-d.changed left i.same e.same;
            fewer = leave_fewer g round old now.stays then.stays was par c.loop-d.d c.loop-d.changed left i.leave i.same i.fewer e.left e.gone e.same;
          })
      | else-before-d w ↦ rw (w.now-is, w.parents-is, w.changed-is)
          (going_on g round old c.args.now.now.due now.stays now.due was par c.loop-d.changed c.loop-d.d low i (c.requires.due c.loop-d.d low) w.if-before-d.false)
    ]

-- the devices after those that are there have no cables
all : (c : After-loop-d) → Going c.args.g.now c.args.round c.args.now.now.stays c.loop-d.now.stays c.loop-d.now.due c.args.parents.now c.loop-d.parents c.loop-d.changed 63
all c =
    let g = c.args.g.now in
    let end : c.loop-d.d + (63 - c.loop-d.d) ≡ 63 = omega arith in
    let none : (k p : ℕ) → c.loop-d.d ≤ k → peer g k p ≡ None = λ k p high. none_of (peer g k p) (λ e is. let low = c.requires.declared k p e is in omega arith) in
    going_all g c.args.round c.args.now.now.stays c.loop-d.now.stays c.loop-d.now.due c.args.parents.now c.loop-d.parents c.loop-d.changed (63 - c.loop-d.d) c.loop-d.d end none c.loop-d.invariant

pub returns-clause-after : goal.returns-clause-after
returns-clause-after c = λ d low. (all c).leave.done d low

pub returns-clause-notes : goal.returns-clause-notes
returns-clause-notes c = λ d low. (all c).leave.notes d low

pub returns-clause-others : goal.returns-clause-others
returns-clause-others c = λ d low same. (all c).leave.others d (inl same)

pub returns-clause-due : goal.returns-clause-due
returns-clause-due c = λ d low.
    let i = all c in
    due_next c.args.g.now c.args.now.now.stays c.loop-d.now.stays c.loop-d.now.due d c.requires.range c.requires.cables (λ k h. i.leave.done k h) i.marked low
