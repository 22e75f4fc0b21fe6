use Rattle.fw_tree.proofs.Common.{ap, sym, subst, Option, Parent, is_seen, IsParent}
use Rattle.fw_tree.proofs.DueLaws.{due_first}
use Rattle.fw_tree.proofs.ParentLaws.{gone_first, gone_more, gone_settled, gone_parents}
use Rattle.fw_tree.proofs.rounds.parents.Goals as goal

pub loop-now-init : goal.loop-now-init
loop-now-init c = record { gone = gone_first c.args.g.now; due = due_first c.args.g.now }

pub loop-now-preserved : goal.loop-now-preserved
loop-now-preserved c =
    let e = c.leave.ensures in
    record {
      gone = gone_more c.args.g.now c.loop-now.round c.loop-now.now.stays c.leave.new.now.stays c.loop-now.parents c.leave.new.parents c.requires.range c.loop-now.invariant.gone e.after e.notes
          e.others (e.fewer c.loop-now-test.true);
      due = e.due;
    }

pub returns-clause-parents : goal.returns-clause-parents
returns-clause-parents c = λ d h.
    let e = c.leave.ensures in
    let same = e.same c.loop-now-test.false in
    let settled = gone_settled c.args.g.now c.loop-now.round c.loop-now.now.stays c.leave.new.now.stays c.loop-now.parents c.requires.range c.loop-now.invariant.gone e.after same in
    let P : Option Parent → Type 0 = IsParent c.args.g.now d in
    subst P (sym (e.others d h (ap (λ xs. is_seen xs d) same)))
    (gone_parents c.args.g.now c.loop-now.round c.loop-now.now.stays c.loop-now.parents c.requires.range c.loop-now.invariant.gone settled d h)

pub returns-clause-settled : goal.returns-clause-settled
returns-clause-settled c =
    let e = c.leave.ensures in (
      c.loop-now.round,
      gone_settled c.args.g.now c.loop-now.round c.loop-now.now.stays c.leave.new.now.stays c.loop-now.parents c.requires.range c.loop-now.invariant.gone e.after
          (e.same c.loop-now-test.false),
    )
