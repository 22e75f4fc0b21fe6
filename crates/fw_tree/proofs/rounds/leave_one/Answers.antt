use Rattle.fw_tree.proofs.Common.{◌<◌, None, refl, sym, ◌∙◌, get_or-set_same, arith, is_seen}
use Rattle.fw_tree.specs.Parents.{Notes}
use Rattle.fw_tree.proofs.DueLaws.{open_marked}
use Rattle.fw_tree.proofs.RoundLaws.{in_range}
use Rattle.fw_tree.proofs.SeenLaws.{seen_same}
use Rattle.fw_tree.proofs.TieLaws.{left_first, none_left}
use Rattle.fw_tree.proofs.rounds.leave_one.Goals as goal
use Rattle.fw_tree.proofs.rounds.leave_one.Goals.{then-has_left, else-has_left}

pub returns-clause-notes : goal.returns-clause-notes
returns-clause-notes c = λ _.
    let g = c.args.g.now in
    let s = is_seen c.args.before.now in
    let t = is_seen c.args.after.now.stays in
    let cable = c.in-Some.cable in
    let e = c.in-Some.ensures in
    let noted : Notes g s c.args.round c.args.d c.if-has_left.parents = elim c.if-has_left.branch [
      | then-has_left w ↦ rw (w.parents-is) (left_first g s t c.args.d cable.port cable.end c.requires.cables e.leaves e.end c.requires.before (sym c.has_left.ensures ∙ w.if-has_left.true))
      | else-has_left w ↦ rw (w.parents-is) (refl, e.port, e.leaves, none_left g s t c.args.d cable.port cable.end e.leaves e.end c.requires.before (sym c.has_left.ensures ∙ w.if-has_left.false))
    ] in
    rw (get_or-set_same c.args.parents.now c.args.d c.if-has_left.parents None (omega arith)) noted

pub returns-clause-marked : goal.returns-clause-marked
returns-clause-marked c = λ _.
    let cable = c.in-Some.cable in
    let e = c.in-Some.ensures in
    let low : cable.end.device < 63 = in_range c.args.g.now c.requires.range c.args.d cable.port cable.end e.end in
    open_marked c.args.g.now (is_seen c.args.before.now) c.args.d cable.port cable.end _ e.leaves e.end (seen_same c.args.after.now.due cable.end.device (omega arith))
