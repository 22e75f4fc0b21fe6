use Rattle.std.proofs.Common.{ap, sym, ◌∙◌, List}
use Rattle.fw_watch_remarks.specs.Remarks.{Said, told}
use Rattle.fw_watch.specs.Swaps.{change_remarks, changes_remarks}
use Rattle.fw_watch.proofs.WatchLaws.{told_more}
use Rattle.fw_watch.proofs.SwapLaws.{no_changes, changes_more}
use Rattle.fw_watch.proofs.tell_swap.tell_changes.Goals as goal

pub loop-at-init : goal.loop-at-init
loop-at-init c = ap (told c.args.journal.now) (sym (no_changes c.args.state.now c.args.m.now c.args.first))

pub loop-at-preserved : goal.loop-at-preserved
loop-at-preserved c =
    let before : List Said = changes_remarks c.loop-at.at c.args.state.now c.args.m.now c.args.first in
    let one : List Said = change_remarks c.args.state.now c.args.m.now c.args.first c.loop-at.at in
    c.in_ok-tell_change.ensures ∙ ap (λ j. told j one) c.loop-at.invariant ∙ sym (told_more c.args.journal.now before one)
    ∙ ap (told c.args.journal.now) (sym (changes_more c.loop-at.at c.args.state.now c.args.m.now c.args.first))
