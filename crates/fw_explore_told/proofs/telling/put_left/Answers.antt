use Rattle.std.proofs.Common.{ℕ, ◌<◌, List, ◌++◌, length, refl, sym, ap, ◌∙◌, arith, append-nil}
use Rattle.fw_explore_told.proofs.SayingLaws.{none_unmarked, unmarked_more}
use Rattle.fw_explore_told.proofs.telling.put_left.Goals as goal

pub loop-at-init : goal.loop-at-init
loop-at-init c = sym (ap (λ (z : List ℕ). c.args.out.now.items ++ z) (none_unmarked c.args.done.now) ∙ append-nil c.args.out.now.items)

pub loop-at-preserved : goal.loop-at-preserved
loop-at-preserved c =
    let within : c.loop-at.at < length c.args.movers.now = omega (arith, c.loop-at-test.true, c.loop-at.auto.at-end) in
    unmarked_more c.args.done.now c.args.out.now.items c.args.movers.now c.loop-at.at c.index-movers-at.result _ within (sym c.index-movers-at.is) refl _ _
    c.loop-at.invariant c.in_ok-put_unmarked.ensures
