use Rattle.std.proofs.Common.{◌≡◌, ap, sym, ◌∙◌, ℕ, arith}
use Rattle.fw_watch_remarks.specs.Knowing.{bit_of}
use Rattle.fw_watch.specs.Swaps.{next_count, changes_to}
use Rattle.fw_watch.proofs.SwapLaws.{none_differ, differ_more, differ_at_most}
use Rattle.fw_watch.proofs.swap.changes.Goals as goal

pub loop-at-init : goal.loop-at-init
loop-at-init c = sym (none_differ c.args.old c.args.new)

pub next_count-count-requires : goal.next_count-count-requires
next_count-count-requires c =
    let so_far : c.loop-at.count ≡ changes_to c.loop-at.at c.args.old c.args.new = c.loop-at.invariant in
    record { few = omega (arith, so_far, differ_at_most c.loop-at.at c.args.old c.args.new); bit = omega arith }

pub loop-at-preserved : goal.loop-at-preserved
loop-at-preserved c =
    c.next_count-count.ensures ∙ ap (λ (n : ℕ). next_count n (bit_of c.args.old c.loop-at.at) (bit_of c.args.new c.loop-at.at)) c.loop-at.invariant
    ∙ sym (differ_more c.loop-at.at c.args.old c.args.new)
