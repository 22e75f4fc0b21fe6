use Rattle.fw_holders.proofs.Common.{◌++◌, ◌∙◌, ap, sym, List, ℕ, slice_index, append-nil, counts_below}
use Rattle.fw_holders_text.specs.Names.{who}
use Rattle.fw_holders.specs.Table.{with_count}
use Rattle.fw_holders.proofs.PlugLaws.{no_counts, next_count}
use Rattle.fw_holders.proofs.owners.put_counts.Goals as goal

pub loop-device-init : goal.loop-device-init
loop-device-init c = λ size. rw (no_counts c.args.nodes.now (slice_index c.args.counts.now)) (sym (append-nil c.args.text.now.items))

pub loop-device-preserved : goal.loop-device-preserved
loop-device-preserved c = λ size.
    let before : List ℕ = c.args.text.now.items in
    let told : List ℕ = counts_below c.loop-device.device c.args.nodes.now (slice_index c.args.counts.now) in
    c.in_ok-put_counted.ensures before told (c.loop-device.invariant size) size
    ∙ ap (λ k. before ++ with_count (slice_index c.args.counts.now k) (who c.args.nodes.now c.loop-device.device) told) c.from.ensures
    ∙ ap (λ (x : List ℕ). before ++ x) (sym (next_count c.loop-device.device c.args.nodes.now (slice_index c.args.counts.now)))
