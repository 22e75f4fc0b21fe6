use Rattle.fw_ledger.proofs.Common.{length, sym, ◌∙◌, ap, length-set, NodeRow}
use Rattle.fw_account_tables.proofs.Starts.{no_count, no_plug}
use Rattle.fw_ledger.proofs.PlugCounts.{count_more}
use Rattle.fw_ledger.proofs.counts.ins_of.Goals as goal

pub loop-row-init : goal.loop-row-init
loop-row-init c = λ p. rw (no_count p.device) (no_plug p.plug)

pub loop-row-preserved : goal.loop-row-preserved
loop-row-preserved c = λ p.
    let d : NodeRow = record { device = 0; outs = 0; ins = 0; kind = 0 } in
    rw c.raise.ensures (count_more (λ (row : NodeRow). row.ins) c.args.nodes.now c.loop-row.row-index d c.loop-row.counts c.loop-row-test.true
    (sym (length-set c.loop-row.counts _ _) ∙ ap length (sym c.raise.ensures) ∙ c.raise.array_long)
    (c.requires c.loop-row.row-index d c.loop-row-test.true).device c.loop-row.invariant p)
