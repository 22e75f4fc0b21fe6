use Rattle.fw_explore.proofs.Common.{sym, ap, subst, ◌∙◌, arith, Mover}
use Rattle.fw_explore_meaning.proofs.ThereLaws.{NoneWaits, none_first, none_more, all_came, earlier_waits}
use Rattle.fw_explore.proofs.Numbers.{mover_read, same_mover}
use Rattle.fw_explore.proofs.there.is_next.Goals as goal

pub loop-other-init : goal.loop-other-init
loop-other-init c = none_first c.args.explored.now c.args.done.now c.as_slice-line.result.now

pub loop-other-preserved : goal.loop-other-preserved
loop-other-preserved c =
    none_more c.args.explored.now c.args.done.now c.as_slice-line.result.now c.loop-other.other c.index-earlier.result.now
    (mover_read c.args.explored.now c.loop-other.other c.index-earlier.result.now (omega arith) c.index-earlier.ensures)
    (sym c.is_waiting.ensures ∙ c.if-is_waiting.false)
    c.loop-other.invariant

pub returns-then-is_waiting : goal.returns-then-is_waiting
returns-then-is_waiting c m is =
    let its = c.as_slice-line.ensures.value ∙ ap (λ (n : Mover). n.line.items) (same_mover c.args.explored.now c.args.mover c.index-this.result.now m c.requires.mover
    c.index-this.ensures is) in
    earlier_waits c.args.explored.now c.args.done.now c.as_slice-line.result.now c.args.mover m its c.loop-other.other c.index-earlier.result.now (omega arith)
    (mover_read c.args.explored.now c.loop-other.other c.index-earlier.result.now (omega arith) c.index-earlier.ensures)
    (sym c.is_waiting.ensures ∙ c.if-is_waiting.true)

pub returns : goal.returns
returns c m is =
    let its = c.as_slice-line.ensures.value ∙ ap (λ (n : Mover). n.line.items) (same_mover c.args.explored.now c.args.mover c.index-this.result.now m c.requires.mover
    c.index-this.ensures is) in
    all_came c.args.explored.now c.args.done.now c.as_slice-line.result.now c.args.mover m its (subst (NoneWaits c.args.explored.now c.args.done.now c.as_slice-line.result.now)
    (omega arith) c.loop-other.invariant)
