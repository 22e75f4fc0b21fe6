use Rattle.fw_explore.proofs.Common.{◌<◌, List, length, get_or, sym, ap, subst, ◌∙◌, arith, Line, Mover}
use Rattle.fw_explore.proofs.UnknownLaws.{MoversKnown, line_unknown, lines_more, mover_unknown, movers_more}
use Rattle.fw_explore.proofs.unknown.first_unknown.Goals as goal

pub loop-mover-preserved : goal.loop-mover-preserved
loop-mover-preserved c =
    let read = c.deref-mover-items.ensures.value in
    movers_more c.args.machine.now.devices.names c.args.explored.now c.loop-mover.mover-index c.loop-mover.invariant c.mover-item.result
    (subst (λ (ms : List Mover). c.loop-mover.mover-index < length ms) read c.loop-mover-test.true)
    (c.mover-item.is ∙ ap (λ (ms : List Mover). get_or ms c.loop-mover.mover-index c.mover-item.result) read)
    (sym c.is_known.ensures ∙ c.if-not-is_known.false)

pub returns-then-not-is_known : goal.returns-then-not-is_known
returns-then-not-is_known c s stands order =
    let read = c.deref-mover-items.ensures.value in
    mover_unknown c.args.machine.now.devices.names c.args.explored.now s stands.devices.names order c.loop-mover.mover-index c.mover-item.result
    (subst (λ (ms : List Mover). c.loop-mover.mover-index < length ms) read c.loop-mover-test.true)
    (c.mover-item.is ∙ ap (λ (ms : List Mover). get_or ms c.loop-mover.mover-index c.mover-item.result) read)
    (sym c.is_known.ensures ∙ c.if-not-is_known.true) c.loop-mover.invariant

pub loop-line-preserved : goal.loop-line-preserved
loop-line-preserved c =
    let read = c.deref-line-items.ensures.value in
    lines_more c.args.machine.now.devices.names c.args.explored.now c.loop-line.line-index c.loop-line.invariant c.line-item.result
    (subst (λ (ls : List Line). c.loop-line.line-index < length ls) read c.loop-line-test.true)
    (c.line-item.is ∙ ap (λ (ls : List Line). get_or ls c.loop-line.line-index c.line-item.result) read)
    (sym c.is_known-in-loop-line.ensures ∙ c.if-not-is_known-2.false)

pub returns-then-not-is_known-2 : goal.returns-then-not-is_known-2
returns-then-not-is_known-2 c s stands order =
    let read = c.deref-line-items.ensures.value in
    let size = ap (λ (ms : List Mover). length ms) c.deref-mover-items.ensures.value in
    let end = c.loop-mover-test.false in
    let most = c.loop-mover.auto.mover-index-end in
    line_unknown c.args.machine.now.devices.names c.args.explored.now s stands.devices.names order c.loop-line.line-index c.line-item.result
    (subst (λ (ls : List Line). c.loop-line.line-index < length ls) read c.loop-line-test.true)
    (c.line-item.is ∙ ap (λ (ls : List Line). get_or ls c.loop-line.line-index c.line-item.result) read)
    (sym c.is_known-in-loop-line.ensures ∙ c.if-not-is_known-2.true)
    (subst (MoversKnown c.args.machine.now.devices.names c.args.explored.now) (omega (arith, size, end, most)) c.loop-mover.invariant) c.loop-line.invariant
