use Rattle.std.proofs.Common.{◌≡◌, ◌+◌, ◌-◌, ◌∙◌, ℕ, suc, None, refl, sym, arith}
use Rattle.fw_watch_known.specs.Channels.{late_to}
use Rattle.fw_watch.proofs.HeldLaws.{no_late, stop_lines, stop_known, next_lines, next_known, end_lines, end_known}
use Rattle.fw_watch.proofs.held.tell_held.Goals as goal

pub loop-told-init : goal.loop-told-init
loop-told-init c = record { lines = refl; known = refl }

pub returns-then-not-more-clause-lines : goal.returns-then-not-more-clause-lines
returns-then-not-more-clause-lines c =
    let none : late_to 64 c.loop-told.state.channels c.args.cycle ≡ None = no_late _ (sym c.in_ok-more.ensures.more ∙ c.if-not-more.true) in
    stop_lines (64 - c.loop-told._told) c.args.cycle c.loop-told.state c.loop-told.journal _ c.in_ok-more.ensures.lines none ∙ sym c.loop-told.invariant.lines

pub returns-then-not-more-clause-known : goal.returns-then-not-more-clause-known
returns-then-not-more-clause-known c =
    let none : late_to 64 c.loop-told.state.channels c.args.cycle ≡ None = no_late _ (sym c.in_ok-more.ensures.more ∙ c.if-not-more.true) in
    stop_known (64 - c.loop-told._told) c.args.cycle c.loop-told.state _ c.in_ok-more.ensures.known none ∙ sym c.loop-told.invariant.known

pub loop-told-preserved : goal.loop-told-preserved
loop-told-preserved c =
    let n : ℕ = 64 - c.loop-told._told in
    let m : ℕ = 64 - (c.loop-told._told + 1) in
    let one_less : n ≡ suc m = omega arith in
    record {
      lines = c.loop-told.invariant.lines ∙ next_lines n m c.args.cycle c.loop-told.state _ c.loop-told.journal _ one_less c.in_ok-more.ensures.lines c.in_ok-more.ensures.known;
      known = c.loop-told.invariant.known ∙ next_known n m c.args.cycle c.loop-told.state _ one_less c.in_ok-more.ensures.known;
    }

pub returns-clause-lines : goal.returns-clause-lines
returns-clause-lines c =
    sym (c.loop-told.invariant.lines ∙ end_lines (64 - c.loop-told._told) c.args.cycle c.loop-told.state c.loop-told.journal (omega arith))

pub returns-clause-known : goal.returns-clause-known
returns-clause-known c =
    sym (c.loop-told.invariant.known ∙ end_known (64 - c.loop-told._told) c.args.cycle c.loop-told.state (omega arith))
