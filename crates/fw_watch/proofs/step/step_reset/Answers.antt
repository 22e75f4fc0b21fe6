use Rattle.std.proofs.Common.{◌∙◌, ap}
use Rattle.fw_log_entry.specs.declared.entry.Entry.TheVariants.{Reset as ResetOf}
use Rattle.fw_watch_remarks.specs.Remarks.{told}
use Rattle.fw_watch.specs.Steps.{what_remarks, after_what}
use Rattle.fw_watch.proofs.PutLaws.{on_ok}
use Rattle.fw_watch.proofs.StepLaws.{entry_lines, entry_known, same_reset_remarks, same_reset_state}
use Rattle.fw_watch.proofs.step.step_reset.Goals as goal

pub returns-clause-lines : goal.returns-clause-lines
unfolding what_remarks
returns-clause-lines c = λ whole x.
    on_ok c.take_reset.result
    (λ n. entry_lines c.args.state.now c.tick.new.state c.args.journal.now c.tick.new.journal c.take_reset.new.journal c.args.cycle
    (ResetOf whole) c.in_ok-tick.ensures.lines c.in_ok-tick.ensures.known (n ∙ ap (told c.tick.new.journal) (same_reset_remarks c.args.cycle whole c.args.r.now x)))
    (c.take_reset.ensures.lines)

pub returns-clause-known : goal.returns-clause-known
unfolding after_what
returns-clause-known c = λ whole x.
    on_ok c.take_reset.result
    (λ n. entry_known c.args.state.now c.tick.new.state c.take_reset.new.state c.args.cycle (ResetOf whole) c.in_ok-tick.ensures.known
    (n ∙ same_reset_state c.args.cycle whole c.args.r.now c.tick.new.state x))
    (c.take_reset.ensures.known)
