use Rattle.fw_log_entry.specs.declared.entry.Entry.TheVariants.{Iso}
use Rattle.fw_watch.specs.Steps.{what_remarks, after_what}
use Rattle.fw_watch.proofs.PutLaws.{on_ok}
use Rattle.fw_watch.proofs.StepLaws.{entry_lines, entry_known}
use Rattle.fw_watch.proofs.step.step_iso.Goals as goal

pub returns-clause-lines : goal.returns-clause-lines
unfolding what_remarks
returns-clause-lines c = on_ok c.take_iso.result
    (λ n. entry_lines c.args.state.now c.tick.new.state c.args.journal.now c.tick.new.journal c.take_iso.new.journal c.args.cycle
    (Iso c.args.p.now) c.in_ok-tick.ensures.lines c.in_ok-tick.ensures.known n)
    (c.take_iso.ensures.lines)

pub returns-clause-known : goal.returns-clause-known
unfolding after_what
returns-clause-known c = on_ok c.take_iso.result
    (λ n. entry_known c.args.state.now c.tick.new.state c.take_iso.new.state c.args.cycle (Iso c.args.p.now) c.in_ok-tick.ensures.known n)
    (c.take_iso.ensures.known)
