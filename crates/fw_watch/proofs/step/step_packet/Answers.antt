use Rattle.fw_log_entry.specs.declared.entry.Entry.TheVariants.{Async}
use Rattle.fw_watch.specs.Steps.{what_remarks, after_what}
use Rattle.fw_watch.proofs.PutLaws.{on_ok}
use Rattle.fw_watch.proofs.StepLaws.{entry_lines, entry_known}
use Rattle.fw_watch.proofs.step.step_packet.Goals as goal

pub returns-clause-lines : goal.returns-clause-lines
unfolding what_remarks
returns-clause-lines c = λ p s.
    on_ok c.take_packet_bytes.result
    (λ n. entry_lines c.args.state.now c.tick.new.state c.args.journal.now c.tick.new.journal c.take_packet_bytes.new.journal c.args.cycle
    (Async p) c.in_ok-tick.ensures.lines c.in_ok-tick.ensures.known n)
    (c.take_packet_bytes.ensures.lines p s)

pub returns-clause-known : goal.returns-clause-known
unfolding after_what
returns-clause-known c = λ p s.
    on_ok c.take_packet_bytes.result
    (λ n. entry_known c.args.state.now c.tick.new.state c.take_packet_bytes.new.state c.args.cycle (Async p) c.in_ok-tick.ensures.known n)
    (c.take_packet_bytes.ensures.known p s)
