use Rattle.fw_log_entry.specs.declared.entry.Entry.TheVariants.{Async}
use Rattle.fw_watch.specs.Steps.{at_cycle}
use Rattle.fw_watch.proofs.PutLaws.{on_ok, on_both, room_lines, room_watches}
use Rattle.fw_watch.proofs.watch.Watch.put_packet.Goals as goal

pub returns-clause-lines : goal.returns-clause-lines
returns-clause-lines c p s before w =
    on_ok c.step_packet.result
    (λ n. room_lines c.args.self.now c.self.inside.journal c.self.inside.state.value c.deref_mut.result.now c.step_packet.new.journal before
    (at_cycle c.args.cycle (Async p)) c.self.view_is c.deref_mut.ensures.value w n)
    (c.step_packet.ensures.lines p s)

pub returns-clause-following : goal.returns-clause-following
returns-clause-following c p s before w =
    on_both c.step_packet.result
    (λ n m. room_watches c.args.self.now _ c.self.inside.journal c.self.inside.state.value c.deref_mut.result.now before
    (at_cycle c.args.cycle (Async p)) c.self.view_is c.deref_mut.ensures.value w n m)
    (c.step_packet.ensures.lines p s) (c.step_packet.ensures.known p s)
