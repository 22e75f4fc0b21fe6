use Rattle.fw_log_entry.specs.declared.entry.Entry.TheVariants.{Iso}
use Rattle.fw_watch.specs.Steps.{at_cycle}
use Rattle.fw_watch.proofs.PutLaws.{on_ok, on_both, room_lines, room_watches}
use Rattle.fw_watch.proofs.watch.Watch.put_iso.Goals as goal

pub returns-clause-lines : goal.returns-clause-lines
returns-clause-lines c before w =
    on_ok c.step_iso.result
    (λ n. room_lines c.args.self.now c.self.inside.journal c.self.inside.state.value c.deref_mut.result.now c.step_iso.new.journal before
    (at_cycle c.args.cycle (Iso c.args.p.now)) c.self.view_is c.deref_mut.ensures.value w n)
    (c.step_iso.ensures.lines)

pub returns-clause-following : goal.returns-clause-following
returns-clause-following c before w =
    on_both c.step_iso.result
    (λ n m. room_watches c.args.self.now _ c.self.inside.journal c.self.inside.state.value c.deref_mut.result.now before
    (at_cycle c.args.cycle (Iso c.args.p.now)) c.self.view_is c.deref_mut.ensures.value w n m)
    (c.step_iso.ensures.lines) (c.step_iso.ensures.known)
