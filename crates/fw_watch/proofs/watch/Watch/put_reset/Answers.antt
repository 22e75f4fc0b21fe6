use Rattle.fw_log_entry.specs.declared.entry.Entry.TheVariants.{Reset as ResetOf}
use Rattle.fw_watch.specs.Steps.{at_cycle}
use Rattle.fw_watch.proofs.PutLaws.{on_ok, on_both, room_lines, room_watches}
use Rattle.fw_watch.proofs.watch.Watch.put_reset.Goals as goal

pub returns-clause-lines : goal.returns-clause-lines
returns-clause-lines c whole x before w =
    on_ok c.step_reset.result
    (λ n. room_lines c.args.self.now c.self.inside.journal c.self.inside.state.value c.deref_mut.result.now c.step_reset.new.journal before
    (at_cycle c.args.cycle (ResetOf whole)) c.self.view_is c.deref_mut.ensures.value w n)
    (c.step_reset.ensures.lines whole x)

pub returns-clause-following : goal.returns-clause-following
returns-clause-following c whole x before w =
    on_both c.step_reset.result
    (λ n m. room_watches c.args.self.now _ c.self.inside.journal c.self.inside.state.value c.deref_mut.result.now before
    (at_cycle c.args.cycle (ResetOf whole)) c.self.view_is c.deref_mut.ensures.value w n m)
    (c.step_reset.ensures.lines whole x) (c.step_reset.ensures.known whole x)
