use Rattle.fw_watch.proofs.PutLaws.{on_ok, on_both, room_lines, room_watches}
use Rattle.fw_watch.proofs.watch.Watch.put.Goals as goal

pub returns-clause-lines : goal.returns-clause-lines
returns-clause-lines c before w =
    on_ok c.follow_entry.result
    (λ n. room_lines c.args.self.now c.self.inside.journal c.self.inside.state.value c.deref_mut.result.now c.follow_entry.new.journal before c.args.t.now c.self.view_is c.deref_mut.ensures.value w n)
    c.follow_entry.ensures.lines

pub returns-clause-following : goal.returns-clause-following
returns-clause-following c before w =
    on_both c.follow_entry.result
    (λ n m. room_watches c.args.self.now _ c.self.inside.journal c.self.inside.state.value c.deref_mut.result.now before c.args.t.now c.self.view_is c.deref_mut.ensures.value w n m)
    c.follow_entry.ensures.lines c.follow_entry.ensures.known
