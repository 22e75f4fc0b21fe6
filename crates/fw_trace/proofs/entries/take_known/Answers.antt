use Rattle.fw_trace.proofs.Common.{take}
use Rattle.fw_trace.proofs.PieceLaws.{known_taken}
use Rattle.fw_trace.proofs.entries.take_known.Goals as goal

pub put_body-put-requires : goal.put_body-put-requires
put_body-put-requires c = (c.in-Some.ensures.next.entry.what, c.in-Some.ensures.next.made)

pub returns-in-Ok-clause-takes : goal.returns-in-Ok-clause-takes
returns-in-Ok-clause-takes c = λ entries bytes h.
    let x = c.go_past-used.ensures.history c.in-Some.field-0.body c.in-Some.ensures entries bytes h in
    known_taken entries bytes (take c.go_past-used.result c.args.piece.now) x.entry c.in-Some.field-0.passed.cycle c.args.tracer.now c.put_body-put.new.tracer c.go_past-used.new.self
    c.put_body-put.result c.in-Ok.field-0 x.read x.cycle (c.put_body-put.ensures x.entry.what x.made) c.in-Ok.is
