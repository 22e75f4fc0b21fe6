use Rattle.fw_trace.proofs.Common.{take}
use Rattle.fw_trace.proofs.PieceLaws.{none_taken, one_taken, read_none, read_one, all_used}
use Rattle.fw_trace.proofs.entries.take_other.Goals as goal

pub returns-in-Ok-put-clause-takes : goal.returns-in-Ok-put-clause-takes
returns-in-Ok-put-clause-takes c = λ entries bytes h.
    let next = read_one entries bytes c.args.piece.now c.in-Ok.fed.used c.in-Ok.fed.entry c.in-Some.entry c.feed_apart.new.self c.in-Some.is (c.in-Ok.ensures.history entries bytes h) in
    one_taken entries bytes
    (take c.in-Ok.fed.used c.args.piece.now) c.in-Some.entry c.args.tracer.now c.put.new.self c.feed_apart.new.self next c.in-Ok-put.ensures.text c.in-Ok-put.ensures.kept

pub returns-in-None-clause-takes : goal.returns-in-None-clause-takes
returns-in-None-clause-takes c = λ entries bytes h.
    let whole = all_used c.args.reader.now.fault c.args.reader.now.stand c.args.reader.now.taken c.args.piece.now c.in-Ok.fed c.feed_apart.new.self h.no_fault c.in-Ok.ensures.fresh c.in-None.is in
    let read = read_none entries bytes c.args.piece.now c.in-Ok.fed.used c.in-Ok.fed.entry c.feed_apart.new.self c.in-None.is (c.in-Ok.ensures.history entries bytes h) in
    none_taken entries bytes c.args.piece.now c.in-Ok.fed.used c.args.tracer.now c.feed_apart.new.self whole read
