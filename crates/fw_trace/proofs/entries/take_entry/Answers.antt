use Rattle.fw_trace.proofs.Common.{◌≡◌, subst, sym, HasRead, Traced}
use Rattle.fw_log.specs.Reader.{State}
use Rattle.fw_trace.specs.Telling.{TakesOne}
use Rattle.fw_trace.proofs.PieceLaws.{known_one, unknown_same}
use Rattle.fw_trace.proofs.entries.take_entry.Goals as goal

pub returns-in-Some-clause-takes : goal.returns-in-Some-clause-takes
returns-in-Some-clause-takes c = λ entries bytes h.
    known_one entries bytes c.args.piece.now c.args.tracer.now c.take_known.new.tracer c.take_known.new.reader _ c.in-Some.used c.in-Some.is (c.in_ok-known.ensures.takes entries bytes h)

pub returns-in-None-clause-takes : goal.returns-in-None-clause-takes
returns-in-None-clause-takes c = λ entries bytes h.
    let P : Type 0 = (c.take_known.new.tracer ≡ c.args.tracer.now) × (c.take_known.new.reader ≡ c.args.reader.now) in
    let s : P = unknown_same P c.in_ok-known.known c.in-None.is c.in_ok-known.ensures.same in
    let before : HasRead entries bytes c.take_known.new.reader = subst (λ (r : State). HasRead entries bytes r) (sym s.1) h in
    subst (λ (t : Traced). TakesOne entries bytes c.args.piece.now t c.take_other.new.tracer c.take_other.new.reader c.take_other.result) s.0 (c.take_other.ensures.takes entries bytes before)
