use Rattle.fw_trace.proofs.Common.{sym, ◌∙◌}
use Rattle.fw_script_words.proofs.Calls.{may_read}
use Rattle.fw_script_words.proofs.Passings.{look_same}
use Rattle.fw_trace.proofs.NextLaws.{none_next}
use Rattle.fw_trace.proofs.LookLaws.{fault_traced, measured, tracing_looked}
use Rattle.fw_trace.proofs.line.trace_next.Goals as goal

pub find_line-requires : goal.find_line-requires
find_line-requires g c = may_read c.requires.tracing.tracing.going.read

pub trace_line-requires-clause-tracing : goal.trace_line-requires-clause-tracing
trace_line-requires-clause-tracing g c =
    let x = c.requires.tracing in
    record { left = x.left; held = x.held; tracing = tracing_looked x.tracing (g.S.Source.left c.find_line.new.source) c.find_line.new.self c.in-Ok-Some.ensures.takes c.in-Ok-Some.ensures.stage }

pub carry_alone-requires-clause-tracing : goal.carry_alone-requires-clause-tracing
carry_alone-requires-clause-tracing g c =
    let x = c.requires.tracing in
    record { left = x.left; held = x.held; tracing = tracing_looked x.tracing (g.S.Source.left c.find_line.new.source) c.find_line.new.self c.in-Ok-None.ensures.takes c.in-Ok-None.ensures.stage }

pub carry_alone-requires-clause-none : goal.carry_alone-requires-clause-none
carry_alone-requires-clause-none g c =
    none_next c.find_line.new.self (λ e. may_read c.requires.tracing.tracing.going.read (sym c.in-Ok-None.ensures.stage ∙ e)) (rw c.in-Ok-None.field-0-is at c.in-Ok-None.ensures.line)

pub returns-in-Err-clause-goes : goal.returns-in-Err-clause-goes
returns-in-Err-clause-goes g c = λ left held t.
    fault_traced t (g.S.Source.left c.find_line.new.source) c.find_line.new.self c.in-Err.ensures.gives c.in-Err.ensures.held c.in-Err.ensures.failed

pub returns-in-Ok-Some-clause-goes : goal.returns-in-Ok-Some-clause-goes
returns-in-Ok-Some-clause-goes g c = λ left held t.
    let before = g.S.Source.left c.args.source.now in
    let mid = g.S.Source.left c.find_line.new.source in
    measured _ left (g.S.Source.left c.trace_line.new.source) held
    (g.K.Sink.held c.trace_line.new.telling.inner.now) c.args.reader.now c.find_line.new.self c.trace_line.new.reader c.trace_line.new.bus
    c.trace_line.new.telling.teller.now.tracer c.trace_line.new.telling.teller.now.history.bytes c.trace_line.result
    (look_same c.args.reader.now c.find_line.new.self before mid c.in-Ok-Some.ensures.takes)
    (c.trace_line.ensures.goes left held (tracing_looked t mid c.find_line.new.self c.in-Ok-Some.ensures.takes c.in-Ok-Some.ensures.stage))

pub returns-in-Ok-None-clause-goes : goal.returns-in-Ok-None-clause-goes
returns-in-Ok-None-clause-goes g c = λ left held t.
    let before = g.S.Source.left c.args.source.now in
    let mid = g.S.Source.left c.find_line.new.source in
    measured _ left (g.S.Source.left c.carry_alone.new.source) held
    (g.K.Sink.held c.carry_alone.new.telling.inner.now) c.args.reader.now c.find_line.new.self c.carry_alone.new.reader c.carry_alone.new.bus
    c.carry_alone.new.telling.teller.now.tracer c.carry_alone.new.telling.teller.now.history.bytes c.carry_alone.result
    (look_same c.args.reader.now c.find_line.new.self before mid c.in-Ok-None.ensures.takes)
    (c.carry_alone.ensures.goes left held (tracing_looked t mid c.find_line.new.self c.in-Ok-None.ensures.takes c.in-Ok-None.ensures.stage))
