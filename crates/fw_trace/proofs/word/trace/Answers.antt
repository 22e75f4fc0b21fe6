use Rattle.fw_trace.proofs.HeaderLaws.{nothing_traced, trace_completes}
use Rattle.fw_trace.proofs.word.trace.Goals as goal

pub returns-in_default-clause-traces : goal.returns-in_default-clause-traces
returns-in_default-clause-traces g c = nothing_traced _ (g.S.Source.left c.args.source.now) (g.K.Sink.held c.args.sink.now)

pub returns-in_default-new-clause-traces : goal.returns-in_default-new-clause-traces
returns-in_default-new-clause-traces g c = nothing_traced _ (g.S.Source.left c.args.source.now) (g.K.Sink.held c.args.sink.now)

pub returns-in_default-new-2-clause-traces : goal.returns-in_default-new-2-clause-traces
returns-in_default-new-2-clause-traces g c = nothing_traced _ (g.S.Source.left c.args.source.now) (g.K.Sink.held c.args.sink.now)

pub returns-clause-complete : goal.returns-clause-complete
returns-clause-complete g c = λ script told valid.
    trace_completes _ script (g.S.Source.left c.args.source.now) (g.S.Source.left c.trace_all.new.source) _ _ c.trace_all.result c.trace_all.ensures.traces told valid
