use Rattle.std.proofs.Common.{sym, subst}
use Rattle.fw_model_run.specs.Desks.{DeskRelations}
use Rattle.fw_tool.specs.declared.scripts.ScriptWord.{ScriptWord}
use Rattle.fw_tool.specs.Scripts.{RunsAs}
use Rattle.fw_tool.proofs.scripts.run_as.Given as given
use Rattle.fw_tool.proofs.scripts.run_as.Goals as goal

pub returns-in-Run-clause-runs : goal.returns-in-Run-clause-runs
returns-in-Run-clause-runs g c =
    let D : DeskRelations = record { blocks = given.F-post g c.args.desk.now.blocks; vendor = given.H-post g c.args.desk.now.vendor } in
    let P : ScriptWord → Type 0 = λ w. RunsAs D w (g.S.Source.left c.args.source.now) (g.S.Source.left c.run.new.source) (g.K.Sink.held c.args.sink.now) (g.K.Sink.held c.run.new.sink) c.run.result in
    subst P (sym c.in-Run.is) c.run.ensures.runs

pub returns-in-Dub-clause-runs : goal.returns-in-Dub-clause-runs
returns-in-Dub-clause-runs g c =
    let D : DeskRelations = record { blocks = given.F-post g c.args.desk.now.blocks; vendor = given.H-post g c.args.desk.now.vendor } in
    let P : ScriptWord → Type 0 = λ w. RunsAs D w (g.S.Source.left c.args.source.now) (g.S.Source.left c.dub.new.source) (g.K.Sink.held c.args.sink.now) (g.K.Sink.held c.dub.new.sink) c.dub.result in
    subst P (sym c.in-Dub.is) c.dub.ensures.dubs

pub returns-in-Check-clause-runs : goal.returns-in-Check-clause-runs
returns-in-Check-clause-runs g c =
    let D : DeskRelations = record { blocks = given.F-post g c.args.desk.now.blocks; vendor = given.H-post g c.args.desk.now.vendor } in
    let P : ScriptWord → Type 0 = λ w. RunsAs D w (g.S.Source.left c.args.source.now) (g.S.Source.left c.check.new.source) (g.K.Sink.held c.args.sink.now)
    (g.K.Sink.held c.check.new.sink) c.check.result in
    subst P (sym c.in-Check.is) c.check.ensures.checks

pub returns-in-Trace-clause-runs : goal.returns-in-Trace-clause-runs
returns-in-Trace-clause-runs g c =
    let D : DeskRelations = record { blocks = given.F-post g c.args.desk.now.blocks; vendor = given.H-post g c.args.desk.now.vendor } in
    let P : ScriptWord → Type 0 = λ w. RunsAs D w (g.S.Source.left c.args.source.now) (g.S.Source.left c.trace.new.source) (g.K.Sink.held c.args.sink.now)
    (g.K.Sink.held c.trace.new.sink) c.trace.result in
    subst P (sym c.in-Trace.is) c.trace.ensures.traces
