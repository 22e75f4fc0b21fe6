use Rattle.fw_script.proofs.StepLaws.{fails_there, on_err, take_failed}
use Rattle.fw_script.proofs.reader.ScriptReader.find_line.Goals as goal

pub returns-in_err-take-in-Cut-clause-gives : goal.returns-in_err-take-in-Cut-clause-gives
returns-in_err-take-in-Cut-clause-gives g c =
    on_err c.from_residual.result _
    (take_failed c.args.self.now c.loop-length.self c.take.new.self (g.S.Source.left c.args.source.now) (g.S.Source.left c.loop-length.source) (g.S.Source.left c.take.new.source)
    c.in_err-take-in-Cut.field-0.0 c.loop-length.invariant.more c.loop-length.invariant.takes c.in_err-take-in-Cut.ensures.fills)

pub returns-in_err-take-in-Cut-clause-failed : goal.returns-in_err-take-in-Cut-clause-failed
returns-in_err-take-in-Cut-clause-failed g c =
    on_err c.from_residual.result _
    (fails_there c.args.self.now c.loop-length.self c.take.new.self (g.S.Source.left c.args.source.now) (g.S.Source.left c.loop-length.source) (g.S.Source.left c.take.new.source)
    c.in_err-take-in-Cut.field-0.0 c.loop-length.invariant.takes c.in_err-take-in-Cut.ensures.fills)
