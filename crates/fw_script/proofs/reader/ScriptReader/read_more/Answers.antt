use Rattle.std.proofs.Common.{refl, ap}
use Rattle.fw_script.proofs.ReadingLaws.{reads_long_line, reads_limit}
use Rattle.fw_script.proofs.StepLaws.{step_read, step_gives, step_filled, step_failed, reads_whole, reads_holds, cut_holds}
use Rattle.fw_script.specs.Reader.{answer_of}
use Rattle.fw_script.specs.declared.ScriptFault.TheVariants.{LineTooLong, TooLong}
use Rattle.fw_script.proofs.reader.ScriptReader.read_more.Goals as goal

pub returns-in-Line-clause-steps : goal.returns-in-Line-clause-steps
returns-in-Line-clause-steps g c = step_read c.args.self.now c.read_text.new.self (g.S.Source.left c.args.source.now) (answer_of c.read_text.result c.read_text.new.out) c.read_text.ensures.reads

pub returns-in-Line-clause-unasked : goal.returns-in-Line-clause-unasked
returns-in-Line-clause-unasked g c = λ w. (refl, reads_whole c.args.self.now c.read_text.new.self (answer_of c.read_text.result c.read_text.new.out) c.read_text.ensures.reads w)

pub returns-in-Line-clause-holds : goal.returns-in-Line-clause-holds
returns-in-Line-clause-holds g c = λ h e. reads_holds c.args.self.now c.read_text.new.self (answer_of c.read_text.result c.read_text.new.out) c.read_text.ensures.reads h
    (ap (λ r. answer_of r c.read_text.new.out) e)

pub returns-in-LongLine-clause-steps : goal.returns-in-LongLine-clause-steps
returns-in-LongLine-clause-steps g c =
    step_gives c.args.self.now c.refuse.new.self (g.S.Source.left c.args.source.now) LineTooLong
    (reads_long_line c.args.self.now c.refuse.new.self c.in-LongLine.ensures.stands c.refuse.ensures)

pub returns-in-Limit-clause-steps : goal.returns-in-Limit-clause-steps
returns-in-Limit-clause-steps g c =
    step_gives c.args.self.now c.enter.new.self (g.S.Source.left c.args.source.now) TooLong
    (reads_limit c.args.self.now c.enter.new.self c.in-Limit.ensures.stands c.enter.ensures)

pub returns-in-Nothing-clause-steps : goal.returns-in-Nothing-clause-steps
returns-in-Nothing-clause-steps g c = step_read c.args.self.now c.read_end.new.self (g.S.Source.left c.args.source.now) (answer_of c.read_end.result c.read_end.new.out) c.read_end.ensures.reads

pub returns-in-Nothing-clause-unasked : goal.returns-in-Nothing-clause-unasked
returns-in-Nothing-clause-unasked g c = λ w. (refl, reads_whole c.args.self.now c.read_end.new.self (answer_of c.read_end.result c.read_end.new.out) c.read_end.ensures.reads w)

pub returns-in-Ok-clause-steps : goal.returns-in-Ok-clause-steps
returns-in-Ok-clause-steps g c =
    step_filled c.args.self.now c.take.new.self (g.S.Source.left c.args.source.now) (g.S.Source.left c.take.new.source) c.requires.open c.in-Ok.ensures.fills

pub returns-in-Ok-clause-asks : goal.returns-in-Ok-clause-asks
returns-in-Ok-clause-asks g c = λ h. absurd (cut_holds c.args.self.now c.in-Cut.ensures.stands h)

pub returns-in-Ok-clause-holds : goal.returns-in-Ok-clause-holds
returns-in-Ok-clause-holds g c = λ h. absurd (cut_holds c.args.self.now c.in-Cut.ensures.stands h)

pub returns-in-Err-clause-steps : goal.returns-in-Err-clause-steps
returns-in-Err-clause-steps g c =
    step_failed c.args.self.now c.take.new.self (g.S.Source.left c.args.source.now) (g.S.Source.left c.take.new.source) c.in-Err.fault c.in-Err.ensures.fills

pub returns-in-Err-clause-asks : goal.returns-in-Err-clause-asks
returns-in-Err-clause-asks g c = λ h. absurd (cut_holds c.args.self.now c.in-Cut.ensures.stands h)
