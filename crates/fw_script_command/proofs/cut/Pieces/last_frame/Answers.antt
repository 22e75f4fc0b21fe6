use Rattle.fw_script_command.proofs.DigitLaws.{frame_read, frame_last, frame_none}
use Rattle.fw_script_command.proofs.cut.Pieces.last_frame.Goals as goal

pub returns-clause-read : goal.returns-clause-read
returns-clause-read c = frame_read c.frame.result c.in_ok-whole.field-0.now c.frame.new.out c.args.self.now c.in_ok-whole.ensures.digits c.frame.ensures.some

pub returns-clause-last : goal.returns-clause-last
returns-clause-last c = frame_last c.frame.result c.in_ok-whole.field-0.now c.frame.new.out c.args.self.now c.in_ok-whole.ensures.digits c.frame.ensures.some

pub returns-clause-none : goal.returns-clause-none
returns-clause-none c = frame_none c.frame.result c.in_ok-whole.field-0.now c.args.self.now c.in_ok-whole.ensures.only c.frame.ensures.none
