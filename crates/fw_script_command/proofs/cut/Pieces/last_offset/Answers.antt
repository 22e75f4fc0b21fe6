use Rattle.fw_script_command.proofs.DigitLaws.{offset_read, offset_last, offset_none}
use Rattle.fw_script_command.proofs.cut.Pieces.last_offset.Goals as goal

pub returns-clause-read : goal.returns-clause-read
returns-clause-read c = offset_read c.offset.result c.in_ok-whole.field-0.now c.args.self.now c.in_ok-whole.ensures.digits c.offset.ensures

pub returns-clause-last : goal.returns-clause-last
returns-clause-last c = offset_last c.offset.result c.in_ok-whole.field-0.now c.args.self.now c.in_ok-whole.ensures.digits c.offset.ensures

pub returns-clause-none : goal.returns-clause-none
returns-clause-none c = offset_none c.offset.result c.in_ok-whole.field-0.now c.args.self.now c.in_ok-whole.ensures.only c.offset.ensures
