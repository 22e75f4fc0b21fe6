use Rattle.fw_script_command.proofs.DigitLaws.{whole_piece, one_piece}
use Rattle.fw_script_command.proofs.cut.Pieces.whole.Goals as goal

pub returns-then-self-clause-digits : goal.returns-then-self-clause-digits
returns-then-self-clause-digits c =
    λ digits. whole_piece c.self.inside.separator c.self.inside.more c.self.inside.rest.now c.args.self.now c.self.view_is c.if-self.true c.self.invariant digits

pub returns-then-self-clause-only : goal.returns-then-self-clause-only
returns-then-self-clause-only c = λ v e. one_piece c.self.inside.separator c.self.inside.more c.self.inside.rest.now c.args.self.now v c.self.view_is c.if-self.true e
