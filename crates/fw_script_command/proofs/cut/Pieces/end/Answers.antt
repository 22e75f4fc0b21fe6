use Rattle.fw_script_command.proofs.PiecesLaws.{piece_left}
use Rattle.fw_script_command.proofs.cut.Pieces.end.Goals as goal

pub returns-then-self-clause-none : goal.returns-then-self-clause-none
returns-then-self-clause-none c =
    piece_left c.self.inside.separator c.self.inside.more c.self.inside.rest.now c.args.self.now c.self.view_is c.if-self.true
