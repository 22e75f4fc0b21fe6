use Rattle.std.proofs.Common.{ap, sym}
use Rattle.fw_script_command.specs.Form.{after_first}
use Rattle.fw_script_command.proofs.PiecesLaws.{next_piece, last_piece}
use Rattle.fw_script_command.proofs.cut.Pieces.next.Goals as goal

pub returns-in-Some-clause-some : goal.returns-in-Some-clause-some
returns-in-Some-clause-some c =
    next_piece c.self.inside.separator c.self.inside.more c.self.inside.rest.now c.in-Some.piece.now c.in-Some.rest.now c.args.self.now
    c.self.view_is c.if-not-self.false (c.in-Some.ensures.found).0 (c.in-Some.ensures.found).1

pub returns-in-None-clause-some : goal.returns-in-None-clause-some
returns-in-None-clause-some c =
    last_piece c.self.inside.separator c.self.inside.more c.self.inside.rest.now c.args.self.now
    c.self.view_is c.if-not-self.false c.in-None.ensures.none

pub returns-in-Some-clause-left : goal.returns-in-Some-clause-left
returns-in-Some-clause-left c =
    sym (ap after_first (next_piece c.self.inside.separator c.self.inside.more c.self.inside.rest.now c.in-Some.piece.now c.in-Some.rest.now c.args.self.now
    c.self.view_is c.if-not-self.false (c.in-Some.ensures.found).0 (c.in-Some.ensures.found).1))

pub returns-in-None-clause-left : goal.returns-in-None-clause-left
returns-in-None-clause-left c =
    sym (ap after_first (last_piece c.self.inside.separator c.self.inside.more c.self.inside.rest.now c.args.self.now
    c.self.view_is c.if-not-self.false c.in-None.ensures.none))
