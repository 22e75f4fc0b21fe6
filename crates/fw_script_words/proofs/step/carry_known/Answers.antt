use Rattle.fw_script_words.proofs.Goings.{going_form}
use Rattle.fw_script_words.proofs.step.carry_known.Goals as goal

pub pass_command-requires-clause-next : goal.pass_command-requires-clause-next
pass_command-requires-clause-next g c = (c.args.command.now, c.requires.next)

pub carry_read-requires-clause-command : goal.carry_read-requires-clause-command
carry_read-requires-clause-command g c =
    let (now, u) = c.requires.under_way in
    going_form now c.pass_command.new.self c.args.command.now u.going (c.pass_command.ensures.gives c.args.command.now now c.requires.next)

pub carry_read-requires-clause-fresh : goal.carry_read-requires-clause-fresh
carry_read-requires-clause-fresh g c = let (now, u) = c.requires.under_way in u.going.fresh

pub returns-clause-goes : goal.returns-clause-goes
returns-clause-goes g c left now held after i =
    let command = c.args.command.now in
    c.carry_read.ensures.goes left now now held after c.args.reader.now i (c.pass_command.ensures.gives command now c.requires.next) (c.pass_command.ensures.held command)
