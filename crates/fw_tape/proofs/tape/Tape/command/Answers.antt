use Rattle.std.proofs.Common.{arith}
use Rattle.std.proofs.lemmas.Bool.Decides.{nat_tests}
use Rattle.fw_tape.proofs.RowLaws.{row_keeps}
use Rattle.fw_tape.proofs.tape.Tape.command.Goals as goal

pub returns-in-Some-clause-tape : goal.returns-in-Some-clause-tape
returns-in-Some-clause-tape c =
    let keeps = row_keeps c.args.self.now c.args.f.now.code c.args.f.now.opcode c.args.f.now.operands c.in-Some.row in
    grind (arith, nat_tests, keeps)
