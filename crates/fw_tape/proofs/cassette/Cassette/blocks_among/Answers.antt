use Rattle.std.proofs.Common.{arith}
use Rattle.fw_tape.proofs.BlockLaws.{due_among_is}
use Rattle.fw_tape.proofs.cassette.Cassette.blocks_among.Goals as goal

pub returns : goal.returns
returns c = omega (arith, due_among_is c.args.self.now.system c.args.self.now.passed c.args.cycles, c.blocks_due.ensures, c.blocks_due-2.ensures)
