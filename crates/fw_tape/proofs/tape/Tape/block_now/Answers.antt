use Rattle.fw_tape.proofs.tape.Tape.block_now.Goals as goal

pub block_now-requires : goal.block_now-requires
block_now-requires c = c.self.invariant _ c.in-Some.is
