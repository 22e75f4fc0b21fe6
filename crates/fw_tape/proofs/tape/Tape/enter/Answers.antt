use Rattle.fw_tape.proofs.tape.Tape.enter.Goals as goal

pub enter-requires : goal.enter-requires
enter-requires c = c.self.invariant _ c.in-Some.is
