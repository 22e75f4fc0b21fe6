use Rattle.std.proofs.Common.{◌≡◌, ◌++◌}
use Rattle.fw_log_registers.specs.Words.{first_channels}
use Rattle.fw_log_registers.proofs.channels.put_channels.Given as goal

abbrev pub invariant-loop-bit : goal.invariant-loop-bit
invariant-loop-bit l = l.text ≡ l.fn.text ++ first_channels l.first l.set l.bit
