use Rattle.std.proofs.Common.{arith}
use Rattle.fw_cip.proofs.block.Block.new.Goals as goal

pub returns-clause-fits : goal.returns-clause-fits
returns-clause-fits c = record { size = c.requires; bytes = λ i. omega (arith, c.type_inv.bytes i) }
