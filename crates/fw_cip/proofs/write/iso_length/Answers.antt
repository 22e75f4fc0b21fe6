use Rattle.std.proofs.Common.{length, arith, ap}
use Rattle.fw_cip.proofs.SpelledLaws.{spelled_size}
use Rattle.fw_cip.proofs.write.iso_length.Goals as goal

pub returns : goal.returns
returns c = omega (arith, spelled_size c.args.p.now, ap length c.block_of.ensures.same)
