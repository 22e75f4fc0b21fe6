use Rattle.std.proofs.Common.{◌-◌, length, drop, arith}
use Rattle.std.proofs.lemmas.List.{length-drop, length-take-le}
use Rattle.fw_cip.proofs.ReadLaws.{block_there}
use Rattle.fw_cip.proofs.read.block_of.Goals as goal

pub new-requires : goal.new-requires
new-requires c = let n = block_there c.args.b.now c.requires c.if-b-eq-HEADS_SIZE.false in
    omega (arith, length-take-le (length c.args.b.now - 12) (drop 12 c.args.b.now) (omega (arith, length-drop 12 c.args.b.now)), length-drop 12 c.args.b.now)
