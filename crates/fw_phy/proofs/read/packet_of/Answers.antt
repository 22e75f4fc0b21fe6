use Rattle.std.proofs.Common.{arith, sym}
use Rattle.fw_phy.proofs.TagLaws.{low_16, low_24}
use Rattle.fw_phy.proofs.read.packet_of.Goals as goal

pub config_of-requires-clause-zeros : goal.config_of-requires-clause-zeros
config_of-requires-clause-zeros c = omega (arith, low_16 c.args.q.0 (sym c.in-None.ensures))

pub link_on_of-requires-clause-zeros : goal.link_on_of-requires-clause-zeros
link_on_of-requires-clause-zeros c = omega (arith, low_24 c.args.q.0 (sym c.in-None-first_set.ensures))
