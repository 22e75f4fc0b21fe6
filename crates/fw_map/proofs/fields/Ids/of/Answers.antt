use Rattle.fw_map.proofs.TableLaws.{none_noted, one_noted}
use Rattle.fw_map.proofs.fields.Ids.of.Goals as goal

pub loop-k-init : goal.loop-k-init
loop-k-init c = none_noted c.args.packets.now

pub loop-k-preserved : goal.loop-k-preserved
loop-k-preserved c = one_noted c.args.packets.now c.loop-k.k _ _ _ c.loop-k-test.true c.loop-k.auto.k c.put_packet.ensures.rows c.put_packet.ensures.fields c.loop-k.invariant
