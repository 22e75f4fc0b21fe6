use Rattle.std.proofs.Common.{◌≡◌, List, take}
use Rattle.fw_phy.specs.declared.packet.PhyPacket.{PhyPacket}
use Rattle.fw_log.specs.Bodies.{AreIds}
use Rattle.fw_log_reports.proofs.whole_reset.read_ids.Given as goal

abbrev pub invariant-loop-i : goal.invariant-loop-i
invariant-loop-i l = (all : List PhyPacket) → AreIds all l.bytes → l.ids ≡ take l.i all
