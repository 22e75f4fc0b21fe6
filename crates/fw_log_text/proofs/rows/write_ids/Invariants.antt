use Rattle.std.proofs.Common.{◌≡◌, ◌+◌, ◌*◌, ◌++◌, List, flat_map, length, take}
use Rattle.fw_phy.specs.Phy.{spelling}
use Rattle.fw_phy.specs.declared.packet.PhyPacket.{PhyPacket}
use Rattle.fw_log_text.specs.Line.{id_text}
use Rattle.fw_log_text.proofs.rows.write_ids.Given as goal

abbrev pub invariant-loop-i : goal.invariant-loop-i
invariant-loop-i l = record {
  size : length l.out ≡ length l.initial.out;
  end : l.end ≡ l.at + 9 * l.i;
  text : (ids : List PhyPacket) → l.bytes ≡ flat_map spelling ids → take l.end l.out ≡ take l.at l.initial.out ++ flat_map id_text (take l.i ids);
}
