use Rattle.std.proofs.Common.{◌≡◌, ◌+◌, ◌*◌, ◌++◌, length, flat_map, take}
use Rattle.fw_phy.specs.Phy.{spelling}
use Rattle.fw_log_entry.proofs.write_body.put_ids.Given as goal

abbrev pub invariant-loop-packet : goal.invariant-loop-packet
invariant-loop-packet l = record {
  written : l.out ≡ l.initial.out ++ flat_map spelling (take l.packet-index l.ids);
  size : length l.out ≡ length l.initial.out + 8 * l.packet-index;
}
