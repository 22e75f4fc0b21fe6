use Rattle.std.proofs.Common.{◌≡◌, ◌*◌, length, map, take}
use Rattle.std.specs.List.{All}
use Rattle.fw_log_entry.specs.Log.{quads, node_quad}
use Rattle.fw_log.specs.Resets.{RowShape}
use Rattle.fw_log_latest.proofs.bus.nodes_of.Given as goal

abbrev pub invariant-loop-i : goal.invariant-loop-i
invariant-loop-i l = record {
  count : length l.nodes ≡ l.i;
  fits : All RowShape l.nodes;
  same : quads (map node_quad l.nodes) ≡ take (4 * l.i) l.bytes;
}
