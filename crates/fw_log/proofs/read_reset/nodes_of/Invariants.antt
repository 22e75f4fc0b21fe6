use Rattle.fw_log.proofs.Common.{◌≡◌, ◌*◌, length, take, All, quads, node_quad}
use Rattle.std.proofs.Common.{map}
use Rattle.fw_log.specs.Resets.{RowShape}
use Rattle.fw_log.proofs.read_reset.nodes_of.Given as goal

abbrev pub invariant-loop-i : goal.invariant-loop-i
invariant-loop-i l = record {
  count : length l.nodes ≡ l.i;
  fits : All RowShape l.nodes;
  same : quads (map node_quad l.nodes) ≡ take (4 * l.i) l.bytes;
}
