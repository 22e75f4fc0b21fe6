use Rattle.std.proofs.Common.{◌≡◌, ◌+◌, ◌*◌, ◌++◌, length, map, take}
use Rattle.fw_log_entry.specs.Log.{quads, node_quad}
use Rattle.fw_log_entry.proofs.write_body.put_nodes.Given as goal

abbrev pub invariant-loop-row : goal.invariant-loop-row
invariant-loop-row l = record {
  written : l.out ≡ l.initial.out ++ quads (map node_quad (take l.row-index l.rows));
  size : length l.out ≡ length l.initial.out + 4 * l.row-index;
}
