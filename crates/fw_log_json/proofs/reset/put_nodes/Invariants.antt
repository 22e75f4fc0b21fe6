use Rattle.fw_log_json.proofs.Common.{◌≡◌, ◌++◌, drop, node_objects}
use Rattle.fw_log_json.proofs.Rows.{row}
use Rattle.fw_log_json.proofs.reset.put_nodes.Given as goal

abbrev pub invariant-loop-node : goal.invariant-loop-node
invariant-loop-node l = l.text.items ++ row l.node (node_objects l.node (drop l.node l.rows)) ≡ l.initial.text.items ++ row 0 (node_objects 0 l.rows)
