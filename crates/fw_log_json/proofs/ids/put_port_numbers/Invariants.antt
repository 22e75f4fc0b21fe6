use Rattle.fw_log_json.proofs.Common.{◌≡◌, ◌++◌, map, drop, decimal}
use Rattle.fw_log_json.proofs.Rows.{row}
use Rattle.fw_log_json.proofs.ids.put_port_numbers.Given as goal

abbrev pub invariant-loop-place : goal.invariant-loop-place
invariant-loop-place l = l.text.items ++ row l.place (map decimal (drop l.place l.ports)) ≡ l.initial.text.items ++ row 0 (map decimal l.ports)
