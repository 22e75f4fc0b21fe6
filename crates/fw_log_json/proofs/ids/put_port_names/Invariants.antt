use Rattle.fw_log_json.proofs.Common.{◌≡◌, ◌++◌, map, drop, port_name, name_value}
use Rattle.fw_log_json.proofs.Rows.{row}
use Rattle.fw_log_json.proofs.ids.put_port_names.Given as goal

abbrev pub invariant-loop-place : goal.invariant-loop-place
invariant-loop-place l = l.text.items ++ row l.place (map (λ p. name_value (port_name p)) (drop l.place l.ports)) ≡ l.initial.text.items ++ row 0 (map (λ p. name_value (port_name p)) l.ports)
