use Rattle.fw_log_json.proofs.Common.{◌≡◌, ◌++◌, map, drop, id_object}
use Rattle.fw_log_json.proofs.Rows.{row}
use Rattle.fw_log_json.proofs.ids.put_ids.Given as goal

abbrev pub invariant-loop-place : goal.invariant-loop-place
invariant-loop-place l = l.text.items ++ row l.place (map id_object (drop l.place l.ids)) ≡ l.initial.text.items ++ row 0 (map id_object l.ids)
