use Rattle.std.proofs.Common.{◌≡◌, ◌++◌, flat_map, take}
use Rattle.fw_log_explain.specs.Resets.{id_text}
use Rattle.fw_log_explain.proofs.reset.put_ids.Given as goal

abbrev pub invariant-loop-i : goal.invariant-loop-i
invariant-loop-i l = l.text.items ≡ l.fn.text.items ++ flat_map (id_text l.rows) (take l.i l.ids)
