use Rattle.std.proofs.Common.{◌≡◌, ◌++◌, flat_map, take}
use Rattle.fw_log_text.specs.Line.{id_text}
use Rattle.fw_log_text.proofs.quadlets.put_ids.Given as goal

abbrev pub invariant-loop-i : goal.invariant-loop-i
invariant-loop-i l = l.text ≡ l.initial.text ++ flat_map id_text (take l.i l.ids)
