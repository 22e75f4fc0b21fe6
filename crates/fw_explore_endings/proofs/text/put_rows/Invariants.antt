use Rattle.std.proofs.Common.{◌≡◌, ◌+◌, ◌++◌, drop}
use Rattle.fw_explore_endings.specs.Texts.{rows_text}
use Rattle.fw_explore_endings.proofs.text.put_rows.Given as goal

abbrev pub invariant-loop-at : goal.invariant-loop-at
invariant-loop-at l = l.out.items ++ rows_text l.explored (l.at + 1) (drop l.at l.rows) ≡ l.fn.out.items ++ rows_text l.explored 1 l.rows
