use Rattle.fw_map.proofs.Common.{◌≡◌, ◌++◌, List, ℕ, string_bytes}
use Rattle.fw_map.specs.Texts.{IsRow}
use Rattle.fw_map.proofs.text.put_row.Given as goal

abbrev pub invariant-loop-b : goal.invariant-loop-b
invariant-loop-b l = (row : List ℕ) × IsRow l.tree l.a l.b row × (string_bytes l.text ≡ string_bytes l.initial.text ++ row)
