use Rattle.fw_holders_text.specs.Kept.{NoNumbers}
use Rattle.fw_holders_text.proofs.kept_number.number_rows.Given as goal

abbrev pub invariant-loop : goal.invariant-loop
invariant-loop l = NoNumbers l.rows.items
