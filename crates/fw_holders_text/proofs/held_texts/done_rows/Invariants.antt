use Rattle.fw_holders_text.specs.Kept.{NoneDone}
use Rattle.fw_holders_text.proofs.held_texts.done_rows.Given as goal

abbrev pub invariant-loop : goal.invariant-loop
invariant-loop l = NoneDone l.rows.items
