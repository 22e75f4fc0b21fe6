use Rattle.fw_holders_text.specs.Kept.{NoneTold}
use Rattle.fw_holders_text.proofs.held_texts.channel_rows.Given as goal

abbrev pub invariant-loop : goal.invariant-loop
invariant-loop l = NoneTold l.rows.items
