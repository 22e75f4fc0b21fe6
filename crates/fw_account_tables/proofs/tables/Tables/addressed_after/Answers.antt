use Rattle.fw_account_tables.proofs.Common.{sym, ◌∙◌}
use Rattle.fw_account_tables.proofs.Controllers.{addressed_plug, addressed_held, addressed_none, addressed_again}
use Rattle.fw_account_tables.proofs.tables.Tables.addressed_after.Goals as goal

pub returns : goal.returns
returns c = λ l h. addressed_plug _ _ _ l (sym (c.output_addressed.ensures l h) ∙ c.in-Some.is) (sym (c.holds.ensures l h) ∙ c.if-holds.false)

pub returns-then-is_plug : goal.returns-then-is_plug
returns-then-is_plug c = λ l h.
    addressed_again c.args.c _ c.in-Some.plug _ l (sym (c.output_addressed.ensures l h) ∙ c.in-Some.is) (c.latest_addressed-latest.ensures l h) (sym c.is_plug.ensures ∙ c.if-is_plug.true)

pub returns-then-holds : goal.returns-then-holds
returns-then-holds c = λ l h. c.latest_addressed-latest.ensures l h ∙ addressed_held c.args.c _ l (sym (c.holds.ensures l h) ∙ c.if-holds.true)

pub returns-in-None : goal.returns-in-None
returns-in-None c = λ l h. c.latest_addressed-latest.ensures l h ∙ addressed_none c.args.c _ l (sym (c.output_addressed.ensures l h) ∙ c.in-None.is)
