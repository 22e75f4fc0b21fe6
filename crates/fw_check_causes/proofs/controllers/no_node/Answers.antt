use Rattle.std.proofs.Common.{List, ℕ, Option, ap, sym, ◌∙◌}
use Rattle.fw_check_causes.proofs.NodeLaws.{is_gone, is_silent, node_off_by}
use Rattle.fw_check_causes.proofs.controllers.no_node.Goals as goal

pub returns-then-is_on : goal.returns-then-is_on
returns-then-is_on c = λ s g st. sym (is_silent c.args.machine.now s c.args.name c.args.device g st (sym c.is_on.ensures ∙ c.if-is_on.true))

pub returns-in-Some : goal.returns-in-Some
returns-in-Some c = λ s g st.
    ap (λ (o : Option (List ℕ)). node_off_by c.args.name o) (c.in-Some.ensures s g st)
    ∙ sym (is_gone c.args.machine.now s c.args.name c.args.device g st (sym c.is_on.ensures ∙ c.if-is_on.false))

pub returns-in-None : goal.returns-in-None
returns-in-None c = λ s g st.
    ap (λ (o : Option (List ℕ)). node_off_by c.args.name o) (c.in-None.ensures s g st)
    ∙ sym (is_gone c.args.machine.now s c.args.name c.args.device g st (sym c.is_on.ensures ∙ c.if-is_on.false))
