use Rattle.std.proofs.Common.{sym, ◌∙◌}
use Rattle.fw_check_causes.proofs.CableLaws.{first_lacks, second_lacks}
use Rattle.fw_check_causes.proofs.cables.no_port.Goals as goal

pub returns-then-lacks_port : goal.returns-then-lacks_port
returns-then-lacks_port c = λ s g st.
    c.lack.ensures s g st ∙ sym (first_lacks s c.args.a.now c.args.b.now (sym (c.lacks_port.ensures s g st) ∙ c.if-lacks_port.true))

pub returns-else-lacks_port : goal.returns-else-lacks_port
returns-else-lacks_port c = λ s g st.
    c.lack-else-lacks_port.ensures s g st ∙ sym (second_lacks s c.args.a.now c.args.b.now (sym (c.lacks_port.ensures s g st) ∙ c.if-lacks_port.false))
