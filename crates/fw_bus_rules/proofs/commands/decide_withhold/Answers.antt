-- The channel may be withheld before the first device.
use Rattle.std.proofs.Common.{◌<◌, ℕ, List, length, sym, subst, ◌∙◌}
use Rattle.fw_bus_rules.proofs.FirstBroken.{withhold_late, withhold_ordered}
use Rattle.fw_bus_state.proofs.Living.{no_names, some_names}
use Rattle.fw_bus_rules.proofs.commands.decide_withhold.Goals as goal

pub returns-then-is_first-clause-decided : goal.returns-then-is_first-clause-decided
returns-then-is_first-clause-decided c = λ s g st. withhold_ordered s (sym st.devices.names ∙ no_names _ _ c.count-is_first.ensures.value c.if-is_first.true)

pub returns-then-is_first-clause-may : goal.returns-then-is_first-clause-may
returns-then-is_first-clause-may c = no_names _ _ c.count-is_first.ensures.value c.if-is_first.true

pub returns-else-is_first-clause-decided : goal.returns-else-is_first-clause-decided
returns-else-is_first-clause-decided c = λ s g st.
    withhold_late s (subst (λ (xs : List (List ℕ)). 0 < length xs) st.devices.names (some_names _ _ c.count-is_first.ensures.value c.if-is_first.false))
