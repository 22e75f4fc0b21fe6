use Rattle.fw_bus_state.proofs.Common.{◌≡◌, rules, refl, IsAtRest, Listening, first_listening}
use Rattle.fw_bus_state.proofs.Tables.{hearing_none, marked_none, new_rests, table_none}
use Rattle.fw_bus_state.proofs.controllers.Controllers.new.Goals as goal

pub returns : goal.returns
returns c = table_none c.in_ok-with_capacity.field-0.items 63 c.in_ok-with_capacity.ensures.items

pub invariant_of-result : goal.invariant_of-result
invariant_of-result c =
    let items = c.in_ok-with_capacity.field-0.items in (
      search rules,
      marked_none (λ (x : Listening). IsAtRest x.state) c.all_marked.result items new_rests c.all_marked.ensures c.in_ok-with_capacity.ensures.items,
      marked_none (λ x. x ≡ first_listening) c.all_marked-2.result items refl c.all_marked-2.ensures c.in_ok-with_capacity.ensures.items,
      hearing_none _ items c.in_ok-with_capacity.ensures.items,
    )
