-- A lost response is decided of the controller of the device that has the name.
use Rattle.std.proofs.Common.{◌≡◌, ◌<◌, ◌≤◌, nat_le, true, false, arith, subst, sym, ◌∙◌}
use Rattle.std.proofs.lemmas.Bool.Decides.{nat_tests}
use Rattle.fw_cmp.specs.Losses.{Awaits, MayTurn}
use Rattle.fw_bus_state.specs.Stands.{is_living_in}
use Rattle.fw_bus_state.specs.Tables.{states_of}
use Rattle.fw_bus_rules.proofs.ConnectionRules.{is_named}
use Rattle.fw_bus_rules.proofs.TransactionRules.{loss_at_limit, loss_of_nothing, loss_ordered}
use Rattle.fw_bus_state.proofs.Heard.{stands_here}
use Rattle.fw_bus_state.proofs.Heard.{may_rest, stands_request}
use Rattle.fw_bus_state.proofs.Living.{living_same}
use Rattle.fw_bus_rules.proofs.connections.decide_loss.Goals as goal
use Rattle.fw_order.specs.declared.limits.TheConstants.{MOST_RESETS}

pub returns-then-not-has_request-clause-decided : goal.returns-then-not-has_request-clause-decided
returns-then-not-has_request-clause-decided c = λ s g st.
    let m = c.args.machine.now in
    let d = c.in_ok-device.device in
    let living : is_living_in m d ≡ true = cc in
    let rests : MayTurn (states_of m.controllers d) = subst MayTurn c.get.ensures (c.has_request.ensures.heard.0 cc) in
    loss_of_nothing s c.args.name.now d (is_named m s _ d st c.in_ok-device.ensures.device) (sym (living_same m s d g st) ∙ living) (may_rest m s d g st rests)

pub returns-then-has_most_resets-clause-decided : goal.returns-then-has_most_resets-clause-decided
returns-then-has_most_resets-clause-decided c = λ s g st.
    let m = c.args.machine.now in
    let d = c.in_ok-device.device in
    let living : is_living_in m d ≡ true = cc in
    let waits : Awaits (states_of m.controllers d) = subst Awaits c.get.ensures (c.has_request.ensures.standing.0 cc) in
    let most : nat_le MOST_RESETS m.resets ≡ true = cc in
    let resets = st.clock.resets in
    let past : MOST_RESETS ≤ s.resets = grind (arith, nat_tests, most, resets) in
    loss_at_limit s c.args.name.now d (is_named m s _ d st c.in_ok-device.ensures.device) (sym (living_same m s d g st) ∙ living)
    (stands_request (s.controllers d).current (stands_here m s d st waits)) past

pub returns-clause-decided : goal.returns-clause-decided
returns-clause-decided c = λ s g st.
    let m = c.args.machine.now in
    let d = c.in_ok-device.device in
    let living : is_living_in m d ≡ true = cc in
    let waits : Awaits (states_of m.controllers d) = subst Awaits c.get.ensures (c.has_request.ensures.standing.0 cc) in
    let low : nat_le MOST_RESETS m.resets ≡ false = cc in
    let resets = st.clock.resets in
    let few : s.resets < MOST_RESETS = grind (arith, nat_tests, low, resets) in
    loss_ordered s c.args.name.now d (is_named m s _ d st c.in_ok-device.ensures.device) (sym (living_same m s d g st) ∙ living)
    (stands_request (s.controllers d).current (stands_here m s d st waits)) few
