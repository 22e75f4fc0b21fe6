-- A break is decided of the controller of the device that has the name.
use Rattle.std.proofs.Common.{◌≡◌, true, None, Some, ap, sym, ◌∙◌}
use Rattle.fw_cmp.specs.Losses.{Listening}
use Rattle.fw_cmp.specs.Starts.{break_fault}
use Rattle.fw_bus_state.specs.Stands.{is_living_in}
use Rattle.fw_bus_state.specs.Tables.{states_of}
use Rattle.fw_bus_rules.proofs.ConnectionRules.{break_ordered, break_refused}
use Rattle.fw_bus_rules.proofs.connections.decide_break.Goals as goal

pub returns-in-None-clause-decided : goal.returns-in-None-clause-decided
returns-in-None-clause-decided c = λ s g st.
    let m = c.args.machine.now in
    let d = c.in_ok-device.device in
    let living : is_living_in m d ≡ true = cc in
    let none : break_fault (states_of m.controllers d).state c.args.slot ≡ None = ap (λ (x : Listening). break_fault x.state c.args.slot) (sym c.get.ensures) ∙ sym c.in-None.ensures in
    break_ordered m s c.args.name.now c.args.slot d g st c.in_ok-device.ensures.device living none

pub returns-in-Some-clause-decided : goal.returns-in-Some-clause-decided
returns-in-Some-clause-decided c = λ s g st.
    let m = c.args.machine.now in
    let d = c.in_ok-device.device in
    let living : is_living_in m d ≡ true = cc in
    let some : break_fault (states_of m.controllers d).state c.args.slot ≡ Some c.in-Some.fault =
    ap (λ (x : Listening). break_fault x.state c.args.slot) (sym c.get.ensures) ∙ sym c.in-Some.ensures in
    rw c.rule_of.ensures (break_refused m s c.args.name.now c.args.slot d c.in-Some.fault g st c.in_ok-device.ensures.device living some)
