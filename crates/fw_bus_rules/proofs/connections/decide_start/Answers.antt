use Rattle.std.proofs.Common.{◌≡◌, true, false}
use Rattle.fw_bus_state.specs.Stands.{is_linked_in}
use Rattle.fw_bus_rules.proofs.LifeRules.{start_ordered, start_unlinked}
use Rattle.fw_bus_rules.proofs.connections.decide_start.Goals as goal

pub returns-then-not-is_linked-clause-decided : goal.returns-then-not-is_linked-clause-decided
returns-then-not-is_linked-clause-decided c = λ s g st.
    let m = c.args.machine.now in
    let d = c.in_ok-device.device in
    let off : is_linked_in m.devices d ≡ false = cc in
    start_unlinked m s c.args.name.now d g st c.in_ok-device.ensures.device off

pub returns-clause-decided : goal.returns-clause-decided
returns-clause-decided c = λ s g st.
    let m = c.args.machine.now in
    let d = c.in_ok-device.device in
    let linked : is_linked_in m.devices d ≡ true = cc in
    start_ordered m s c.args.name.now d g st c.in_ok-device.ensures.device linked
