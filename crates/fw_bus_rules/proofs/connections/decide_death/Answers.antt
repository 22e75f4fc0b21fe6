use Rattle.std.proofs.Common.{◌≡◌, true}
use Rattle.fw_bus_state.specs.Stands.{is_living_in}
use Rattle.fw_bus_rules.proofs.LifeRules.{death_ordered}
use Rattle.fw_bus_rules.proofs.connections.decide_death.Goals as goal

pub returns-clause-decided : goal.returns-clause-decided
returns-clause-decided c = λ s g st.
    let m = c.args.machine.now in
    let d = c.in_ok-device.device in
    let living : is_living_in m d ≡ true = cc in
    death_ordered m s c.args.name.now c.args.late d g st c.in_ok-device.ensures.device living
