use Rattle.std.proofs.Common.{◌≡◌, true, arith}
use Rattle.fw_bus_state.specs.Stands.{is_living_in}
use Rattle.fw_bus_rules.proofs.LifeRules.{step_limit, step_ordered}
use Rattle.fw_bus_rules.proofs.commands.decide_step.Goals as goal

pub returns-then-from-gt-MOST_HALF_STEPS-clause-decided : goal.returns-then-from-gt-MOST_HALF_STEPS-clause-decided
returns-then-from-gt-MOST_HALF_STEPS-clause-decided c = λ s g st.
    let m = c.args.machine.now in
    let d = c.in_ok-device.device in
    let living : is_living_in m d ≡ true = cc in
    step_limit m s c.args.name.now c.args.count d g st c.in_ok-device.ensures.device living (omega arith)

pub returns-clause-decided : goal.returns-clause-decided
returns-clause-decided c = λ s g st.
    let m = c.args.machine.now in
    let d = c.in_ok-device.device in
    let living : is_living_in m d ≡ true = cc in
    step_ordered m s c.args.name.now c.args.count d g st c.in_ok-device.ensures.device living (omega arith)
