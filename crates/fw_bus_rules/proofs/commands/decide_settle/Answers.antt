-- The half steps of so many rounds are one for each living controller.
use Rattle.std.proofs.Common.{◌*◌, length, refl, ap, arith}
use Rattle.fw_bus_rules.proofs.commands.decide_settle.Goals as goal
use Rattle.fw_bus_rules.proofs.FirstBroken.{settle_at_limit, settle_breaks}
use Rattle.fw_bus_rules.proofs.RoundRules.{rounds_fit}
use Rattle.fw_bus_state.proofs.Living.{living_list}

pub returns-then-given-rounds_given-le-MOST_HALF_STEPS-clause-may : goal.returns-then-given-rounds_given-le-MOST_HALF_STEPS-clause-may
returns-then-given-rounds_given-le-MOST_HALF_STEPS-clause-may c =
    rounds_fit c.args.machine.now c.args.rounds (length c.args.machine.now.devices.names) refl (grind arith)

pub returns-then-given-rounds_given-le-MOST_HALF_STEPS-clause-decided : goal.returns-then-given-rounds_given-le-MOST_HALF_STEPS-clause-decided
returns-then-given-rounds_given-le-MOST_HALF_STEPS-clause-decided c = λ s g st.
    let same = ap (λ ds. c.args.rounds * length ds) (living_list c.args.machine.now s g st) in
    let half_steps = st.clock.half_steps in
    let room = rounds_fit c.args.machine.now c.args.rounds (length c.args.machine.now.devices.names) refl (grind arith) in
    (refl, λ g. settle_breaks s c.args.rounds g (λ e past. omega (arith, same, half_steps, room, past)))

pub returns-then-given-rounds_given-gt-MOST_HALF_STEPS-clause-decided : goal.returns-then-given-rounds_given-gt-MOST_HALF_STEPS-clause-decided
returns-then-given-rounds_given-gt-MOST_HALF_STEPS-clause-decided c = λ s g st.
    let same = ap (λ ds. c.args.rounds * length ds) (living_list c.args.machine.now s g st) in
    let half_steps = st.clock.half_steps in
    settle_at_limit s c.args.rounds (grind arith)

pub returns-clause-decided : goal.returns-clause-decided
returns-clause-decided c = λ s g st.
    let same = ap (λ ds. c.args.rounds * length ds) (living_list c.args.machine.now s g st) in
    let half_steps = st.clock.half_steps in
    (refl, λ g. settle_breaks s c.args.rounds g (λ e past. grind arith))
