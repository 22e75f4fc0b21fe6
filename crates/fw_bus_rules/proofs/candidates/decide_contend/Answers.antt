use Rattle.std.proofs.Common.{◌≡◌, ◌+◌, ◌≤◌, true, false, is_some, arith}
use Rattle.fw_bus_state.specs.Candidates.{candidate_in}
use Rattle.fw_bus_state.specs.Stands.{is_living_in}
use Rattle.fw_bus_rules.proofs.CandidateRules.{contend_dead, contend_none, contend_ordered}
use Rattle.fw_bus_rules.proofs.candidates.decide_contend.Goals as goal
use Rattle.fw_order.specs.declared.limits.TheConstants.{MOST_HALF_STEPS}

pub returns-then-not-is_living-clause-decided : goal.returns-then-not-is_living-clause-decided
returns-then-not-is_living-clause-decided c = λ s g st.
    let m = c.args.machine.now in
    let d = c.in_ok-device.device in
    let dead : is_living_in m d ≡ false = cc in
    contend_dead m s c.args.name.now c.args.count d g st c.in_ok-device.ensures.device dead

pub returns-then-not-is_candidate-clause-decided : goal.returns-then-not-is_candidate-clause-decided
returns-then-not-is_candidate-clause-decided c = λ s g st.
    let m = c.args.machine.now in
    let d = c.in_ok-device.device in
    let living : is_living_in m d ≡ true = cc in
    let none : is_some (candidate_in m.candidates d) ≡ false = cc in
    contend_none m s c.args.name.now c.args.count d g st c.in_ok-device.ensures.device living none

pub returns-clause-decided : goal.returns-clause-decided
returns-clause-decided c = λ s g st.
    let m = c.args.machine.now in
    let d = c.in_ok-device.device in
    let living : is_living_in m d ≡ true = cc in
    let one : is_some (candidate_in m.candidates d) ≡ true = cc in
    let few : m.half_steps + c.args.count ≤ MOST_HALF_STEPS = omega arith in
    contend_ordered m s c.args.name.now c.args.count d g st c.in_ok-device.ensures.device living one few
