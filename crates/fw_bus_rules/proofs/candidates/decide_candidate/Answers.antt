use Rattle.std.proofs.Common.{◌≡◌, true, false}
use Rattle.fw_devices.specs.Network.{kind_at, kinds_of}
use Rattle.fw_devices.proofs.NetworkLaws.{kind_of_node}
use Rattle.fw_terms.specs.Devices.{is_capable}
use Rattle.fw_bus_state.specs.Stands.{is_living_in}
use Rattle.fw_bus_rules.proofs.CandidateRules.{candidate_dead, candidate_incapable, candidate_ordered}
use Rattle.fw_bus_rules.proofs.candidates.decide_candidate.Goals as goal

pub returns-then-not-is_living-clause-decided : goal.returns-then-not-is_living-clause-decided
returns-then-not-is_living-clause-decided c = λ s g st.
    let m = c.args.machine.now in
    let d = c.in_ok-device.device in
    let dead : is_living_in m d ≡ false = cc in
    candidate_dead m s c.args.name.now d g st c.in_ok-device.ensures.device dead

pub returns-then-not-is_capable-clause-decided : goal.returns-then-not-is_capable-clause-decided
returns-then-not-is_capable-clause-decided c = λ s g st.
    let m = c.args.machine.now in
    let d = c.in_ok-device.device in
    let living : is_living_in m d ≡ true = cc in
    let kind = kind_of_node m.devices.nodes d in
    let incapable : is_capable (kind_at (kinds_of m.devices.nodes) d) ≡ false = cc in
    candidate_incapable m s c.args.name.now d g st c.in_ok-device.ensures.device living incapable

pub returns-clause-decided : goal.returns-clause-decided
returns-clause-decided c = λ s g st.
    let m = c.args.machine.now in
    let d = c.in_ok-device.device in
    let living : is_living_in m d ≡ true = cc in
    let kind = kind_of_node m.devices.nodes d in
    let capable : is_capable (kind_at (kinds_of m.devices.nodes) d) ≡ true = cc in
    candidate_ordered m s c.args.name.now d g st c.in_ok-device.ensures.device living capable
