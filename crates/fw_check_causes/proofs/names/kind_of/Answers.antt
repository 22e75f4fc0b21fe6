use Rattle.std.proofs.Common.{length, ap, sym, ◌∙◌, Some, arith}
use Rattle.fw_terms.specs.declared.device.DeviceKind.{DeviceKind}
use Rattle.fw_devices.specs.Network.{kind_at}
use Rattle.fw_check_causes.proofs.Seen.{kind_same, of_none, of_some}
use Rattle.fw_check_causes.proofs.names.kind_of.Goals as goal

pub kind-requires : goal.kind-requires
kind-requires c =
    let there = c.in-Some.ensures.there in
    let names = ap length c.requires.stands.devices.names in
    let nodes = c.requires.stands.devices.nodes.size in
    record { declared = omega (arith, there, names, nodes) }

pub returns-in-Some : goal.returns-in-Some
returns-in-Some c = λ s g st.
    ap (λ (k : DeviceKind). Some k) (c.kind.ensures ∙ kind_same c.args.machine.now s c.in-Some.device st)
    ∙ sym (of_some c.args.machine.now s c.args.name.now c.in-Some.device (λ d. Some (kind_at s.declared.kinds d)) st (sym c.in-Some.ensures.value))

pub returns-in-None : goal.returns-in-None
returns-in-None c = λ s g st. sym (of_none c.args.machine.now s c.args.name.now (λ d. Some (kind_at s.declared.kinds d)) st (sym c.in-None.ensures.value))
