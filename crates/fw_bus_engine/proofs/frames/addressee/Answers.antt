-- proofs/machine/Machine/addressee/Answers.antt
use Rattle.fw_bus_engine.proofs.Common.{is_some, ap, sym, ◌∙◌, false≢true, node_device}
use Rattle.fw_bus_engine.proofs.frames.addressee.Goals as goal

pub unreachable-requires : goal.unreachable-requires
unreachable-requires c =
    let x = c.requires.frame in
    let none = sym c.in-None.is ∙ (c.device_at.ensures ∙ ap (node_device c.args.machine.now.devices.latest.nodes) (c.destination.ensures x.0 x.1)) in
    false≢true (ap is_some none ∙ x.2)

pub returns : goal.returns
returns c = λ n is. ap (node_device c.args.machine.now.devices.latest.nodes) (sym (c.destination.ensures n is)) ∙ (sym c.device_at.ensures ∙ c.in-Some.is)
