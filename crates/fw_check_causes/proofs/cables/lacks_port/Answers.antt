use Rattle.std.proofs.Common.{ℕ, nat_le, ap, sym, ◌∙◌}
use Rattle.fw_tree.specs.Topology.{ports_of}
use Rattle.fw_check_causes.proofs.CableLaws.{lacks_gone, lacks_there, tested}
use Rattle.fw_check_causes.proofs.cables.lacks_port.Goals as goal

pub returns-in-Some : goal.returns-in-Some
returns-in-Some c = λ s g st. let e = lacks_there c.args.machine.now s c.args.end.now c.in-Some.end st (sym (c.in-Some.ensures s g st)) in
    ap (λ (n : ℕ). nat_le n c.in-Some.end.port) c.ports.ensures ∙ tested (ports_of c.args.machine.now.devices.topology.devices c.in-Some.end.device) c.in-Some.end.port ∙ sym e

pub returns-in-None : goal.returns-in-None
returns-in-None c = λ s g st. sym (lacks_gone s c.args.end.now (sym (c.in-None.ensures s g st)))
