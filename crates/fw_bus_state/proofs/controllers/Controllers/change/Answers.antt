use Rattle.fw_bus_state.proofs.Common.{◌≡◌, arith, first_listening}
use Rattle.fw_devices.proofs.ChangeLaws.{all_changed}
use Rattle.fw_bus_state.specs.Copies.{controllers_at}
use Rattle.fw_bus_state.proofs.controllers.Controllers.change.Goals as goal

pub returns : goal.returns
returns c =
    let end = c.loop-n-test.false in
    let list : c.loop-n.self.list ≡ controllers_at c.args.kept.now c.args.numbers.now =
    all_changed first_listening c.args.kept.now c.args.now.now c.args.numbers.now c.loop-n.n c.loop-n.self.list (omega (arith, end)) c.loop-n.invariant.changed in
    λ i. record { list = list i; flags = c.loop-n.invariant.flags i }
