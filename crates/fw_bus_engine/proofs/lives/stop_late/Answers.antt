use Rattle.fw_bus_engine.proofs.Common.{refl}
use Rattle.std.proofs.Common.{Err}
use Rattle.fw_bus_engine.proofs.Doings.{does_cut, does_then, ready_after}
use Rattle.fw_bus_engine.proofs.LifeOrders.{late_follows, late_goes}
use Rattle.fw_bus_engine.proofs.lives.stop_late.Goals as goal

pub returns-in_err-carry_request : goal.returns-in_err-carry_request
returns-in_err-carry_request g c =
    does_cut (Err c.in_err-carry_request.field-0.0) c.from_residual.result
    (late_goes c.args.machine.now c.args.device c.requires.living) refl c.from_residual.ensures.0 c.in_err-carry_request.ensures.does

pub stop-requires-clause-ready : goal.stop-requires-clause-ready
stop-requires-clause-ready g c = ready_after c.requires.ready c.in_ok-carry_request.ensures.does

pub returns : goal.returns
returns g c = does_then c.stop.result (late_follows c.args.machine.now c.args.device) c.in_ok-carry_request.ensures.does c.stop.ensures
