use Rattle.fw_bus_engine.proofs.Common.{refl, living_there}
use Rattle.std.proofs.Common.{Err}
use Rattle.fw_bus_engine.proofs.Doings.{does_cut, does_then}
use Rattle.fw_bus_engine.proofs.OneAction.{does_entry}
use Rattle.fw_bus_engine.proofs.Losing.{loses_follows, loses_goes, tells_turns}
use Rattle.fw_bus_engine.proofs.lives.lose.Goals as goal

pub returns-in_err-lose_response : goal.returns-in_err-lose_response
returns-in_err-lose_response g c =
    record {
      does = does_cut (Err c.in_err-lose_response.field-0.0) c.from_residual.result
          (loses_goes c.args.machine.now c.args.device) refl c.from_residual.ensures.0 c.in_err-lose_response.ensures.does;
    }

pub lost-requires : goal.lost-requires
lost-requires g c = (living_there c.args.machine.now c.args.device c.requires.ready c.requires.living).low

pub returns : goal.returns
returns g c =
    let told = does_entry (tells_turns _ c.args.device c.in_ok-lose_response.ensures.deaf) (rw c.lost.ensures.value at c.emit.ensures) in
    record { does = does_then c.emit.result (loses_follows c.args.machine.now c.args.device) c.in_ok-lose_response.ensures.does told }
