use Rattle.fw_bus_engine.proofs.Common.{subst, Awaits, living_there, states_of}
use Rattle.fw_cmp.specs.Losses.{MayTurn}
use Rattle.fw_bus_engine.proofs.ControllerTurns.{may_listen}
use Rattle.fw_bus_engine.proofs.half.ControllersRequester.has_request.Goals as goal

pub get-requires : goal.get-requires
get-requires c = (living_there c.args.machine.now c.args.device c.requires.ready c.requires.may.0).controller

pub returns : goal.returns
returns c = record {
  awaits = λ on. (c.requires.may.0, subst Awaits c.get.ensures (c.has_request.ensures.standing.0 on));
  rests = λ off. (c.requires.may.0, may_listen (states_of c.args.machine.now.controllers c.args.device) c.requires.may.1 (subst MayTurn c.get.ensures (c.has_request.ensures.heard.0 off)));
}
