use Rattle.fw_bus_engine.proofs.ControllerTurns.{hears_turn}
use Rattle.fw_bus_engine.proofs.Served.{served_within, served_awaits}
use Rattle.fw_bus_engine.proofs.half.ControllersRequester.hear.Goals as goal

pub serve_request-reply-requires : goal.serve_request-reply-requires
serve_request-reply-requires c = record { ready = c.requires.ready; living = c.requires.awaits.0; standing = c.requires.awaits.1 }

pub hear-requires-clause-device : goal.hear-requires-clause-device
hear-requires-clause-device c = served_within _ _ _ _ _ c.requires.ready c.requires.awaits.0 c.serve_request-reply.ensures

pub hear-requires-clause-stands : goal.hear-requires-clause-stands
hear-requires-clause-stands c = served_awaits _ _ _ _ _ c.requires.awaits.1 c.serve_request-reply.ensures

pub returns : goal.returns
returns c =
    let s = c.serve_request-reply.ensures in
    (s.response, s.spells, hears_turn _ _ c.hear.new.self c.args.device _ _ c.requires.ready c.requires.awaits.0 c.requires.awaits.1 s c.hear.ensures.state c.hear.ensures.list)
