use Rattle.fw_bus_engine.proofs.requester.turn.Goals as goal

pub has_request-requires : goal.has_request-requires
has_request-requires g c = record { ready = c.requires.ready; may = c.requires.may }

pub hear-requires : goal.hear-requires
hear-requires g c = record { ready = c.requires.ready; awaits = c.has_request.ensures.awaits c.if-has_request.true }

pub ask-requires : goal.ask-requires
ask-requires g c = record { ready = c.requires.ready; rests = c.has_request.ensures.rests c.if-has_request.false }
