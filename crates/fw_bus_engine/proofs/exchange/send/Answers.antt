use Rattle.fw_bus_engine.proofs.Common.{◌++◌, [], ◌∷◌, ℕ, List, ap, sym, ◌∙◌, packet_of, request_head}
use Rattle.fw_bus_engine.proofs.exchange.send.Goals as goal

pub put_bytes-requires-clause-packet : goal.put_bytes-requires-clause-packet
put_bytes-requires-clause-packet c = record {
  packet = packet_of (request_head c.args.from c.args.to c.args.label) c.args.request.now;
  spells = record { fits = c.requires.fits; same = sym c.put_request.ensures };
}

pub returns : goal.returns
returns c = record {
  packet = record { fits = c.requires.fits; same = sym c.put_request.ensures };
  wire = c.put_bytes.ensures ∙ ap (λ (b : List ℕ). c.args.wire.now ++ (c.args.from, b) ∷ []) c.put_request.ensures;
}
