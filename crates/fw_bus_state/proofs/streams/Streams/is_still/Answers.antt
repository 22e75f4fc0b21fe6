use Rattle.fw_bus_state.proofs.Common.{is_some, sym, ◌∙◌, ap, false≢true, tape_of, node_at, count_at}
use Rattle.fw_bus_state.proofs.Still.{no_tape, silent_plug_of, zero_is}
use Rattle.fw_bus_state.proofs.streams.Streams.is_still.Goals as goal

pub returns-then-is_some : goal.returns-then-is_some
returns-then-is_some c = λ yes. absurd (false≢true yes)

pub returns-then-has_tape : goal.returns-then-has_tape
returns-then-has_tape c = λ yes. absurd (false≢true yes)

pub returns : goal.returns
returns c = λ yes. record {
  silent = silent_plug_of (node_at c.args.devices.now.nodes c.args.device) (ap is_some (sym c.talking_on.ensures.value) ∙ (sym c.is_some.ensures ∙ c.if-is_some.false));
  empty = no_tape (tape_of (node_at c.args.devices.now.nodes c.args.device)) (sym c.has_tape.ensures ∙ c.if-has_tape.false);
  none = ap (λ ks. count_at ks c.args.device) (sym c.self.view_is) ∙ (ap (λ d. count_at c.self.inside.counts d) (sym c.from.ensures) ∙ zero_is _ yes);
}
