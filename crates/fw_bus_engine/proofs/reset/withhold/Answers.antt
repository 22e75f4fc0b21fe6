use Rattle.fw_bus_engine.proofs.Common.{sym, ◌∙◌}
use Rattle.fw_bus_engine.proofs.OneAction.{does_as, does_entry, does_nothing}
use Rattle.fw_bus_engine.proofs.Withholds.{goes_on_withholding, withhold_turns, withholds_at}
use Rattle.fw_bus_engine.proofs.reset.withhold.Goals as goal

pub returns-then-withholds : goal.returns-then-withholds
returns-then-withholds g c = record {
  does = does_nothing c.args.machine.now (g.K.Sink.held c.args.sink.now) (g.K.Sink.faults c.args.sink.now) tt
      (goes_on_withholding c.args.machine.now (sym c.withholds.ensures ∙ c.if-withholds.true));
}

pub returns : goal.returns
returns g c = record {
  does = does_as withholds_at (does_entry
      (withhold_turns c.args.machine.now c.withhold.new.self c.withheld.result c.requires.first (sym c.withholds.ensures ∙ c.if-withholds.false) c.withheld.ensures.value c.withhold.ensures)
      c.emit.ensures);
}
