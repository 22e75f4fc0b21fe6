use Rattle.fw_bus_engine.proofs.Common.{subst, GivesEntry, ◌∙◌}
use Rattle.fw_bus_engine.proofs.OneAction.{does_one}
use Rattle.fw_bus_engine.proofs.LifeTurns.{carry_turns}
use Rattle.fw_bus_engine.proofs.lives.carry_request.Goals as goal

pub hear-requires : goal.hear-requires
hear-requires g c = record { ready = c.requires.ready; awaits = (c.requires.living, c.requires.standing) }

pub returns : goal.returns
returns g c =
    let x = c.hear.ensures in
    record {
      does = does_one c.args.machine.now.cycle x.entry c.hear.result
          (carry_turns c.args.machine.now c.hear.new.machine c.args.device x.entry c.requires.living c.requires.standing x.turns.takes)
          (subst (λ k. GivesEntry (g.K.Sink.held c.args.sink.now) (g.K.Sink.held c.hear.new.sink) c.hear.result k c.hear.new.machine.devices.epoch x.entry) x.turns.time x.gives)
          x.faults;
      living = x.turns.living c.args.device ∙ c.requires.living;
    }
