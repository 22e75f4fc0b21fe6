-- The entry of the bus reset is the one that the devices lend.
use Rattle.fw_bus_engine.proofs.Common.{subst, Reset, GivesEntry}
use Rattle.std.specs.Prelude.{Some}
use Rattle.fw_bus_engine.proofs.ResetTurns.{same_cycle}
use Rattle.fw_bus_engine.proofs.reset.give_reset.Goals as goal

pub returns : goal.returns
returns g c =
    let now = c.begin_reset.new.machine in
    let same = same_cycle c.begin_reset.ensures.begins in
    let gives = rw c.latest.ensures at c.emit.ensures.bytes in
    record {
      begins = c.begin_reset.ensures.begins;
      gives = subst (λ n. GivesEntry (g.K.Sink.held c.args.sink.now) (g.K.Sink.held c.emit.new.sink) c.emit.result n now.devices.epoch (Some (Reset now.devices.latest))) same gives;
      faults = c.emit.ensures.faults;
    }
