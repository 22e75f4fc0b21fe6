use Rattle.fw_bus_state.proofs.Common.{ℕ, List, ap}
use Rattle.fw_log_entry.specs.Log.{entry_bytes}
use Rattle.fw_log_entry.specs.declared.entry.Entry.TheVariants.{Async}
use Rattle.fw_log_entry.specs.declared.version.Version.TheVariants.{Two}
use Rattle.fw_log_entry.proofs.WriteLaws.{writes_same}
use Rattle.fw_model_run.specs.Giving.{at_cycle}
use Rattle.fw_bus_state.proofs.giving.emit_packet.Goals as goal

pub returns : goal.returns
returns g c p spells =
    let held = g.K.Sink.held c.args.sink.now in
    let after = g.K.Sink.held c.write_async.new.sink in
    let m = c.args.machine.now in
    let bytes : ℕ → List ℕ = λ n. entry_bytes Two n (at_cycle m.cycle (Async p)) in
    record {
      bytes = writes_same held after c.write_async.result (bytes c.epoch.result) (bytes m.devices.epoch) (ap bytes c.epoch.ensures) (c.write_async.ensures.bytes p spells);
      faults = record { cause = c.write_async.ensures.cause; same = c.write_async.ensures.same };
    }
