use Rattle.fw_bus_state.proofs.Common.{◌≡◌, List, ℕ}
use Rattle.fw_log_entry.specs.declared.version.Version.TheVariants.{Two}
use Rattle.fw_log_entry.specs.Log.{epoch_after, entry_bytes}
use Rattle.fw_log_entry.proofs.WriteLaws.{writes_same}
use Rattle.fw_model_run.specs.Giving.{at_cycle}
use Rattle.fw_bus_state.proofs.giving.emit.Goals as goal

pub returns : goal.returns
returns g c =
    let m = c.args.machine.now in
    let timed = c.timed-epoch in
    let whole : List ℕ = entry_bytes Two (epoch_after m.devices.epoch c.args.what) (at_cycle m.cycle c.args.what) in
    let same : entry_bytes Two timed.result.0 timed.result.1 ≡ whole = λ i. entry_bytes Two (timed.ensures.epoch i) (timed.ensures.entry i) in
    record {
      bytes = writes_same (g.K.Sink.held c.args.sink.now) (g.K.Sink.held c.write_entry.new.sink) c.write_entry.result
          (entry_bytes Two timed.result.0 timed.result.1) whole same c.write_entry.ensures.bytes;
      faults = record { cause = c.write_entry.ensures.cause; same = c.write_entry.ensures.same };
    }
