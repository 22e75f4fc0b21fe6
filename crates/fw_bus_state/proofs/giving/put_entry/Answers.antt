use Rattle.fw_bus_state.proofs.Common.{◌≡◌, ◌++◌, ◌∙◌, List, ℕ, ap, refl, arith}
use Rattle.fw_log_entry.specs.declared.version.Version.TheVariants.{Two}
use Rattle.fw_log_entry.specs.Log.{epoch_after, entry_bytes}
use Rattle.fw_model_run.specs.Giving.{at_cycle}
use Rattle.fw_bus_state.proofs.giving.put_entry.Goals as goal

pub returns-clause-gives : goal.returns-clause-gives
returns-clause-gives c =
    let m = c.args.machine.now in
    let timed = c.timed-epoch in
    let whole : List ℕ = entry_bytes Two (epoch_after m.devices.epoch c.args.what) (at_cycle m.cycle c.args.what) in
    let same : entry_bytes Two timed.result.0 timed.result.1 ≡ whole = λ i. entry_bytes Two (timed.ensures.epoch i) (timed.ensures.entry i) in
    record {
      bytes = c.put_entry.ensures.bytes ∙ ap (λ (bytes : List ℕ). c.args.room.now.cycle ++ bytes) same;
      faults = record { cause = record { later = omega arith; failed = tt }; same = refl };
    }
