-- What a call gives to its sink: how the sink stands before it and after it, and that an entry was written.
use Rattle.std.specs.Prelude.{ℕ, List, Option, Some, Ok}
use Rattle.std.specs.declared.result.Result.{Result}
use Rattle.fw_outside.specs.Outside.{Writes}
use Rattle.fw_log_entry.specs.Log.{epoch_after, entry_bytes}
use Rattle.fw_log_entry.specs.declared.entry.Entry.{Entry}
use Rattle.fw_log_entry.specs.declared.version.Version.TheVariants.{Two}
use Rattle.fw_model_run.specs.Giving.{at_cycle}
use Rattle.fw_bus_state.specs.Faults.{CountsFaults}
use Rattle.fw_bus_state.specs.declared.machine.Machine.{Machine}

-- the two sides of a call of a sink: the bytes that were written, if the sink tells them, and its count of faults, before the call and after it
pub record Sides : Type 0 where
  pub held : Option (List ℕ)
  pub after : Option (List ℕ)
  pub count : ℕ
  pub counts : ℕ

-- these bytes before and after, and these counts
abbrev pub between : Option (List ℕ) → Option (List ℕ) → ℕ → ℕ → Sides
between held after count counts = record { held = held; after = after; count = count; counts = counts }

-- those of a sink of any kind, by what it was and is
abbrev pub sides_of : {K : Type 0} → (K → Option (List ℕ)) → (K → ℕ) → K → K → Sides
sides_of held faults old new = between (held old) (held new) (faults old) (faults new)

-- those of a room, which tells what it holds
abbrev pub in_room : List ℕ → List ℕ → Sides
in_room old new = between (Some old) (Some new) 0 0

-- what a write to a room answers: it never fails
abbrev pub never_fails : Result (Unit {0}) (Unit {0})
never_fails = Ok (tt {0})

-- an entry of the machine's cycle was written, with the epoch of the latest bus reset up to and including it, or a prefix of it
pub record Gives {T E : Type 0} (m : Machine) (e : Entry) (sides : Sides) (result : Result T E) : Type 0 where
  pub bytes : Writes sides.held sides.after result (entry_bytes Two (epoch_after m.devices.epoch e) (at_cycle m.cycle e))
  pub faults : CountsFaults sides.count sides.counts result
