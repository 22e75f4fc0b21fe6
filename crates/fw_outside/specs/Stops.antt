-- Which counts of faults rise in a call, by why it stopped, if it did. The first fault decides.
use Rattle.std.specs.Prelude.{◌≡◌, ℕ, Option, Some, None, Ok, Err}
use Rattle.std.specs.declared.result.Result.{Result}
use Rattle.fw_outside.specs.Outside.{Rose}
use Rattle.fw_outside.specs.declared.stop.Stop.{Stop}
use Rattle.fw_outside.specs.declared.stop.Stop.TheVariants.{ReadFault, WriteFault, TooLong, NoMemory}

-- The source's count of faults rises if a read failed, and stays else.
abbrev pub ReadCount : ℕ → ℕ → Option Stop → Type 0
ReadCount old new None = new ≡ old
ReadCount old new (Some ReadFault) = Rose old new
ReadCount old new (Some WriteFault) = new ≡ old
ReadCount old new (Some TooLong) = new ≡ old
ReadCount old new (Some NoMemory) = new ≡ old

-- The sink's count of faults rises if a write failed, and stays else.
abbrev pub WriteCount : ℕ → ℕ → Option Stop → Type 0
WriteCount old new None = new ≡ old
WriteCount old new (Some ReadFault) = new ≡ old
WriteCount old new (Some WriteFault) = Rose old new
WriteCount old new (Some TooLong) = new ≡ old
WriteCount old new (Some NoMemory) = new ≡ old

-- why a call stopped that answers so
abbrev pub stop_in : {T : Type 0} → Result T Stop → Option Stop
stop_in (Ok _) = None
stop_in (Err stop) = Some stop
