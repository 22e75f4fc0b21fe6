-- The first fault decides: which counts of faults rise in a call.
use Rattle.std.specs.Prelude.{◌≡◌, ℕ, Option, Some, None}
use Rattle.fw_outside.specs.Stops as Stops
use Rattle.fw_outside.specs.declared.stop.Stop.{Stop}
use Rattle.fw_script_words.specs.declared.ending.RunEnding.{RunEnding}
use Rattle.fw_script_words.specs.declared.ending.RunEnding.TheVariants.{Done, Refused, Stopped}

-- why a call stopped, if it did
abbrev pub stop_of : RunEnding → Option Stop
stop_of Done = None
stop_of (Refused refused) = None
stop_of (Stopped stop) = Some stop

-- The source's count of faults rises if a read failed, and stays with each other ending.
abbrev pub ReadCount : ℕ → ℕ → RunEnding → Type 0
ReadCount old new ending = Stops.ReadCount old new (stop_of ending)

-- The sink's count of faults rises if a write failed, and stays with each other ending.
abbrev pub WriteCount : ℕ → ℕ → RunEnding → Type 0
WriteCount old new ending = Stops.WriteCount old new (stop_of ending)

-- the same of a step, with which the run may go on
abbrev pub ReadsOn : ℕ → ℕ → Option RunEnding → Type 0
ReadsOn old new None = new ≡ old
ReadsOn old new (Some ending) = ReadCount old new ending

-- how the count of write faults stands after a step, with which the run may go on
abbrev pub WritesOn : ℕ → ℕ → Option RunEnding → Type 0
WritesOn old new None = new ≡ old
WritesOn old new (Some ending) = WriteCount old new ending
