-- The end of what was read, if what is written of it gets one.
use Rattle.std.specs.Prelude.{◌≡◌, ℕ, List, ◌++◌, Option, Result, Ok, Err}
use Rattle.fw_outside.specs.Outside.{Rose, Grows, AppendsPrefix}
use Rattle.fw_outside.specs.declared.stop.Stop.{Stop}
use Rattle.fw_outside.specs.declared.stop.Stop.TheVariants.{ReadFault, WriteFault, TooLong, NoMemory}
use Rattle.fw_log_entry.specs.declared.entry.Timed.{Timed}
use Rattle.fw_log_loop.specs.Readings.{Form}
use Rattle.fw_log_loop.specs.declared.ending.LogEnd.{LogEnd}

-- what is due at the end of these entries was written, or a prefix of it
pub record Adds (form : Form) (entries : List Timed) (end : LogEnd) (Grew : List ℕ → Type 0) : Type 0 where
  pub more : List ℕ
  pub closes : (text : List ℕ) → form.closed entries end text ≡ text ++ more
  pub grew : Grew more

-- What is due at the end was written; or not all of it, as a write failed; or nothing, as memory ran out.
abbrev pub Concludes : Form → List Timed → LogEnd → Option (List ℕ) → Option (List ℕ) → Result (Unit {0}) Stop → Type 0
Concludes form entries end held held' (Ok _) = Adds form entries end (Grows held held')
Concludes form entries end held held' (Err WriteFault) = Adds form entries end (AppendsPrefix held held')
Concludes form entries end held held' (Err NoMemory) = held' ≡ held
Concludes form entries end held held' (Err ReadFault) = ⊥
Concludes form entries end held held' (Err TooLong) = ⊥

-- the sink's count of faults rises if a write failed, and stays else
abbrev pub ConcludeCount : ℕ → ℕ → Result (Unit {0}) Stop → Type 0
ConcludeCount old new (Ok _) = new ≡ old
ConcludeCount old new (Err WriteFault) = Rose old new
ConcludeCount old new (Err NoMemory) = new ≡ old
ConcludeCount old new (Err ReadFault) = ⊥
ConcludeCount old new (Err TooLong) = ⊥
