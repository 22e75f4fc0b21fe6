-- The first fault decides: which counts of faults rise in a call.
use Rattle.std.specs.Prelude.{◌≡◌, ◌≢◌, ◌⊎◌, ℕ, Option, Some, None}
use Rattle.fw_outside.specs.Outside.{Rose}
use Rattle.fw_outside.specs.Stops.{ReadCount, WriteCount}
use Rattle.fw_outside.specs.declared.stop.Stop.{Stop}
use Rattle.fw_tool.specs.declared.ending.Ending.{Ending}
use Rattle.fw_tool.specs.declared.ending.Ending.TheVariants.{Done, Usage, Refused, NoLog, Stopped, Unsound, NoMap, Unexplored}

-- why a call stopped, if it did
abbrev pub stop_of : Ending → Option Stop
stop_of Done = None
stop_of Usage = None
stop_of (Refused refused) = None
stop_of (NoLog fault) = None
stop_of (Stopped stop) = Some stop
stop_of (Unsound unsound) = None
stop_of (NoMap no_map) = None
stop_of (Unexplored why) = None

-- By the ending, the counts of source and sink before and after: with a read fault the source's rose alone, with a write
-- fault the sink's alone, and with any other neither.
abbrev pub FirstFault : ℕ → ℕ → ℕ → ℕ → Ending → Type 0
FirstFault read read' written written' ending = ReadCount read read' (stop_of ending) × WriteCount written written' (stop_of ending)

-- By the status, the counts of source, sink and notes in a call whose sink passes each piece on at once: with 5 or 6 exactly one count of
-- source and sink rose, or that of the notes after at most one of them.
pub record IsFirstFaults (status read read' written written' noted noted' : ℕ) : Type 0 where
  pub no_fault : status ≢ 5 → status ≢ 6 → (read' ≡ read) × (written' ≡ written) × (noted' ≡ noted)
  pub read_fault : status ≡ 5 → Rose read read' × (written' ≡ written) × (noted' ≡ noted)
  pub write_fault : status ≡ 6
      → ((read' ≡ read) × Rose written written' × (noted' ≡ noted)) ⊎ (Rose noted noted' × ((read' ≡ read) ⊎ (written' ≡ written)))

-- By the status, the counts of source, sink and notes in a call whose last flush comes after what the words came to. With 6 it was the
-- sink's that rose, or the notes'. A write fault that only the flush shows is told in the place of any other ending, so the source's
-- count may have risen too.
pub record IsToldByStatus (status read read' written written' noted noted' : ℕ) : Type 0 where
  pub no_fault : status ≢ 5 → status ≢ 6 → (read' ≡ read) × (written' ≡ written) × (noted' ≡ noted)
  pub read_fault : status ≡ 5 → Rose read read' × (written' ≡ written) × (noted' ≡ noted)
  pub write_fault : status ≡ 6 → (Rose written written' × (noted' ≡ noted)) ⊎ Rose noted noted'
