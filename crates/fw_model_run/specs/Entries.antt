-- The entries of events and of outcomes.
use Rattle.std.specs.Prelude.{ℕ, ◌%◌, ◌^◌}
use Rattle.fw_log_entry.specs.declared.codes.TheConstants.{NO_DEVICE, LINES_525, LINES_625}
use Rattle.fw_log_entry.specs.declared.codes.event.TheConstants.{SECOND_OVER, DIED, STARTED, INSERTED, EJECTED, UNSETTLED, LOST, WITHHELD, ELECTED, DEFEATED, DUBBING}
use Rattle.fw_log_entry.specs.declared.codes.outcome.TheConstants as Codes
use Rattle.fw_log_entry.specs.declared.entry.Entry.{Entry}
use Rattle.fw_log_entry.specs.declared.entry.Entry.TheVariants.{Event, Outcome as OutcomeOf, Shown}
use Rattle.fw_tape.specs.declared.system.TapeSystem.{TapeSystem}
use Rattle.fw_tape.specs.declared.system.TapeSystem.TheVariants.{Lines525, Lines625}
use Rattle.fw_cmp_jobs.specs.declared.outcome.Outcome.{Outcome}
use Rattle.fw_cmp_jobs.specs.declared.outcome.Outcome.TheVariants.{Connected, Broken, Restored, NoChannel, NoUnits, PlugFull, InputBusy}
use Rattle.fw_cmp_jobs.specs.declared.outcome.Outcome.TheVariants.{NoPlug, NoManager, Absent, Reset, Late}

-- ---- events

-- the entry of an event at a device
abbrev pub event_of : ℕ → ℕ → Entry
event_of code device = Event (record { code = code; device = device; tape = 0; system = 0 })

-- the second of the latest bus reset is over
abbrev pub second_over : Entry
second_over = event_of SECOND_OVER NO_DEVICE

-- the controller of a device died
abbrev pub died : ℕ → Entry
died d = event_of DIED d

-- the controller of a device was started again
abbrev pub started : ℕ → Entry
started d = event_of STARTED d

-- a living controller has something to do, or waits for an answer
abbrev pub unsettled : Entry
unsettled = event_of UNSETTLED NO_DEVICE

-- a controller has not heard the response to its request
abbrev pub lost : ℕ → Entry
lost d = event_of LOST d

-- the bus withholds channel 31
abbrev pub withheld : Entry
withheld = event_of WITHHELD NO_DEVICE

-- how many lines a picture of a television system has
abbrev pub lines_of : TapeSystem → ℕ
lines_of Lines525 = LINES_525
lines_of Lines625 = LINES_625

-- a tape of a television system was put into a deck
abbrev pub inserted : ℕ → ℕ → TapeSystem → Entry
inserted d tape system = Event (record { code = INSERTED; device = d; tape = tape; system = lines_of system })

-- the tape of a deck was taken out
abbrev pub ejected : ℕ → Entry
ejected d = event_of EJECTED d

-- the candidate of device d is the bus manager
abbrev pub elected : ℕ → Entry
elected d = event_of ELECTED d

-- the candidate of device d found another bus manager
abbrev pub defeated : ℕ → Entry
defeated d = event_of DEFEATED d

-- the reel is empty, and has the recording of device d from now on
abbrev pub dubbing : ℕ → Entry
dubbing d = event_of DUBBING d

-- ---- outcomes

-- the code and the value; a cycle is its low 32 bits
abbrev pub coded : Outcome → ℕ × ℕ
coded (Connected channel) = (Codes.CONNECTED, channel)
coded Broken = (Codes.BROKEN, 0)
coded (Restored channel) = (Codes.RESTORED, channel)
coded (NoChannel word) = (Codes.NO_CHANNEL, word)
coded (NoUnits remainder) = (Codes.NO_UNITS, remainder)
coded (PlugFull word) = (Codes.PLUG_FULL, word)
coded (InputBusy word) = (Codes.INPUT_BUSY, word)
coded (NoPlug rcode) = (Codes.NO_PLUG, rcode)
coded NoManager = (Codes.NO_MANAGER, 0)
coded (Absent device) = (Codes.ABSENT, device)
coded (Reset epoch) = (Codes.RESET, epoch)
coded (Late cycle) = (Codes.LATE, cycle % 2 ^ 32)

-- the job of a slot of device d ends so
abbrev pub outcome_entry : ℕ → ℕ → Outcome → Entry
outcome_entry d slot o = OutcomeOf (record { code = (coded o).0; device = d; slot = slot; value = (coded o).1 })

-- ---- shown words

-- a device's register at an offset has this word
abbrev pub shown_entry : ℕ → ℕ → ℕ → Entry
shown_entry d offset word = Shown (record { device = d; offset = offset; word = word })
