-- What the tables of events and outcomes say of a code (own).
use Rattle.std.specs.Prelude.{ℕ, ◌==◌, Bool, true, false, Option, Some, None, option_map}
use Rattle.std.specs.List.{find}
use Rattle.fw_log_entry.specs.declared.codes.TheConstants.{NO_DEVICE}
use Rattle.fw_log_entry.specs.declared.rows.EventForm.{EventForm}
use Rattle.fw_log_entry.specs.declared.rows.EventForm.TheVariants.{OfBus, OfDevice, OfTape}
use Rattle.fw_log_entry.specs.declared.rows.OutcomeForm.{OutcomeForm}
use Rattle.fw_log_entry.specs.declared.rows.OutcomeForm.TheVariants.{Valued, Bare}
use Rattle.fw_log_entry.specs.declared.rows.TheConstants.{EVENTS, OUTCOMES}

-- what events of a code have, if there are such
abbrev pub event_form : ℕ → Option EventForm
event_form code = option_map (λ (r : ℕ × EventForm). r.1) (find (λ (r : ℕ × EventForm). r.0 == code) EVENTS)

-- such an event has a tape
abbrev pub has_tape : Option EventForm → Bool
has_tape None = false
has_tape (Some OfBus) = false
has_tape (Some OfDevice) = false
has_tape (Some OfTape) = true

-- such an event may have this device
abbrev pub may_have : Option EventForm → ℕ → Bool
may_have None device = false
may_have (Some OfBus) device = device == NO_DEVICE
may_have (Some OfDevice) device = true
may_have (Some OfTape) device = true

-- what outcomes of a code bring, if there are such
abbrev pub outcome_form : ℕ → Option OutcomeForm
outcome_form code = option_map (λ (r : ℕ × OutcomeForm). r.1) (find (λ (r : ℕ × OutcomeForm). r.0 == code) OUTCOMES)

-- such an outcome may bring this value
abbrev pub may_bring : Option OutcomeForm → ℕ → Bool
may_bring None value = false
may_bring (Some Valued) value = true
may_bring (Some Bare) value = value == 0
