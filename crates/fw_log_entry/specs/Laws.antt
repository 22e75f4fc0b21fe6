-- Which number each code has, and what the tables of events and outcomes come to, in words of their own: the laws that functions of this
-- crate promise.
use Rattle.std.specs.Prelude.{◌≡◌, ℕ, ◌==◌, ◌||◌, ◌&&◌, nat_le, true, if◌then◌else◌}
use Rattle.fw_log_entry.specs.declared.codes.TheConstants.{LOG_MAGIC, NO_DEVICE, NO_NODE, LINES_525, LINES_625}
use Rattle.fw_log_entry.specs.declared.codes.kind.TheConstants as Kinds
use Rattle.fw_log_entry.specs.declared.codes.event.TheConstants as Events
use Rattle.fw_log_entry.specs.declared.codes.outcome.TheConstants as Outcomes
use Rattle.fw_log_entry.specs.Log.{is_event, is_outcome}
use Rattle.fw_log_entry.specs.Rows.{event_form, has_tape}

-- the kinds of entries
abbrev pub KindsAreNumbered : Type 0
KindsAreNumbered =
    (Kinds.RESET ≡ 1) × (Kinds.ASYNC ≡ 2) × (Kinds.ISO ≡ 3) × (Kinds.EVENT ≡ 4) × (Kinds.OUTCOME ≡ 5) × (Kinds.SHOWN ≡ 6)
    × (Kinds.END ≡ 7)

-- the codes of events
abbrev pub EventsAreNumbered : Type 0
EventsAreNumbered =
    (Events.SECOND_OVER ≡ 1) × (Events.DIED ≡ 2) × (Events.STARTED ≡ 3) × (Events.INSERTED ≡ 4) × (Events.EJECTED ≡ 5)
    × (Events.UNSETTLED ≡ 6) × (Events.LOST ≡ 7) × (Events.WITHHELD ≡ 8) × (Events.ELECTED ≡ 9) × (Events.DEFEATED ≡ 10)
    × (Events.DUBBING ≡ 11)

-- the codes of outcomes
abbrev pub OutcomesAreNumbered : Type 0
OutcomesAreNumbered =
    (Outcomes.CONNECTED ≡ 1) × (Outcomes.BROKEN ≡ 2) × (Outcomes.RESTORED ≡ 3) × (Outcomes.NO_CHANNEL ≡ 4)
    × (Outcomes.NO_UNITS ≡ 5) × (Outcomes.PLUG_FULL ≡ 6) × (Outcomes.INPUT_BUSY ≡ 7) × (Outcomes.NO_PLUG ≡ 8)
    × (Outcomes.NO_MANAGER ≡ 9) × (Outcomes.ABSENT ≡ 10) × (Outcomes.RESET ≡ 11) × (Outcomes.LATE ≡ 12)

-- what a log begins with; what stands in place of a device or a node if there is none; the systems of tapes, by their lines
abbrev pub OthersAreNumbered : Type 0
OthersAreNumbered =
    (LOG_MAGIC ≡ 0x3133_3934) × (NO_DEVICE ≡ 255) × (NO_NODE ≡ 255) × (LINES_525 ≡ 525) × (LINES_625 ≡ 625)

-- The codes of events are those from the second's end to dubbing. The end of the reclaim second, an unsettled bus and the withholding
-- of channel 31 have no device; a tape that is inserted is of one of two systems, and no other event has one.
abbrev pub EventsAreListed : Type 0
EventsAreListed =
    (code device tape system : ℕ) → is_event code device tape system ≡
    (nat_le Events.SECOND_OVER code && nat_le code Events.DUBBING
    && (if (code == Events.SECOND_OVER) || (code == Events.UNSETTLED) || (code == Events.WITHHELD) then device == NO_DEVICE else true)
    && (if code == Events.INSERTED then (system == LINES_525) || (system == LINES_625) else (tape == 0) && (system == 0)))

-- of all events an insertion alone has a tape
abbrev pub TapesAreInserted : Type 0
TapesAreInserted = (code : ℕ) → has_tape (event_form code) ≡ (code == Events.INSERTED)

-- The codes of outcomes are those from a connection to one that came too late; a broken connection and a bus without a manager bring no value.
abbrev pub OutcomesAreListed : Type 0
OutcomesAreListed =
    (code value : ℕ) → is_outcome code value ≡
    (nat_le Outcomes.CONNECTED code && nat_le code Outcomes.LATE
    && (if (code == Outcomes.BROKEN) || (code == Outcomes.NO_MANAGER) then value == 0 else true))
