-- What the tied deck records of a cycle: what it hears, by the machine and by a state of a run.
use Rattle.std.specs.Prelude.{ℕ, ◌==◌, List, Option, Some, None, if◌then◌else◌}
use Rattle.std.specs.Option.{option_map}
use Rattle.fw_terms.specs.Tables.{at_plug}
use Rattle.fw_dub.specs.Reels.{kept}
use Rattle.fw_model_run.specs.Recording.{records, room_of, tape_in}
use Rattle.fw_model_run.specs.State.{State}
use Rattle.fw_bus_state.specs.declared.recording.Recording.{Recording}

-- a block that is written on a channel
abbrev pub hearing : ℕ → List ℕ → Recording → Recording
hearing channel bytes r = record r { block = if r.channel == channel then Some bytes else r.block }

-- the block of a packet, if it has one, if a deck records
abbrev pub hearing_of : ℕ → Option (List ℕ) → Option Recording → Option Recording
hearing_of channel None o = o
hearing_of channel (Some bytes) o = option_map (hearing channel bytes) o

-- what a deck records, before anything is written
abbrev pub recording_of : State → ℕ → Option Recording
recording_of s d =
    if records s d then Some (record { channel = s.account.input_channel (at_plug d 0); limit = room_of (tape_in s d); block = None }) else None

-- what the deck tied to the reel records, if there is one
abbrev pub recording_by : State → Option ℕ → Option Recording
recording_by s None = None
recording_by s (Some d) = recording_of s d

-- what the tied deck records
abbrev pub recording_in : State → Option Recording
recording_in s = recording_by s s.dub.tied

-- the block goes onto the reel
abbrev pub reel_after : Option Recording → List (List ℕ) → List (List ℕ)
reel_after None reel = reel
reel_after (Some r) reel = elim r.block [ None ↦ reel | Some bytes ↦ kept r.limit bytes reel ]
