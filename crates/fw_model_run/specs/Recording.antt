-- What a deck records: of each cycle that is written, the block of the packet on the channel that its input plug hears (own).
use Rattle.std.specs.Prelude.{ℕ, ◌==◌, ◌&&◌, Bool, List, [], ◌∷◌, Option, Some, None, if◌then◌else◌}
use Rattle.std.specs.Option.{option_or}
use Rattle.fw_terms.specs.Tables.{at_plug}
use Rattle.fw_dub.specs.Reels.{kept}
use Rattle.fw_log_entry.specs.declared.entry.Entry.{Entry}
use Rattle.fw_log_entry.specs.declared.entry.Entry.TheVariants.{Reset, Async, Iso, Event, Outcome, Shown, End}
use Rattle.fw_log_entry.specs.declared.entry.Timed.{Timed}
use Rattle.fw_tape.specs.declared.cassette.Cassette.{Cassette}
use Rattle.fw_tape.specs.declared.system.TapeSystem.{TapeSystem}
use Rattle.fw_tape.specs.declared.system.TapeSystem.TheVariants.{Lines525, Lines625}
use Rattle.fw_tape.specs.declared.transport.Transport.TheVariants.{Record}
use Rattle.fw_tape.specs.Transports.{same_state}
use Rattle.fw_tape.specs.Motion.{transport_of}
use Rattle.fw_model_run.specs.Dubs.{hears_in}
use Rattle.fw_model_run.specs.State.{State, has_deck}

-- ---- the block of a channel, in the entries of a cycle

-- the block of a packet on this channel
abbrev pub block_of : ℕ → Entry → Option (List ℕ)
block_of channel (Iso p) = if p.channel == channel then p.block else None
block_of channel (Reset r) = None
block_of channel (Async p) = None
block_of channel (Event e) = None
block_of channel (Outcome o) = None
block_of channel (Shown s) = None
block_of channel End = None

-- the first block on this channel among entries
abbrev pub block_among : ℕ → List Timed → Option (List ℕ)
block_among channel [] = None
block_among channel (t ∷ out) = option_or (block_of channel t.what) (block_among channel out)

-- ---- the deck that records

-- the blocks of 16 frames of a tape
abbrev pub room_on : TapeSystem → ℕ
room_on Lines525 = 4000
room_on Lines625 = 4800

-- the blocks that the reel may have of a tape; none without a tape
abbrev pub room_of : Option Cassette → ℕ
room_of None = 0
room_of (Some c) = room_on c.system

-- the tape of a device
abbrev pub tape_in : State → ℕ → Option Cassette
tape_in s d = (s.decks d).unit.tape

-- the device is a deck or a camcorder whose transport records, and its input plug hears
abbrev pub records : State → ℕ → Bool
records s d = has_deck s d && (same_state (transport_of (tape_in s d)) Record && hears_in s.account s.dub (at_plug d 0))

-- of what was written in a cycle, the block that device d records
abbrev pub block_heard : State → ℕ → List Timed → Option (List ℕ)
block_heard s d out = if records s d then block_among (s.account.input_channel (at_plug d 0)) out else None

-- ---- the reel

-- the block goes onto the reel, if the tape of device d has room for it
abbrev pub reel_with : State → ℕ → Option (List ℕ) → List (List ℕ)
reel_with s d None = s.dub.reel
reel_with s d (Some bytes) = kept (room_of (tape_in s d)) bytes s.dub.reel

-- of what was written in a cycle, the block that the tied device records
abbrev pub heard_by : State → Option ℕ → List Timed → Option (List ℕ)
heard_by s None out = None
heard_by s (Some d) out = block_heard s d out

-- of what was written in a cycle, the block that the deck tied to the reel records
abbrev pub heard_in : State → List Timed → Option (List ℕ)
heard_in s out = heard_by s s.dub.tied out

-- it goes onto the reel
abbrev pub reel_keeping : State → Option ℕ → Option (List ℕ) → List (List ℕ)
reel_keeping s None block = s.dub.reel
reel_keeping s (Some d) block = reel_with s d block

-- the state with a block on the reel, if it has room
abbrev pub with_block : State → Option (List ℕ) → State
with_block s block = record s { dub = record s.dub { reel = reel_keeping s s.dub.tied block } }

-- the reel is empty, and has the recording of device d from now on
abbrev pub tied_to : State → ℕ → State
tied_to s d = record s { dub = record s.dub { tied = Some d; reel = [] } }
