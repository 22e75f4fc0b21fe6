-- Where a tape stands, counted from the cycle in which its present motion began.
use Rattle.std.specs.Prelude.{ℕ, ◌+◌, ◌-◌, ◌/◌, ◌%◌, ◌^◌, ◌≤◌, ◌<◌, Option, Some, None, is_some, Bool, true, false, IsTrue, if◌then◌else◌}
use Rattle.fw_tape.specs.declared.system.TapeSystem.{TapeSystem}
use Rattle.fw_tape.specs.declared.system.TapeSystem.TheVariants.{Lines525, Lines625}
use Rattle.fw_tape.specs.declared.transport.Transport.{Transport}
use Rattle.fw_tape.specs.declared.transport.Transport.TheVariants.{Stop, Rewind, FastForward}
use Rattle.fw_tape.specs.declared.transport.Direction.{Direction}
use Rattle.fw_tape.specs.declared.transport.Direction.TheVariants.{Forward, Backward}
use Rattle.fw_tape.specs.declared.cassette.Cassette.{Cassette}
use Rattle.fw_tape.specs.Systems.{blocks_due, blocks_per_frame, frames_per_day}
use Rattle.fw_tape.specs.Transports.{same_state, direction_of}

-- the whole frames that a tape moves in so many cycles
abbrev pub frames_moved : TapeSystem → ℕ → ℕ
frames_moved system cycles = blocks_due system cycles / blocks_per_frame system

-- the frame so many frames after another, on a tape that has its first frame after its last
abbrev pub moved_on : TapeSystem → ℕ → ℕ → ℕ
moved_on system start n = (start + n) % frames_per_day system

-- the frame so many frames before another
abbrev pub moved_back : TapeSystem → ℕ → ℕ → ℕ
moved_back system start n = (start + (frames_per_day system - n % frames_per_day system)) % frames_per_day system

-- the frame after so many frames of a motion
abbrev pub moved : Option Direction → TapeSystem → ℕ → ℕ → ℕ
moved None system start n = start
moved (Some Forward) system start n = moved_on system start n
moved (Some Backward) system start n = moved_back system start n

-- the frame at which a tape stands
abbrev pub frame_of : Cassette → ℕ
frame_of c = moved (direction_of c.transport) c.system c.start (frames_moved c.system c.passed)

-- a tape that was just inserted: stopped at frame 0
abbrev pub inserted : ℕ → TapeSystem → Cassette
inserted tape system = record { tape = tape; system = system; transport = Stop; start = 0; passed = 0 }

-- the frame from which a state begins: winding goes at once to the first or the last frame (own)
abbrev pub first_frame : Transport → Cassette → ℕ
first_frame Rewind c = 0
first_frame FastForward c = frames_per_day c.system - 1
first_frame _ c = frame_of c

-- the transport enters a state; in that state already, nothing changes (own)
abbrev pub entered : Transport → Cassette → Cassette
entered t c = if same_state t c.transport then c else record c { transport = t; start = first_frame t c; passed = 0 }

-- so many cycles pass
abbrev pub passed_on : ℕ → Cassette → Cassette
passed_on cycles c = if is_some (direction_of c.transport) then record c { passed = c.passed + cycles } else c

-- the tape moves
abbrev pub moves : Cassette → Bool
moves c = is_some (direction_of c.transport)

-- if the tape moves, at most 2^52 cycles have passed with these since its motion began
abbrev pub MayPass : ℕ → Option Cassette → Type 0
MayPass cycles None = Unit {0}
MayPass cycles (Some c) = IsTrue (moves c) → c.passed + cycles ≤ 2 ^ 52

-- a tape stands within its day, and has not moved longer than 2^52 cycles
pub record IsInRange (c : Cassette) : Type 0 where
  pub start : c.start < frames_per_day c.system
  pub passed : c.passed ≤ 2 ^ 52

-- what the transport does; without a tape it is stopped
abbrev pub transport_of : Option Cassette → Transport
transport_of None = Stop
transport_of (Some c) = c.transport

-- a tape of the 625-50 system is in
abbrev pub is_fifty : Option Cassette → Bool
is_fifty None = false
is_fifty (Some c) = elim c.system [ Lines625 ↦ true | Lines525 ↦ false ]
