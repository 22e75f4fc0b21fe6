-- Frames forward and back, and time codes.
use Rattle.std.proofs.Common.{◌≡◌, ℕ, ◌/◌, ◌%◌, ◌<◌, ◌-◌, false, if◌then◌else◌, Option, Some, None, arith, refl, ap, ◌∙◌}
use Rattle.fw_tape.specs.declared.system.TapeSystem.{TapeSystem}
use Rattle.fw_tape.specs.declared.system.TapeSystem.TheVariants.{Lines525, Lines625}
use Rattle.fw_tape.specs.declared.transport.Transport.{Transport}
use Rattle.fw_tape.specs.declared.transport.Transport.TheVariants.{Stop, Rewind, FastForward, Play, PlayPause, Reverse, ReversePause, Record, RecordPause}
use Rattle.fw_tape.specs.declared.transport.Direction.{Direction}
use Rattle.fw_tape.specs.declared.transport.Direction.TheVariants.{Forward, Backward}
use Rattle.fw_tape.specs.declared.cassette.Cassette.{Cassette}
use Rattle.fw_tape.specs.Systems.{frames_per_day}
use Rattle.fw_tape.specs.Transports.{same_state, direction_of}
use Rattle.fw_tape.specs.Motion.{moved, moved_on, moved_back, frames_moved, frame_of, first_frame, entered, IsInRange}
use Rattle.fw_tape.specs.TimeCodes.{time_code, Counts}

pub back_again : (s : TapeSystem) (start n : ℕ) → start < frames_per_day s → moved_back s (moved_on s start n) n ≡ start
back_again Lines525 start n lt = omega arith
back_again Lines625 start n lt = omega arith

pub forth_again : (s : TapeSystem) (start n : ℕ) → start < frames_per_day s → moved_on s (moved_back s start n) n ≡ start
forth_again Lines525 start n lt = omega arith
forth_again Lines625 start n lt = omega arith

pub time_code_counts : (s : TapeSystem) (frame : ℕ) → frame < frames_per_day s → Counts s frame (time_code s frame)
time_code_counts Lines525 frame lt = record {
  frames = frame % 30;
  seconds = frame / 30 % 60;
  minutes = frame / 1800 % 60;
  hours = frame / 108000;
  digits = refl;
  sum = omega arith;
  frames_fit = omega arith;
  seconds_fit = omega arith;
  minutes_fit = omega arith;
  hours_fit = omega arith;
}
time_code_counts Lines625 frame lt = record {
  frames = frame % 25;
  seconds = frame / 25 % 60;
  minutes = frame / 1500 % 60;
  hours = frame / 90000;
  digits = refl;
  sum = omega arith;
  frames_fit = omega arith;
  seconds_fit = omega arith;
  minutes_fit = omega arith;
  hours_fit = omega arith;
}

-- ---- where a tape stands

moved_within : (d : Option Direction) (s : TapeSystem) (start n : ℕ) → start < frames_per_day s → moved d s start n < frames_per_day s
moved_within None s start n lt = lt
moved_within (Some Forward) Lines525 start n lt = omega arith
moved_within (Some Forward) Lines625 start n lt = omega arith
moved_within (Some Backward) Lines525 start n lt = omega arith
moved_within (Some Backward) Lines625 start n lt = omega arith

pub within_day : (c : Cassette) → IsInRange c → frame_of c < frames_per_day c.system
within_day c r = moved_within (direction_of c.transport) c.system c.start (frames_moved c.system c.passed) r.start

not_moved : (d : Option Direction) (s : TapeSystem) (start : ℕ) → start < frames_per_day s → moved d s start (frames_moved s 0) ≡ start
not_moved None s start lt = refl
not_moved (Some Forward) Lines525 start lt = omega arith
not_moved (Some Forward) Lines625 start lt = omega arith
not_moved (Some Backward) Lines525 start lt = omega arith
not_moved (Some Backward) Lines625 start lt = omega arith

last_within : (s : TapeSystem) → frames_per_day s - 1 < frames_per_day s
last_within Lines525 = omega arith
last_within Lines625 = omega arith

first_of_day : (s : TapeSystem) → 0 < frames_per_day s
first_of_day Lines525 = omega arith
first_of_day Lines625 = omega arith

first_within : (t : Transport) (c : Cassette) → IsInRange c → first_frame t c < frames_per_day c.system
first_within Rewind c r = first_of_day c.system
first_within FastForward c r = last_within c.system
first_within Stop c r = within_day c r
first_within Play c r = within_day c r
first_within PlayPause c r = within_day c r
first_within Reverse c r = within_day c r
first_within ReversePause c r = within_day c r
first_within Record c r = within_day c r
first_within RecordPause c r = within_day c r

pub begun_there : (c : Cassette) (t : Transport) → IsInRange c → same_state t c.transport ≡ false → frame_of (entered t c) ≡ first_frame t c
begun_there c t r other =
    ap (λ b. frame_of (if b then c else record c { transport = t; start = first_frame t c; passed = 0 })) other
    ∙ not_moved (direction_of t) c.system (first_frame t c) (first_within t c r)
