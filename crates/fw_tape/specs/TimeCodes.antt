-- Time codes (AV/C Tape Recorder/Player Subunit 2.1, TIME CODE).
use Rattle.std.specs.Prelude.{◌≡◌, ◌<◌, ℕ, ◌+◌, ◌*◌, ◌/◌, ◌%◌, List, [], ◌∷◌}
use Rattle.fw_tape.specs.declared.system.TapeSystem.{TapeSystem}
use Rattle.fw_tape.specs.Systems.{frames_per_second}

-- two decimal digits, four bits each
abbrev pub bcd : ℕ → ℕ
bcd n = n / 10 * 16 + n % 10

-- the frame of the second, the second, the minute and the hour
abbrev pub time_code : TapeSystem → ℕ → List ℕ
time_code system frame =
    let rate = frames_per_second system in
    bcd (frame % rate) ∷ bcd (frame / rate % 60) ∷ bcd (frame / (60 * rate) % 60) ∷ bcd (frame / (3600 * rate)) ∷ []

-- these bytes are the digits of a frame of the second, a second, a minute and an hour that make up so many frames
pub record Counts (system : TapeSystem) (frame : ℕ) (bytes : List ℕ) : Type 0 where
  pub frames : ℕ
  pub seconds : ℕ
  pub minutes : ℕ
  pub hours : ℕ
  pub digits : bytes ≡ bcd frames ∷ bcd seconds ∷ bcd minutes ∷ bcd hours ∷ []
  pub sum : frame ≡ frames + frames_per_second system * (seconds + 60 * (minutes + 60 * hours))
  pub frames_fit : frames < frames_per_second system
  pub seconds_fit : seconds < 60
  pub minutes_fit : minutes < 60
  pub hours_fit : hours < 24
