-- Words that differ in one bit.
use Rattle.std.specs.Prelude.{◌≡◌, ◌≢◌, ℕ, ◌<◌}
use Rattle.fw_watch_remarks.specs.Knowing.{bit_of}

-- no bit of two words of 32 bits differs but this one
pub record DifferAt (old new at : ℕ) : Type 0 where
  pub within : at < 32
  pub others : (i : ℕ) → i < 32 → i ≢ at → bit_of old i ≡ bit_of new i
