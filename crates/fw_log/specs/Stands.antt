-- Where a reader of logs stands, as its rules speak of it.
use Rattle.std.specs.Prelude.{ℕ, Bool, true, false}
use Rattle.std.specs.Int.NonZero.{non_zero_u64_get}
use Rattle.fw_log_entry.specs.declared.version.Version.{Version}
use Rattle.fw_log_entry.specs.declared.version.Version.TheVariants.{One}
use Rattle.fw_log.specs.declared.log_position.LogPosition.{LogPosition}
use Rattle.fw_log.specs.declared.log_position.LogPosition.TheVariants.{Header, Entries, Ended}

-- the place of the first byte that belongs to no entry yet, the cycle of the last entry, whether that was the end, the version of
-- the log, which is not known before the first entry, and the epoch of the latest reset
pub record Position : Type 0 where
  pub start : ℕ
  pub last : ℕ
  pub ended : Bool
  pub version : Version
  pub epoch : ℕ

-- The header stands at the beginning, and cycles and epochs begin at 0.
abbrev pub position : LogPosition → Position
position Header = record { start = 0; last = 0; ended = false; version = One; epoch = 0 }
position (Entries past last v epoch) = record { start = non_zero_u64_get past; last = last; ended = false; version = v; epoch = epoch }
position (Ended past last v epoch) = record { start = non_zero_u64_get past; last = last; ended = true; version = v; epoch = epoch }
