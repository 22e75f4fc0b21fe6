-- The history with a move.
use Rattle.std.specs.Prelude.{ℕ, ◌≡◌, List}
use Rattle.std.specs.List.{All}
use Rattle.fw_log_entry.specs.Log.{entries_bytes, TimedFits}
use Rattle.fw_log_entry.specs.declared.version.Version.TheVariants.{Two}
use Rattle.fw_log_entry.specs.declared.entry.Timed.{Timed}
use Rattle.fw_kept_parts.specs.Tables.{Keeps}
use Rattle.fw_explore_movers.specs.declared.mover.MoverKind.{MoverKind}
use Rattle.fw_explore_told.specs.Histories.{History}
use Rattle.fw_explore_meaning.specs.Steps.{Had, history_after}

-- a table of histories has one under its number
abbrev pub IsSame : History → History → Type 0
IsSame kept past = kept ≡ past

-- The number is that of the history with a move that wrote these bytes, which goes on from the one that has the number `here`.
pub record IsPastAfter (old new : List History) (here : ℕ) (written : List ℕ) (kind : MoverKind) (p n : ℕ) : Type 0 where
  pub after : History
  pub keeps : Keeps IsSame old new after n
  pub is : (epoch : ℕ) (out : List Timed) (past : History) → All TimedFits out → written ≡ entries_bytes Two epoch out → Had old here past → after ≡ history_after kind p out past
