-- How many plugs are on each channel.
use Rattle.std.specs.Prelude.{◌≡◌, ◌<◌, ◌≤◌, Bool, false, replicate, ℕ, List, Option, length, slice_index, if◌then◌else◌}
use Rattle.std.specs.List.{count_by}
use Rattle.fw_watch_remarks.specs.declared.known.Known.{Known}
use Rattle.fw_watch_remarks.specs.Knowing.{after_reset, is_channel, is_on}

-- a plug on this channel, if it is the one that is asked for
abbrev pub one_on : ℕ → Option ℕ → ℕ
one_on k channel = if is_channel k channel then 1 else 0

-- of each channel it is known how many of the plugs are on it
abbrev pub CountsUsed : List ℕ → List Known → Type 0
CountsUsed used plugs = (length plugs ≤ 3906) × ((k : ℕ) → k < 64 → slice_index used k ≡ count_by (is_on k) plugs)

-- what is kept of plugs: how many are on each channel, and that nothing was found of any since the latest bus reset, if so it is said
pub record AreKeptPlugs (used : List ℕ) (is_touched : Bool) (plugs : List Known) : Type 0 where
  pub counts : CountsUsed used plugs
  pub untouched : is_touched ≡ false → plugs ≡ replicate (length plugs) after_reset
