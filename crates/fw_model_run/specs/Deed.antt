-- A deed: what one action may, writes and leaves.
use Rattle.std.specs.Prelude.{ℕ, ◌<◌, ◌+◌, Option, None, Some}
use Rattle.fw_log_entry.specs.declared.entry.Entry.{Entry}
use Rattle.fw_log_entry.specs.declared.entry.Entry.TheVariants.{Reset}
use Rattle.fw_log_entry.specs.declared.entry.ResetEntry.{ResetEntry}
use Rattle.fw_devices.specs.Entries.{IsResetEntry}
use Rattle.fw_order.specs.declared.limits.TheConstants.{MOST_RESETS}
use Rattle.fw_model_run.specs.Afterwards.{after_reset_entry}
use Rattle.fw_model_run.specs.State.{State, epoch_of}

-- when an action may be done, what it writes, in which cycle, and the state after it
pub record Deed : Type 1 where
  pub may : Type 0
  pub cycle : ℕ
  pub says : Option Entry  -- one entry at most
  pub after : State

-- in the cycle that has come nothing is written
abbrev pub silent : State → Type 0 → State → Deed
silent s may after = record { may = may; cycle = s.clock.cycle; says = None; after = after }

-- in the cycle that has come this is written
abbrev pub saying : State → Type 0 → Entry → State → Deed
saying s may what after = record { may = may; cycle = s.clock.cycle; says = Some what; after = after }

-- ---- bus resets

-- This is the entry of the next bus reset, which the device begins: it shows the tree of what is declared, and its epoch is one more.
pub record IsNextReset (s : State) (initiator : ℕ) (e : ResetEntry) : Type 0 where
  pub is_entry : IsResetEntry s.declared.topology s.declared.kinds (epoch_of s.account.latest + 1) initiator e
  pub few : epoch_of s.account.latest < MOST_RESETS

-- the bus reset of an entry is written
abbrev pub reset_by : State → Type 0 → ResetEntry → Deed
reset_by s may e = saying s may (Reset e) (after_reset_entry s e)
