-- What a bus reset of a run is, whatever begins it.
use Rattle.std.specs.Prelude.{ℕ, ◌≡◌, ◌+◌, ◌<◌, List, Some}
use Rattle.fw_log_entry.specs.declared.entry.Entry.TheVariants.{Reset}
use Rattle.fw_log_entry.specs.declared.entry.ResetEntry.{ResetEntry}
use Rattle.fw_log_entry.specs.declared.entry.Timed.{Timed}
use Rattle.fw_devices.specs.Entries.{IsResetEntry}
use Rattle.fw_order.specs.declared.limits.TheConstants.{MOST_RESETS}
use Rattle.fw_model_run.specs.Afterwards.{after_reset_entry}
use Rattle.fw_model_run.specs.Giving.{at_most}
use Rattle.fw_model_run.specs.State.{State, epoch_of}

-- A device on the bus begins a bus reset, of which there are at most `MOST_RESETS`.
pub record Resets (s : State) (initiator : ℕ) (out : List Timed) (t : State) : Type 0 where
  pub entry : ResetEntry
  pub is_entry : IsResetEntry s.declared.topology s.declared.kinds (epoch_of s.account.latest + 1) initiator entry
  pub few : epoch_of s.account.latest < MOST_RESETS
  pub out_is : out ≡ at_most s.clock.cycle (Some (Reset entry))
  pub state_is : t ≡ after_reset_entry s entry
