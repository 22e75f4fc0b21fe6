-- A bus reset that begins a reclaim second leaves controllers that can settle.
use Rattle.fw_model_rounds.proofs.Common.{ℕ, Account, Directory, ControllerState}
use Rattle.fw_log_entry.specs.declared.entry.ResetEntry.{ResetEntry}
use Rattle.fw_model_account.specs.Events.{after_reset}
use Rattle.fw_model_controllers.specs.Together.{AreInStep}
use Rattle.fw_model_rounds.specs.Accounts.{situation_of}
use Rattle.fw_model_rounds.specs.Rounds.{AllReset}
use Rattle.fw_model_rounds.specs.Settling.{CanSettle, BeginsSecond, InputsThere}
use Rattle.fw_model_rounds.proofs.Living.{living_after_reset}

pub can_settle : (dir : Directory) (r : ResetEntry) (epoch : ℕ) (l : Account) (before at : ℕ → ControllerState) → BeginsSecond epoch l before at → AreInStep dir (after_reset r l) at
    → InputsThere (after_reset r l) at → CanSettle dir (after_reset r l) at
can_settle dir r epoch l before at b step inputs = record { step = step; second = b.later; living = living_after_reset r l; inputs = inputs }

pub all_reset : (r : ResetEntry) (epoch : ℕ) (l : Account) (before at : ℕ → ControllerState) → BeginsSecond epoch l before at → AllReset (situation_of (after_reset r l) at)
all_reset r epoch l before at b = λ k lt. record { epoch = epoch; lost = b.lost k; before = before k; fits = b.fits k; no_break = b.no_break k; stands = b.stands k; is = b.each k }
