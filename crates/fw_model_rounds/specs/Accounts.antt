-- The controllers and the registers as the account of a reclaim second has them.
use Rattle.std.specs.Prelude.{ℕ, ◌≡◌, ◌≢◌, ◌<◌, Option, Some, IsTrue}
use Rattle.fw_terms.specs.declared.plug.PlugAt.{PlugAt}
use Rattle.fw_model_account.specs.Account.{Account, Allocation, Pending, Orphaned}
use Rattle.fw_model_account.specs.Sound.{IsSound}
use Rattle.fw_model_account.specs.Words.{word_of}
use Rattle.fw_cmp_jobs.specs.declared.request.Target.{Target}
use Rattle.fw_cmp.specs.declared.current.Current.TheVariants.{Hearing}
use Rattle.fw_cmp_jobs.specs.declared.job.Job.{Job}
use Rattle.fw_cmp_jobs.specs.declared.stage.Stage.{Stage}
use Rattle.fw_cmp.specs.Controllers.{ControllerState, Fits}
use Rattle.fw_cmp_jobs.specs.Requests.{target_of}
use Rattle.fw_model_controllers.specs.Controllers.{ControllerInStep}
use Rattle.fw_model_controllers.specs.Registers.{register_at, stands}
use Rattle.fw_model_rounds.specs.Rounds.{Situation}

-- the words of the registers that controllers ask for, by the account
abbrev pub words_of : Account → Target → ℕ
words_of l t = word_of l (register_at t)

-- Each Pending allocation is of a controller that lives: since the reset none has died.
pub record OnlyLiving (allocations : ℕ → Option Allocation) : Type 0 where
  pub devices : (ch k : ℕ) (p : PlugAt) (u : ℕ) → allocations ch ≡ Some (record { holder = Pending k p; units = u }) → k < 63
  pub none_died : (ch : ℕ) (p : PlugAt) (u : ℕ) → allocations ch ≢ Some (record { holder = Orphaned p; units = u })

-- Every controller is in step with a sound account, in a reclaim second in which no controller has died.
pub record IsReclaiming (l : Account) (s : Situation) : Type 0 where
  pub sound : IsSound l
  pub second : IsTrue l.reclaiming
  pub living : OnlyLiving l.allocations
  pub words : s.words ≡ words_of l
  pub fits : (k : ℕ) → k < 63 → Fits (s.at k)
  pub in_step : (k : ℕ) → k < 63 → ControllerInStep l k (s.at k)

-- the registers and the controllers over an account
abbrev pub situation_of : Account → (ℕ → ControllerState) → Situation
situation_of l at = record { words = words_of l; at = at }

-- a request at this register stands, and the register stands on the bus
pub record Hears (l : Account) (c : ControllerState) (j : Job) (s : Stage) (t : Target) : Type 0 where
  pub current : c.current ≡ Hearing j s
  pub target : target_of j s ≡ Some t
  pub stands : IsTrue (stands l.latest t)
