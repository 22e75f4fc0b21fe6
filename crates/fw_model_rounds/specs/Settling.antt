-- Half steps of controllers over the account, one after another, as rounds take them.
use Rattle.std.specs.Prelude.{ℕ, ◌≡◌, ◌<◌, Bool, false, Some, None, List, [], ◌∷◌, IsTrue, IsSome}
use Rattle.fw_terms.specs.declared.plug.PlugAt.{PlugAt}
use Rattle.fw_model_account.specs.Account.{Account}
use Rattle.fw_model_account.specs.Network.{is_input}
use Rattle.fw_cmp_jobs.specs.declared.connection.Connection.{Connection}
use Rattle.fw_cmp_jobs.specs.declared.connection.Flow.{Flow}
use Rattle.fw_cmp_jobs.specs.declared.connection.Slot.TheVariants.{Restoring}
use Rattle.fw_cmp_jobs.specs.declared.directory.Directory.{Directory}
use Rattle.fw_cmp_jobs.specs.Connections.{input_of}
use Rattle.fw_cmp.specs.Controllers.{ControllerState, slot_at, Fits}
use Rattle.fw_cmp.specs.Resets.{state_reset as controller_reset}
use Rattle.fw_cmp.specs.Jobs.{waiting_break}
use Rattle.fw_model_controllers.specs.Together.{AreInStep, TakesHalfStep}
use Rattle.fw_model_rounds.specs.Accounts.{OnlyLiving}
use Rattle.fw_model_rounds.specs.HalfSteps.{AsksWhatStands}

-- half steps of these controllers, one after another
unfoldable pub Settles : ℕ → Directory → List ℕ → Account → (ℕ → ControllerState) → Account → (ℕ → ControllerState) → Type 0
Settles now dir [] l at m after = (l ≡ m) × (at ≡ after)
Settles now dir (k ∷ ks) l at m after = (k < 63) × ((n : Account) × (mid : ℕ → ControllerState) × TakesHalfStep k now dir dir l at n mid × Settles now dir ks n mid m after)

-- the input plugs of what the controllers are to restore, in the slots' own second, are on the bus
abbrev pub InputsThere : Account → (ℕ → ControllerState) → Type 0
InputsThere l at = (k i : ℕ) (conn : Connection) (f : Flow) (q : PlugAt) → slot_at (at k) i ≡ Restoring conn f false → input_of conn ≡ Some q → IsTrue (is_input l.latest q)

-- in a reclaim second in which no controller has died, all controllers are in step
pub record CanSettle (dir : Directory) (l : Account) (at : ℕ → ControllerState) : Type 0 where
  pub step : AreInStep dir l at
  pub second : IsTrue l.reclaiming
  pub living : OnlyLiving l.allocations
  pub inputs : InputsThere l at

-- A bus reset that begins a reclaim second, at which no break waits: the account and the controllers before it and after it.
pub record BeginsSecond (epoch : ℕ) (l : Account) (before at : ℕ → ControllerState) : Type 0 where
  pub later : IsSome l.latest
  pub fits : (k : ℕ) → Fits (before k)
  pub no_break : (k : ℕ) → waiting_break (before k) ≡ None
  pub stands : (k : ℕ) → AsksWhatStands (before k).current
  pub lost : ℕ → Bool  -- which of them had lost a response
  pub each : (k : ℕ) → at k ≡ controller_reset epoch (lost k) (before k)
