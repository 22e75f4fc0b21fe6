-- What comes of what a swap took whose response was lost.
use Rattle.std.specs.Prelude.{ℕ, ◌≡◌, ◌<◌, ◌⊎◌, List, ◌++◌, Some, None, IsFalse}
use Rattle.fw_terms.specs.declared.plug.PlugAt.{PlugAt}
use Rattle.fw_plug.specs.Words.{units_of}
use Rattle.fw_model_account.specs.Account.{Account, Allocation, Connected, Orphaned, Dead}
use Rattle.fw_model_account.specs.Events.{no_connections}
use Rattle.fw_log_entry.specs.declared.entry.Timed.{Timed}
use Rattle.fw_cmp_jobs.specs.declared.connection.Connection.{Connection}
use Rattle.fw_cmp_jobs.specs.declared.connection.Flow.{Flow}
use Rattle.fw_cmp_jobs.specs.declared.connection.Slot.TheVariants.{Established}
use Rattle.fw_cmp_jobs.specs.Connections.{output_of}
use Rattle.fw_cmp.specs.Controllers.{slot_at}
use Rattle.fw_model_controllers.specs.Together.{AreInStep, AreSettled, IsWhole}
use Rattle.fw_model_run.specs.Actions.{Action}
use Rattle.fw_model_run.specs.Deeds.{Transitions}
use Rattle.fw_model_run.specs.Reclaiming.{IsBusReset}
use Rattle.fw_model_run.specs.State.{State, first_state, directory_of, is_deaf}
use Rattle.fw_model_run.specs.Truth.{controller_at}

-- nothing is allocated, no plug has a connection, and no controller has lost a response
pub record IsFreed (s : State) : Type 0 where
  pub allocations : (ch : ℕ) → s.account.allocations ch ≡ None
  pub outputs : (p : PlugAt) → s.account.outputs p ≡ no_connections
  pub inputs : (q : PlugAt) → s.account.inputs q ≡ no_connections
  pub heard : (d : ℕ) → IsFalse (is_deaf s d)

-- a controller has a standing connection with this output plug, on this channel, and it is whole
pub record HasStanding (s : State) (p : PlugAt) (ch : ℕ) : Type 0 where
  pub device : ℕ
  pub slot : ℕ
  pub connection : Connection
  pub flow : Flow
  pub stands : slot_at (s.controllers device) slot ≡ Established connection flow
  pub output : output_of connection ≡ Some p
  pub channel : flow.channel ≡ ch
  pub whole : IsWhole s.account device connection flow

-- a connection at the output plug was made by a controller that died since the latest bus reset
abbrev pub IsLeft : Account → PlugAt → Type 0
IsLeft l p = (0 < (l.outputs p).orphaned) ⊎ ((l.outputs p).broadcast ≡ Some Dead)

-- The channel and its units are those of an output plug with a standing connection; or a controller left them that died since the
-- latest bus reset.
abbrev pub Belongs : State → ℕ → Allocation → Type 0
Belongs s ch x =
    (p : PlugAt) × (((x ≡ record { holder = Connected p; units = units_of (s.account.settings p) }) × (HasStanding s p ch ⊎ IsLeft s.account p)) ⊎ (x.holder ≡ Orphaned p))

-- The next bus reset, whichever it is, frees what a lost swap took, with all else. While no controller has lost a response, the account
-- is in step with the controllers as they are: each has exactly what its slots and its stage say. In a settled state no controller has
-- lost one, and all that is allocated belongs to standing connections, or to the dead.
pub record LosesNothing (s : State) : Type 0 where
  pub freed : (a : Action) (t : State) → IsBusReset s a t → IsFreed t
  pub known : ((d : ℕ) → IsFalse (is_deaf s d)) → AreInStep (directory_of s) s.account (λ d. (controller_at s d).state)
  pub heard : AreSettled s.account s.controllers → (d : ℕ) → IsFalse (is_deaf s d)
  pub belongs : AreSettled s.account s.controllers → (ch : ℕ) (x : Allocation) → s.account.allocations ch ≡ Some x → Belongs s ch x

-- so it is in each state of a run
pub record RecoversThroughout (actions : List Action) : Type 0 where
  pub states : (done later : List Action) (prefix : List Timed) (s : State) → actions ≡ done ++ later → Transitions first_state done prefix s → LosesNothing s
