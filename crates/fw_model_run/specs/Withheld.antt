-- A channel that nothing on the bus has.
use Rattle.std.specs.Prelude.{ℕ, ◌≡◌, ◌≢◌, List, ◌++◌, None, IsTrue}
use Rattle.fw_terms.specs.declared.plug.PlugAt.{PlugAt}
use Rattle.fw_log_entry.specs.declared.entry.Timed.{Timed}
use Rattle.fw_model_account.specs.Account.{talks, has_connection, is_withheld}
use Rattle.fw_model_reclaim.specs.Avoids.{Avoids}
use Rattle.fw_model_run.specs.Actions.{Action}
use Rattle.fw_model_run.specs.Deeds.{Transitions}
use Rattle.fw_model_run.specs.State.{State, first_state}

-- It is not allocated and no flow of it may be allocated again, no plug sends or is connected on it, and no controller has a
-- connection there, or a job that makes one there.
pub record IsUnused (s : State) (ch : ℕ) : Type 0 where
  pub allocation : s.account.allocations ch ≡ None
  pub flow : s.account.reclaimable ch ≡ None
  pub outputs : (p : PlugAt) → IsTrue (talks s.account p) → (s.account.settings p).channel ≢ ch
  pub inputs : (q : PlugAt) → IsTrue (has_connection (s.account.inputs q)) → s.account.input_channel q ≢ ch
  pub controllers : (d : ℕ) → Avoids ch (s.controllers d)

-- In each state of a run nothing has what the bus withholds, and what it withholds it withholds to the end.
pub record WithholdsThroughout (actions : List Action) : Type 0 where
  pub unused : (done later : List Action) (prefix : List Timed) (s : State) → actions ≡ done ++ later → Transitions first_state done prefix s
      → (ch : ℕ) → IsTrue (is_withheld s.account.withheld ch) → IsUnused s ch
  pub ever : (done more later : List Action) (prefix out : List Timed) (s t : State) → actions ≡ (done ++ more) ++ later → Transitions first_state done prefix s → Transitions s more out t
      → IsTrue s.account.withheld → IsTrue t.account.withheld
