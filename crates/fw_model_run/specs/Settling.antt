-- Enough rounds, over a run: after them no connection is to be restored.
use Rattle.std.specs.Prelude.{ℕ, ◌≡◌, ◌+◌, ◌*◌, ◌≤◌, List, [], ◌∷◌, ◌++◌, None, IsTrue, IsFalse}
use Rattle.fw_log_entry.specs.declared.entry.Timed.{Timed}
use Rattle.fw_script_command.specs.declared.command.Command.{Command}
use Rattle.fw_script_command.specs.declared.command.Command.TheVariants as Commands
use Rattle.fw_cmp.specs.Controllers.{slot_at}
use Rattle.fw_cmp_jobs.specs.Slots.{is_restoring}
use Rattle.fw_cmp.specs.Jobs.{waiting_break}
use Rattle.fw_model_rounds.specs.Accounts.{situation_of}
use Rattle.fw_model_rounds.specs.Rounds.{connections_to_restore}
use Rattle.fw_order.specs.declared.order.Order.TheVariants.{Settle}
use Rattle.fw_model_run.specs.State.{State, first_state}
use Rattle.fw_model_run.specs.Actions.{Action}
use Rattle.fw_model_run.specs.Deeds.{Transitions}
use Rattle.fw_model_run.specs.Carrying.{Carries}
use Rattle.fw_model_run.specs.Runs.{Run}
use Rattle.fw_model_run.specs.Reclaiming.{IsBusReset}

-- the connections that controllers have to restore
abbrev pub to_restore : State → ℕ
to_restore s = connections_to_restore (situation_of s.account s.controllers)

-- a run up to a bus reset that begins a reclaim second, at which no break waits
pub record BeginsSecond (s : State) : Type 0 where
  pub actions : List Action
  pub log : List Timed
  pub before : State
  pub run : Transitions first_state actions log before
  pub reset : Action
  pub resets : IsBusReset before reset s
  pub second : IsTrue s.account.reclaiming
  pub no_break : (d : ℕ) → waiting_break (s.controllers d) ≡ None

-- Right after it, rounds that are 64 for each connection that is to be restored, and 64 more, leave none to be restored. The
-- number of controllers does not matter.
abbrev pub HasEnoughRounds : Type 0
HasEnoughRounds =
    (s t : State) (rounds : ℕ) (actions : List Action) (out : List Timed) → BeginsSecond s
    → 64 * (to_restore s + 1) ≤ rounds → Carries s (Settle rounds) actions out t
    → (d i : ℕ) → IsFalse (is_restoring (slot_at (t.controllers d) i))

-- A `settle` of a script, given in the first of these states: what the commands before it do is a prefix of the run's actions, and what it
-- does follows there and leads to the second.
pub record IsSettle (prefix : List Command) (rounds : ℕ) (all : List Action) (before after : State) : Type 0 where
  pub actions : List Action
  pub log : List Timed
  pub run : Run prefix actions log before
  pub more : List Action
  pub out : List Timed
  pub carries : Carries before (Settle rounds) more out after
  pub later : List Action
  pub all_is : all ≡ (actions ++ more) ++ later

-- A `settle` of a script: the run has it at a state that the commands before it lead to, and there it leaves a prefix of the run's log.
-- At each such state that is right after a bus reset which begins a second, and at which no break waits, enough rounds leave no
-- connection to be restored.
pub record SettlesAt (prefix : List Command) (rounds : ℕ) (all : List Action) (whole_log : List Timed) : Type 0 where
  pub before : State
  pub after : State
  pub here : IsSettle prefix rounds all before after
  pub whole : Run (prefix ++ Commands.Settle rounds ∷ []) (here.actions ++ here.more) (here.log ++ here.out) after
  pub following : List Timed
  pub log_is : whole_log ≡ (here.log ++ here.out) ++ following
  pub enough : (s t : State) → IsSettle prefix rounds all s t → BeginsSecond s → 64 * (to_restore s + 1) ≤ rounds
      → (d i : ℕ) → IsFalse (is_restoring (slot_at (t.controllers d) i))

-- each `settle` of a script is one
abbrev pub RoundsSuffice : List Command → List Action → List Timed → Type 0
RoundsSuffice commands actions log =
    (prefix later : List Command) (rounds : ℕ) → commands ≡ prefix ++ Commands.Settle rounds ∷ later → SettlesAt prefix rounds actions log
