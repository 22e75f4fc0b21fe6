-- Moves, schedules and interleavings: what may follow a script, move by move.
use Rattle.std.specs.Prelude.{ℕ, ◌≡◌, ◌<◌, List, [], ◌∷◌, ◌++◌, map, sum_by, slice_get}
use Rattle.std.specs.List.{Contains}
use Rattle.fw_log_entry.specs.declared.entry.Timed.{Timed}
use Rattle.fw_script_command.specs.declared.command.Command.{Command}
use Rattle.fw_model_run.specs.State.{State}
use Rattle.fw_model_run.specs.Actions.{Action}
use Rattle.fw_model_run.specs.Desks.{DeskRelations}
use Rattle.fw_model_run.specs.Given.{AreGiven}
use Rattle.fw_model_run.specs.Runs.{Run}
use Rattle.fw_explore_levels.specs.Schedules.{Schedule, Interleaving}
use Rattle.fw_explore_movers.specs.declared.mover.Mover.{Mover}
use Rattle.fw_explore_movers.specs.declared.mover.MoverKind.{MoverKind}
use Rattle.fw_explore_movers.specs.declared.mover.MoverKind.TheVariants.{HalfSteps, Once}
use Rattle.fw_explore_movers.specs.declared.mover.Explored.{Explored}
use Rattle.fw_explore_movers.specs.Explored.{IsMover, command_at, half_step_of}

-- ---- runs

-- the commands are carried out without a refusal, with what the desk gives
pub record RunsTo (D : DeskRelations) (commands : List Command) (log : List Timed) (state : State) : Type 0 where
  pub actions : List Action
  pub run : Run commands actions log state
  pub given : AreGiven D actions

-- after the script these commands are carried out without a refusal, and write these entries
pub record Subsequent (D : DeskRelations) (script commands : List Command) (out : List Timed) (state : State) : Type 0 where
  pub earlier : List Timed
  pub middle : State
  pub prefix : RunsTo D script earlier middle
  pub whole : RunsTo D (script ++ commands) (earlier ++ out) state

-- after the script and the commands so is one more, and it writes these entries
pub record Moves (D : DeskRelations) (script commands : List Command) (c : Command) (out : List Timed) : Type 0 where
  pub earlier : List Timed
  pub from : State
  pub to : State
  pub before : Subsequent D script commands earlier from
  pub after : Subsequent D script (commands ++ c ∷ []) (earlier ++ out) to

-- ---- moves

-- the commands of moves
abbrev pub commands_of : Explored → List ℕ → List Command
commands_of x w = map (command_at x) w

-- how many half steps these moves are
abbrev pub half_steps_in : Explored → List ℕ → ℕ
half_steps_in x w = sum_by (λ p. half_step_of (slice_get x.movers.items p)) w

-- what is asked of a move beyond that no rule refuses it: a half step writes an entry, and fewer than `most` came before; a line came
-- fewer times than the words have it, and of movers with the same line the first is carried out first
abbrev pub IsAllowed : Explored → List ℕ → ℕ → Mover → List Timed → MoverKind → Type 0
IsAllowed x w p m out HalfSteps = (out ≡ [] → ⊥) × (half_steps_in x w < x.most)
IsAllowed x w p m out Once = (Contains w p → ⊥) × ((q : ℕ) (n : Mover) → q < p → IsMover x q n → n.kind ≡ Once → n.line.items ≡ m.line.items → Contains w q)

-- a move that makes this schedule longer
pub record IsMove (D : DeskRelations) (script : List Command) (x : Explored) (w : List ℕ) (p : ℕ) : Type 0 where
  pub mover : Mover
  pub is : IsMover x p mover
  pub out : List Timed
  pub moves : Moves D script (commands_of x w) mover.command out
  pub allowed : IsAllowed x w p mover out mover.kind

-- ---- schedules and interleavings

abbrev pub IsSchedule : DeskRelations → List Command → Explored → List ℕ → Type 0
IsSchedule D script x w = Schedule (IsMove D script x) w

-- a schedule that no move makes longer
abbrev pub IsInterleaving : DeskRelations → List Command → Explored → List ℕ → Type 0
IsInterleaving D script x w = Interleaving (IsMove D script x) w

-- it has as many half steps as may be, and one more of some mover would write an entry
pub record IsCutOff (D : DeskRelations) (script : List Command) (x : Explored) (w : List ℕ) : Type 0 where
  pub full : half_steps_in x w ≡ x.most
  pub place : ℕ
  pub mover : Mover
  pub is : IsMover x place mover
  pub kind : mover.kind ≡ HalfSteps
  pub out : List Timed
  pub moves : Moves D script (commands_of x w) mover.command out
  pub writes : out ≡ [] → ⊥
