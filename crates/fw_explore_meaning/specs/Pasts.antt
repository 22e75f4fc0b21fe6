-- What the schedules of a place have in common: the lines that were carried out, what is told of, and the machine.
use Rattle.std.specs.Prelude.{ℕ, ◌≡◌, ◌<◌, ◌^◌, ◌↔◌, List, ◌∷◌, Bool, false, slice_index, slice_index_or, IsTrue}
use Rattle.std.specs.List.{Contains}
use Rattle.fw_log_entry.specs.declared.entry.Timed.{Timed}
use Rattle.fw_script_command.specs.declared.command.Command.{Command}
use Rattle.fw_kept_parts.specs.Words.{bytes_of}
use Rattle.fw_bus_state.specs.declared.machine.Machine.{Machine}
use Rattle.fw_bus.specs.Buses.{StandsFor}
use Rattle.fw_model_run.specs.Desks.{DeskRelations}
use Rattle.fw_model_run.specs.State.{State}
use Rattle.fw_explore_movers.specs.declared.mover.Mover.{Mover}
use Rattle.fw_explore_movers.specs.declared.mover.MoverKind.TheVariants.{Once}
use Rattle.fw_explore_movers.specs.declared.mover.Explored.{Explored}
use Rattle.fw_explore_movers.specs.Explored.{IsMover}
use Rattle.fw_explore_told.specs.Histories.{History, told_entries}
use Rattle.fw_explore_meaning.specs.Moves.{Subsequent, commands_of, half_steps_in}

-- those lines are marked that are among the moves
abbrev pub AreDone : Explored → List ℕ → List Bool → Type 0
AreDone x w done = (p : ℕ) (m : Mover) → IsMover x p m → m.kind ≡ Once → (IsTrue (slice_index_or done p false) ↔ Contains w p)

-- the moves lead to a state for which the machine stands, by so many half steps and with this history
pub record Leads (D : DeskRelations) (script : List Command) (x : Explored) (half : ℕ) (past : History) (m : Machine) (w : List ℕ) : Type 0 where
  pub out : List Timed
  pub state : State
  pub following : Subsequent D script (commands_of x w) out state
  pub stands : StandsFor m state
  pub half_is : half ≡ half_steps_in x w
  pub done : AreDone x w past.done
  pub said : past.said ≡ told_entries out

-- The moves lead to the place with these numbers: of its history, its half steps, and the parts of its machine. `Had` says which history has a
-- number, and `Kept` which machine has some.
pub record LeadsAt (D : DeskRelations) (script : List Command) (x : Explored) (Had : ℕ → History → Type 0) (Kept : List ℕ → Machine → Type 0) (w words : List ℕ) : Type 0 where
  pub past_at : ℕ
  pub half : ℕ
  pub machine_at : List ℕ
  pub words_are : words ≡ past_at ∷ half ∷ machine_at
  pub past : History
  pub had : Had past_at past
  pub machine : Machine
  pub kept : Kept machine_at machine
  pub leads : Leads D script x half past machine w

-- and so to the key that is the bytes of these numbers
pub record LeadsTo (D : DeskRelations) (script : List Command) (x : Explored) (Had : ℕ → History → Type 0) (Kept : List ℕ → Machine → Type 0) (w key : List ℕ) : Type 0 where
  pub words : List ℕ
  pub key_is : key ≡ bytes_of words
  pub small : (k : ℕ) → slice_index words k < 2 ^ 32
  pub at : LeadsAt D script x Had Kept w words
