-- What comes after an interleaving.
use Rattle.std.specs.Prelude.{ℕ, ◌≡◌, ◌++◌, List, [], Bool, true, false, length}
use Rattle.fw_log_entry.specs.declared.entry.Timed.{Timed}
use Rattle.fw_script_command.specs.declared.command.Command.{Command}
use Rattle.fw_model_run.specs.Desks.{DeskRelations}
use Rattle.fw_model_run.specs.State.{State}
use Rattle.fw_bus.specs.Buses.{BusView, StandsFor}
use Rattle.fw_explore_movers.specs.declared.mover.Mover.{Mover}
use Rattle.fw_explore_movers.specs.declared.mover.Line.{Line}
use Rattle.fw_explore_movers.specs.declared.mover.MoverKind.TheVariants.{HalfSteps}
use Rattle.fw_explore_movers.specs.declared.mover.Explored.{Explored}
use Rattle.fw_explore_movers.specs.Explored.{IsMover}
use Rattle.fw_explore_meaning.specs.Moves.{IsCutOff, Moves, commands_of, Subsequent}
use Rattle.fw_explore_meaning.specs.Endings.{Finishes, EndsWith}
use Rattle.fw_explore_told.specs.Histories.{History, told_entries}
use Rattle.fw_explore_told.specs.Sayings.{lines_text}

-- a half step more of the mover writes an entry
pub record WritesMore (D : DeskRelations) (script : List Command) (x : Explored) (w : List ℕ) (p : ℕ) : Type 0 where
  pub mover : Mover
  pub is : IsMover x p mover
  pub kind : mover.kind ≡ HalfSteps
  pub out : List Timed
  pub moves : Moves D script (commands_of x w) mover.command out
  pub writes : out ≡ [] → ⊥

-- or it does not
abbrev pub Writes : DeskRelations → List Command → Explored → List ℕ → ℕ → Bool → Type 0
Writes D script x w p true = WritesMore D script x w p
Writes D script x w p false = WritesMore D script x w p → ⊥

-- the interleaving is cut off, or not
abbrev pub IsCut : DeskRelations → List Command → Explored → List ℕ → Bool → Type 0
IsCut D script x w true = IsCutOff D script x w
IsCut D script x w false = IsCutOff D script x w → ⊥

-- the lines after were carried out or refused: what was told, what is told of it, and the text of both
pub record CarriedAfter (D : DeskRelations) (script commands : List Command) (lines : List Line) (past past' : History) (refused refused' text text' : List ℕ) : Type 0 where
  pub written : List Timed
  pub kept : List Line
  pub told : List ℕ
  pub finishes : Finishes D script commands lines written kept told
  pub done : past'.done ≡ past.done
  pub said : past'.said ≡ past.said ++ told_entries written
  pub refused_are : refused' ≡ refused ++ told
  pub lines_are : text' ≡ text ++ lines_text kept

-- the ending of an interleaving, and the lines that were carried out after it
pub record IsFinished (D : DeskRelations) (script : List Command) (x : Explored) (w ending lines : List ℕ) : Type 0 where
  pub kept : List Line
  pub ends : EndsWith D script x w ending kept
  pub is : lines ≡ lines_text kept
