-- Endings: what is told of an interleaving.
use Rattle.std.specs.Prelude.{ℕ, ◌≡◌, List, [], ◌∷◌, ◌++◌, codes, Err}
use Rattle.fw_log_entry.specs.declared.entry.Timed.{Timed}
use Rattle.fw_script_command.specs.declared.command.Command.{Command}
use Rattle.fw_order.specs.declared.rule.RuleFault.{RuleFault}
use Rattle.fw_model_run.specs.Desks.{DeskRelations}
use Rattle.fw_model_run.specs.Rules.{Decides}
use Rattle.fw_model_run.specs.State.{State}
use Rattle.fw_explore_movers.specs.declared.mover.Line.{Line}
use Rattle.fw_explore_movers.specs.declared.mover.Explored.{Explored}
use Rattle.fw_explore_told.specs.Telling.{remark, told, left_out}
use Rattle.fw_explore_meaning.specs.Moves.{Subsequent, Moves, commands_of}
use Rattle.fw_explore_meaning.specs.Names.{rule_name}

-- what is told of a line that a rule refused
abbrev pub refusal_of : RuleFault → Line → List ℕ
refusal_of rule line = remark (codes "refused " ++ rule_name rule ++ codes ": " ++ line.text.items)

-- The lines after an interleaving are carried out in their order; one that a rule refuses is told, and the next is carried out
-- nevertheless. What they write, those that were carried out, and what is told of the others.
pub data Finishes (D : DeskRelations) (script : List Command) : List Command → List Line → List Timed → List Line → List ℕ → Type 0 where
  done : {commands : List Command} → Finishes D script commands [] [] [] []
  carried : {commands : List Command} {lines kept : List Line} {out more : List Timed} {refused : List ℕ} → (line : Line)
      → Moves D script commands line.command out → Finishes D script (commands ++ line.command ∷ []) lines more kept refused
      → Finishes D script commands (line ∷ lines) (out ++ more) (line ∷ kept) refused
  refuses : {commands : List Command} {lines kept : List Line} {earlier more : List Timed} {refused : List ℕ} {state : State} → (line : Line) → (rule : RuleFault)
      → Subsequent D script commands earlier state → Decides state line.command (Err rule) → Finishes D script commands lines more kept refused
      → Finishes D script commands (line ∷ lines) more kept (refusal_of rule line ++ refused)

-- The ending of an interleaving, and which lines were carried out after it.
pub record EndsWith (D : DeskRelations) (script : List Command) (x : Explored) (w : List ℕ) (ending : List ℕ) (kept : List Line) : Type 0 where
  pub moved : List Timed
  pub state : State
  pub moves : Subsequent D script (commands_of x w) moved state
  pub written : List Timed
  pub refused : List ℕ
  pub finishes : Finishes D script (commands_of x w) x.following.items written kept refused
  pub is : ending ≡ told (moved ++ written) ++ left_out x w ++ refused
