-- What is told of a refused line, and what is noted of it: one name for both.
use Rattle.std.specs.Prelude.{◌≡◌, ℕ, List, [], ◌∷◌, ◌++◌, Option, Some, Err, codes, decimal}
use Rattle.fw_outside.specs.Outside.{Grows}
use Rattle.fw_script_command.specs.Pieces.{IsFree}
use Rattle.fw_script_command.specs.declared.command.Command.{Command}
use Rattle.fw_model_run.specs.Desks.{DeskRelations}
use Rattle.fw_model_run.specs.Good.{IsGood}
use Rattle.fw_model_run.specs.Rules.{Decides}
use Rattle.fw_model_run.specs.State.{State}
use Rattle.fw_order.specs.declared.rule.RuleFault.{RuleFault}
use Rattle.fw_check.specs.Refusals.{rule_text}
use Rattle.fw_check.specs.Shown.{headed}
use Rattle.fw_check.specs.Whys.{rule_name}
use Rattle.fw_check.specs.declared.why.Why.{Why}
use Rattle.fw_check_causes.specs.Causes.{cause}
use Rattle.fw_check_causes_laws.specs.Told.{rule_word}
use Rattle.fw_script_words.specs.Checks.{Checks}
use Rattle.fw_script_words.specs.declared.ending.Refused.{Refused as RefusedLine}
use Rattle.fw_script_words.specs.declared.ending.Refusal.{Refusal}
use Rattle.fw_script_words.specs.declared.ending.Refusal.TheVariants.{BadLine, LineTooLong, NoEnd, Rule}
use Rattle.fw_script_words.specs.declared.ending.RunEnding.TheVariants as RunEndings
use Rattle.fw_tool.specs.Notes.{note_of}
use Rattle.fw_tool.specs.declared.ending.Ending.TheVariants.{Refused}

-- the name of a refusal: a fault of the line, or the rule that its command breaks
abbrev pub refusal_word : Refusal → List ℕ
refusal_word BadLine = codes "BadLine"
refusal_word LineTooLong = codes "LineTooLong"
refusal_word NoEnd = codes "NoEnd"
refusal_word (Rule rule) = rule_word rule

-- the note of a refused line: its number, and this name
abbrev pub NotesAreNames : Type 0
NotesAreNames = (r : RefusedLine) → note_of (Refused r) ≡ codes "line " ++ decimal r.line ++ codes ": " ++ refusal_word r.why ++ 10 ∷ []

-- a text whose first line has the number and what is shown of the line with it, and whose second begins with this name
pub record TellsLine (line : ℕ) (name text : List ℕ) : Type 0 where
  pub shown : List ℕ
  pub one_line : IsFree 10 shown
  pub why : List ℕ
  pub is : text ≡ headed line shown ++ name ++ codes ": " ++ why

-- what was written of a refused line has the name of its refusal
pub record TellsRefused (held held' : Option (List ℕ)) (r : RefusedLine) : Type 0 where
  pub text : List ℕ
  pub grew : Grows held held' text
  pub tells : TellsLine r.line (refusal_word r.why) text

-- so does `check`, if it ends with a refused line
abbrev pub RefusalsAreNamed : DeskRelations → Type 0
RefusalsAreNamed D = (left left' held held' : Option (List ℕ)) (r : RefusedLine) → Checks D left left' held held' (RunEndings.Refused r) → TellsRefused held held' r

-- What was written of a line whose command breaks this rule first, in a good state: what stands against it, and never nothing.
pub record TellsCause (held held' : Option (List ℕ)) (rule : RuleFault) (line : ℕ) : Type 0 where
  pub state : State
  pub good : IsGood state
  pub command : Command
  pub decided : Decides state command (Err rule)
  pub why : Why
  pub stands : cause state command rule ≡ Some why
  pub named : rule_name why ≡ rule_word rule
  pub text : List ℕ
  pub grew : Grows held held' (rule_text line text why)

-- so does `check`, if it ends with a line whose command breaks a rule
abbrev pub CausesAreTold : DeskRelations → Type 0
CausesAreTold D = (left left' held held' : Option (List ℕ)) (rule : RuleFault) (line : ℕ)
    → Checks D left left' held held' (RunEndings.Refused (record { line = line; why = Rule rule })) → TellsCause held held' rule line
