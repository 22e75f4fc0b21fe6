-- What each ending of `check` says of the input and of what was written: what the script has, or why a line is refused, in place of the log, which is
-- kept nowhere.
use Rattle.std.specs.Prelude.{◌≡◌, ◌⊎◌, ℕ, List, [], length, Option, Some, None}
use Rattle.fw_outside.specs.Outside.{Grows, AppendsPrefix}
use Rattle.fw_outside.specs.declared.stop.Stop.TheVariants.{ReadFault, WriteFault, TooLong, NoMemory}
use Rattle.fw_check.specs.Goods.{good_text}
use Rattle.fw_check.specs.Refusals.{bad_line_text, long_line_text, no_end_text, rule_text}
use Rattle.fw_check.specs.declared.good.Counts.{Counts}
use Rattle.fw_check.specs.declared.why.Why.{Why}
use Rattle.fw_check_causes.specs.Causes.{cause}
use Rattle.fw_model_run.specs.Desks.{DeskRelations}
use Rattle.fw_model_run.specs.State.{State}
use Rattle.fw_script_words.specs.declared.ending.RunEnding.{RunEnding}
use Rattle.fw_script_words.specs.declared.ending.RunEnding.TheVariants.{Done, Refused, Stopped}
use Rattle.fw_script_words.specs.declared.ending.Refused.{Refused as RefusedLine}
use Rattle.fw_script_words.specs.declared.ending.Refusal.{Refusal}
use Rattle.fw_script_words.specs.declared.ending.Refusal.TheVariants.{BadLine, LineTooLong, NoEnd, Rule}
use Rattle.fw_script_words.specs.Dubs.{InMemory}
use Rattle.fw_script_words.specs.Ending.{Logged, Refuses, RefusesBy, PassesScriptLimit, Interrupted}

-- what a script has: its commands, `end` too, and what its state counts
abbrev pub counts_of : ℕ → State → Counts
counts_of commands s = record { commands = commands; devices = length s.declared.names; resets = s.resets; half_steps = s.half_steps; written = s.written; cycle = s.clock.cycle }

-- a script was run to its end in memory: what `run` says of it, with a sink of its own that was empty
abbrev pub WasChecked : DeskRelations → Option (List ℕ) → Option (List ℕ) → Type 0
WasChecked D left left' = InMemory (λ none all. Logged D left left' none all)

-- the line of its counts
abbrev pub good_of : {D : DeskRelations} {left left' : Option (List ℕ)} → WasChecked D left left' → List ℕ
good_of was = good_text (counts_of (length was.1.commands) was.1.logged.state)

-- what is told of a command that breaks a rule, if something stands against it
abbrev pub told_of : ℕ → List ℕ → Option Why → List ℕ
told_of line text None = []
told_of line text (Some why) = rule_text line text why

-- why the line is refused, by what `run` says of it
abbrev pub refusal_text : (D : DeskRelations) (left left' held held' : Option (List ℕ)) (why : Refusal) (line : ℕ) → RefusesBy D left left' held held' why line → List ℕ
refusal_text D left left' held held' BadLine line x = bad_line_text line x.at.after.text x.at.after.end
refusal_text D left left' held held' LineTooLong line x = long_line_text line x.at.after.text
refusal_text D left left' held held' NoEnd line x = no_end_text line
refusal_text D left left' held held' (Rule rule) line x = told_of line x.on_line.after.text (cause x.logged.state x.command rule)

-- a line is the first that is refused: what `run` says of it, with a sink of its own that was empty
abbrev pub WasRefused : DeskRelations → Option (List ℕ) → Option (List ℕ) → RefusedLine → Type 0
WasRefused D left left' r = InMemory (λ none all. Refuses D left left' none all r)

-- why it is refused
abbrev pub why_of : (D : DeskRelations) (left left' : Option (List ℕ)) (r : RefusedLine) → WasRefused D left left' r → List ℕ
why_of D left left' r was = refusal_text D left left' (Some []) (Some was.0) r.why r.line was.1

-- By the ending: the line of counts if `run` ends so, or why the line is refused that `run` refuses. If a write failed, a prefix of that; with each other
-- ending nothing was written.
abbrev pub Checks : DeskRelations → Option (List ℕ) → Option (List ℕ) → Option (List ℕ) → Option (List ℕ) → RunEnding → Type 0
Checks D left left' held held' Done = (was : WasChecked D left left') × Grows held held' (good_of was)
Checks D left left' held held' (Refused r) = (was : WasRefused D left left' r) × Grows held held' (why_of D left left' r was)
Checks D left left' held held' (Stopped ReadFault) = InMemory (Interrupted D left left') × (held' ≡ held)
Checks D left left' held held' (Stopped WriteFault) =
    ((was : WasChecked D left left') × AppendsPrefix held held' (good_of was))
    ⊎ ((r : RefusedLine) × (was : WasRefused D left left' r) × AppendsPrefix held held' (why_of D left left' r was))
Checks D left left' held held' (Stopped TooLong) = InMemory (PassesScriptLimit D left left') × (held' ≡ held)
Checks D left left' held held' (Stopped NoMemory) = held' ≡ held
