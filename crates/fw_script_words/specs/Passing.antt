-- A run goes on if a reader looks at lines before they are read, and passes over those that say nothing one by one.
use Rattle.std.specs.Prelude.{◌≡◌, ◌<◌, ℕ, List, Option}
use Rattle.fw_script.specs.Passing.{Passes}
use Rattle.fw_script.specs.Reader.{HoldsLine, PassesOver}
use Rattle.fw_script.specs.Reading.{Reading, TakesMore}
use Rattle.fw_script.specs.declared.reader.passing.Said.TheVariants.{Nothing}
use Rattle.fw_script_command.specs.declared.command.Command.{Command}
use Rattle.fw_model_run.specs.Desks.{DeskRelations}
use Rattle.fw_bus.specs.Buses.{BusView}
use Rattle.fw_script_words.specs.Going.{Going, course_of, to_read}

-- a look takes bytes, and the run has come to the same
abbrev pub LookingGoesOn : DeskRelations → Type 0
LookingGoesOn D = (left now now' held after : Option (List ℕ)) (old new : Reading) (bus : BusView) (g : Going D left now held after old bus)
    → TakesMore old new now now' → (h : Going D left now' held after new bus) × (course_of h ≡ course_of g)

-- lines are passed over, and the run has come to the same
abbrev pub PassingGoesOn : DeskRelations → Type 0
PassingGoesOn D = (left now held after : Option (List ℕ)) (old new : Reading) (bus : BusView) (g : Going D left now held after old bus)
    → PassesOver old new → (h : Going D left now held after new bus) × (course_of h ≡ course_of g)

-- a look reads nothing
abbrev pub LookingReadsNothing : Type 0
LookingReadsNothing = (old new : Reading) (left left' : Option (List ℕ)) → TakesMore old new left left' → to_read new ≡ to_read old

-- a line that is passed over leaves less to read
abbrev pub PassingLeavesLess : Type 0
PassingLeavesLess = (old new : Reading) (n size : ℕ) (c : Command) → HoldsLine old n size → Passes old n size Nothing c new → to_read new < to_read old
