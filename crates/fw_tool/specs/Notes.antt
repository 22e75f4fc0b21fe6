-- The status and the note of each ending.
use Rattle.std.specs.Prelude.{◌≡◌, ℕ, ◌⊎◌, List, [], ◌∷◌, ◌++◌, codes, decimal}
use Rattle.std.specs.declared.option.Option.{Option}
use Rattle.fw_outside.specs.Outside.{Grows, AppendsPrefix, Rose}
use Rattle.fw_outside.specs.declared.stop.Stop.{Stop}
use Rattle.fw_outside.specs.declared.stop.Stop.TheVariants.{ReadFault, WriteFault, TooLong, NoMemory}
use Rattle.fw_log.specs.declared.LogWhy.{LogWhy}
use Rattle.fw_log.specs.declared.LogWhy.TheVariants.{AfterEnd, BadHeader, BadKind, BadLength, TimeBack, BadBody, Cut, NoEnd as NoLogEnd, BadEpoch}
use Rattle.fw_tool.specs.declared.ending.Ending.{Ending}
use Rattle.fw_tool.specs.declared.ending.Ending.TheVariants.{Done, Usage, Refused, NoLog, Stopped, Unsound, NoMap, Unexplored}
use Rattle.fw_tool.specs.declared.ending.Unexplored.{Unexplored as Reason}
use Rattle.fw_tool.specs.declared.ending.Unexplored.TheVariants.{Word, TooLarge}
use Rattle.fw_explore_movers.specs.declared.fault.WordWhy.{WordWhy}
use Rattle.fw_explore_movers.specs.declared.fault.WordWhy.TheVariants as Words
use Rattle.fw_map.specs.declared.MapWhy.{MapWhy}
use Rattle.fw_map.specs.declared.MapWhy.TheVariants.{Parents, Missing, Left, Root}
use Rattle.fw_log_reports.specs.Unsounds.{unsound_text}
use Rattle.fw_log_reports.specs.declared.refusal.NoMap.{NoMap as Unmapped}
use Rattle.fw_log_reports.specs.declared.refusal.NoMap.TheVariants.{NoReset, NoTree}
use Rattle.fw_order.specs.declared.rule.RuleFault.{RuleFault}
use Rattle.fw_order.specs.declared.rule.RuleFault.TheVariants.{UnknownName, NameTaken, TooMany, NoPort, PortUsed, Loop, NotController, Guarded, NoRegister, Limit}
use Rattle.fw_order.specs.declared.rule.RuleFault.TheVariants.{TableFull, Busy, NoSuchConnection, NotOwnPlug, OffBus, NoDeck, NothingStands, TooLate, NotCapable, NotCandidate}
use Rattle.fw_script_words.specs.declared.ending.Refusal.{Refusal}
use Rattle.fw_script_words.specs.declared.ending.Refusal.TheVariants.{BadLine, LineTooLong, NoEnd, Rule}

-- the status and the note of a call that stopped
abbrev pub stop_status : Stop → ℕ
stop_status ReadFault = 5
stop_status WriteFault = 6
stop_status TooLong = 7
stop_status NoMemory = 8

-- the note of an input or output fault
abbrev pub stop_note : Stop → List ℕ
stop_note ReadFault = codes "read fault" ++ 10 ∷ []
stop_note WriteFault = codes "write fault" ++ 10 ∷ []
stop_note TooLong = codes "too long" ++ 10 ∷ []
stop_note NoMemory = codes "no memory" ++ 10 ∷ []

-- the exit status of an ending
abbrev pub status_of : Ending → ℕ
status_of Done = 0
status_of Usage = 2
status_of (Refused _) = 3
status_of (NoLog _) = 4
status_of (Stopped stop) = stop_status stop
status_of (Unsound _) = 9
status_of (NoMap _) = 10
status_of (Unexplored _) = 11

-- the note of the rule that a command breaks
abbrev pub rule_of : RuleFault → List ℕ
rule_of UnknownName = codes ": UnknownName" ++ 10 ∷ []
rule_of NameTaken = codes ": NameTaken" ++ 10 ∷ []
rule_of TooMany = codes ": TooMany" ++ 10 ∷ []
rule_of NoPort = codes ": NoPort" ++ 10 ∷ []
rule_of PortUsed = codes ": PortUsed" ++ 10 ∷ []
rule_of Loop = codes ": Loop" ++ 10 ∷ []
rule_of NotController = codes ": NotController" ++ 10 ∷ []
rule_of Guarded = codes ": Guarded" ++ 10 ∷ []
rule_of NoRegister = codes ": NoRegister" ++ 10 ∷ []
rule_of Limit = codes ": Limit" ++ 10 ∷ []
rule_of TableFull = codes ": TableFull" ++ 10 ∷ []
rule_of Busy = codes ": Busy" ++ 10 ∷ []
rule_of NoSuchConnection = codes ": NoSuchConnection" ++ 10 ∷ []
rule_of NotOwnPlug = codes ": NotOwnPlug" ++ 10 ∷ []
rule_of OffBus = codes ": OffBus" ++ 10 ∷ []
rule_of NoDeck = codes ": NoDeck" ++ 10 ∷ []
rule_of NothingStands = codes ": NothingStands" ++ 10 ∷ []
rule_of TooLate = codes ": TooLate" ++ 10 ∷ []
rule_of NotCapable = codes ": NotCapable" ++ 10 ∷ []
rule_of NotCandidate = codes ": NotCandidate" ++ 10 ∷ []

-- the note of a refused line
abbrev pub name_of : Refusal → List ℕ
name_of BadLine = codes ": BadLine" ++ 10 ∷ []
name_of LineTooLong = codes ": LineTooLong" ++ 10 ∷ []
name_of NoEnd = codes ": NoEnd" ++ 10 ∷ []
name_of (Rule fault) = rule_of fault

-- the note of bytes that are no log
abbrev pub why_of : LogWhy → List ℕ
why_of AfterEnd = codes ": AfterEnd" ++ 10 ∷ []
why_of BadHeader = codes ": BadHeader" ++ 10 ∷ []
why_of BadKind = codes ": BadKind" ++ 10 ∷ []
why_of BadLength = codes ": BadLength" ++ 10 ∷ []
why_of TimeBack = codes ": TimeBack" ++ 10 ∷ []
why_of (BadBody _) = codes ": BadBody" ++ 10 ∷ []
why_of Cut = codes ": Cut" ++ 10 ∷ []
why_of NoLogEnd = codes ": NoEnd" ++ 10 ∷ []
why_of (BadEpoch _) = codes ": BadEpoch" ++ 10 ∷ []

-- the note of self-ID packets that are no tree's
abbrev pub tree_why_of : MapWhy → List ℕ
tree_why_of Parents = codes ": Parents" ++ 10 ∷ []
tree_why_of Missing = codes ": Missing" ++ 10 ∷ []
tree_why_of Left = codes ": Left" ++ 10 ∷ []
tree_why_of Root = codes ": Root" ++ 10 ∷ []

-- the note of a log that has no tree
abbrev pub map_note : Unmapped → List ℕ
map_note NoReset = codes "no reset" ++ 10 ∷ []
map_note (NoTree fault) = codes "node " ++ decimal fault.node ++ tree_why_of fault.why

-- the note of why a word after `explore` is refused
abbrev pub word_why_of : WordWhy → List ℕ
word_why_of Words.BadNumber = codes ": BadNumber" ++ 10 ∷ []
word_why_of Words.LineTooLong = codes ": LineTooLong" ++ 10 ∷ []
word_why_of Words.BadLine = codes ": BadLine" ++ 10 ∷ []
word_why_of Words.NotHere = codes ": NotHere" ++ 10 ∷ []
word_why_of Words.TooMany = codes ": TooMany" ++ 10 ∷ []
word_why_of Words.Twice = codes ": Twice" ++ 10 ∷ []
word_why_of Words.UnknownName = codes ": UnknownName" ++ 10 ∷ []

-- the note of why nothing was explored
abbrev pub unexplored_note : Reason → List ℕ
unexplored_note (Word fault) = codes "word " ++ decimal fault.word ++ word_why_of fault.why
unexplored_note TooLarge = codes "too large" ++ 10 ∷ []

-- the note of an ending, for the standard error
abbrev pub note_of : Ending → List ℕ
note_of Done = []
note_of Usage = codes "usage" ++ 10 ∷ []
note_of (Refused r) = codes "line " ++ decimal r.line ++ name_of r.why
note_of (NoLog fault) = codes "byte " ++ decimal fault.place ++ why_of fault.why
note_of (Stopped stop) = stop_note stop
note_of (Unsound u) = unsound_text u ++ 10 ∷ []
note_of (NoMap no_map) = map_note no_map
note_of (Unexplored why) = unexplored_note why

-- A note was written and the status is the one that was given, or the note could not be written and the status is 6.
abbrev pub IsPassedOn : {N : Type 0} → (N → Option (List ℕ)) → (N → ℕ) → N → N → List ℕ → ℕ → ℕ → Type 0
IsPassedOn held faults old new note given status =
    ((status ≡ given) × Grows (held old) (held new) note × (faults new ≡ faults old))
    ⊎ ((status ≡ 6) × AppendsPrefix (held old) (held new) note × Rose (faults old) (faults new))

-- How an ending is told: its note by the notes, and its status. One that is done has no note.
abbrev pub IsTold : {N : Type 0} → (N → Option (List ℕ)) → (N → ℕ) → N → N → Ending → ℕ → Type 0
IsTold held faults old new Done status = (status ≡ 0) × (new ≡ old)
IsTold held faults old new ending status = IsPassedOn held faults old new (note_of ending) (status_of ending) status
