-- What each ending of a call of `explore` says of the source and of what was written.
use Rattle.std.specs.Prelude.{ℕ, ◌≡◌, ◌<◌, ◌⊎◌, List, [], ◌∷◌, ◌++◌, Bool, true, IsTrue, IsFalse, Option, Some, None, is_some, ⊤}
use Rattle.std.specs.List.{Contains, list_all}
use Rattle.fw_outside.specs.Outside.{Takes, Grows, IsAtEnd, AppendsPrefix}
use Rattle.fw_outside.specs.declared.stop.Stop.{Stop}
use Rattle.fw_outside.specs.declared.stop.Stop.TheVariants as Stops
use Rattle.fw_log_entry.specs.declared.entry.Timed.{Timed}
use Rattle.fw_script_command.specs.declared.command.Command.{Command}
use Rattle.fw_script_command.specs.declared.command.Command.TheVariants.{End}
use Rattle.fw_model_run.specs.Desks.{DeskRelations, IsFunction}
use Rattle.fw_model_run.specs.Logs.{HasNoEnd}
use Rattle.fw_devices.specs.Network.{device_named}
use Rattle.fw_model_run.specs.Named.{names_of}
use Rattle.fw_model_run.specs.State.{State}
use Rattle.fw_script.specs.Script.{IsScript}
use Rattle.fw_script_words.specs.Dubs.{InMemory}
use Rattle.fw_script_words.specs.Ending.{Refuses, Interrupted, PassesScriptLimit}
use Rattle.fw_explore_movers.specs.declared.fault.WordFault.{WordFault}
use Rattle.fw_explore_movers.specs.declared.fault.WordWhy.TheVariants.{UnknownName}
use Rattle.fw_explore_movers.specs.declared.mover.Explored.{Explored}
use Rattle.fw_explore_movers.specs.declared.mover.Mover.{Mover}
use Rattle.fw_explore_movers.specs.declared.mover.Line.{Line}
use Rattle.fw_explore_endings.specs.declared.rows.Row.{Row}
use Rattle.fw_explore_endings.specs.Texts.{text_of}
use Rattle.fw_explore_meaning.specs.Moves.{RunsTo}
use Rattle.fw_explore_meaning.specs.Rows.{Explores}
use Rattle.fw_explore.specs.declared.fault.ExploreEnding.{ExploreEnding}
use Rattle.fw_explore.specs.declared.fault.ExploreEnding.TheVariants.{Done, Unknown, Refused, Stopped, TooLarge}

-- ---- the script

-- The script was read to its end, and its commands are these and `end`.
pub record HasRead (left left' : Option (List ℕ)) (commands : List Command) : Type 0 where
  pub script : List ℕ
  pub taken : Takes left left' script
  pub end : IsAtEnd left'
  pub says : IsScript script (commands ++ End ∷ []) None
  pub no_end : HasNoEnd commands

-- It is carried out without a refusal.
pub record HasCarried (D : DeskRelations) (left left' : Option (List ℕ)) : Type 0 where
  pub commands : List Command
  pub read : HasRead left left' commands
  pub log : List Timed
  pub state : State
  pub runs : RunsTo D commands log state

-- ---- the names in the words

-- a name, if there is one, is that of one of these devices
abbrev pub is_device : List (List ℕ) → Option (List ℕ) → Bool
is_device names None = true
is_device names (Some name) = is_some (device_named names name)

-- all devices that a command names are among these
abbrev pub names_known : List (List ℕ) → Command → Bool
names_known names c = list_all (λ name. is_some (device_named names name)) (names_of c)

-- and so are declared
abbrev pub is_known : State → Command → Bool
is_known s c = names_known s.declared.names c

-- what a word stands for, a mover or a line after them, is of this number and of this command
abbrev pub IsWord : Explored → ℕ → Command → Type 0
IsWord x n c = ((m : Mover) × Contains x.movers.items m × (m.word ≡ n) × (m.command ≡ c)) ⊎ ((l : Line) × Contains x.following.items l × (l.word ≡ n) × (l.command ≡ c))

abbrev pub AllKnown : Explored → State → Type 0
AllKnown x s = (n : ℕ) (c : Command) → IsWord x n c → IsTrue (is_known s c)

-- The word is the first that names a device which the script does not declare.
pub record IsFirstUnknown (x : Explored) (s : State) (fault : WordFault) : Type 0 where
  pub why : fault.why ≡ UnknownName
  pub command : Command
  pub word : IsWord x fault.word command
  pub unknown : IsFalse (is_known s command)
  pub earlier : (n : ℕ) (c : Command) → n < fault.word → IsWord x n c → IsTrue (is_known s c)

-- ---- the interleavings

-- The text of all interleavings after the script, by their endings.
pub record IsTextOf (D : DeskRelations) (script : List Command) (x : Explored) (s : State) (text : List ℕ) : Type 0 where
  pub rows : List Row
  pub ended : ℕ
  pub cut : ℕ
  pub longest : ℕ
  -- if the desk is a function: else a line of the script that asks it may be answered in two ways
  pub explores : IsFunction D → Explores D script x rows ended cut longest
  pub is : text ≡ text_of x s.declared.names rows ended cut longest

-- The interleavings of the script and the words, all of them and no others, are told.
pub record HasExplored (D : DeskRelations) (x : Explored) (left left' : Option (List ℕ)) (text : List ℕ) : Type 0 where
  pub carried : HasCarried D left left'
  pub known : AllKnown x carried.state
  pub told : IsTextOf D carried.commands x carried.state text

pub record HasTold (D : DeskRelations) (x : Explored) (left left' held held' : Option (List ℕ)) : Type 0 where
  pub text : List ℕ
  pub explored : HasExplored D x left left' text
  pub grew : Grows held held' text

pub record PartTold (D : DeskRelations) (x : Explored) (left left' held held' : Option (List ℕ)) : Type 0 where
  pub text : List ℕ
  pub explored : HasExplored D x left left' text
  pub grew : AppendsPrefix held held' text

-- ---- the ending

-- why it stopped, if it did
abbrev pub stop_of : ExploreEnding → Option Stop
stop_of Done = None
stop_of (Refused r) = None
stop_of (Unknown fault) = None
stop_of TooLarge = None
stop_of (Stopped stop) = Some stop

-- if nothing was to be written the sink is as it was
abbrev pub IsUntouched : {K : Type 0} → K → K → ExploreEnding → Type 0
IsUntouched old new Done = ⊤
IsUntouched old new (Stopped Stops.WriteFault) = ⊤
IsUntouched old new ending = new ≡ old

-- why nothing was told; memory may be refused wherever it is wanted
abbrev pub Fails : DeskRelations → Explored → Option (List ℕ) → Option (List ℕ) → ExploreEnding → Type 0
Fails D x left left' Done = ⊥
Fails D x left left' (Refused r) = InMemory (λ none all. Refuses D left left' none all r)
Fails D x left left' (Unknown fault) = (c : HasCarried D left left') × IsFirstUnknown x c.state fault
Fails D x left left' TooLarge = (c : HasCarried D left left') × AllKnown x c.state
Fails D x left left' (Stopped Stops.ReadFault) = InMemory (Interrupted D left left')
Fails D x left left' (Stopped Stops.TooLong) = InMemory (PassesScriptLimit D left left')
Fails D x left left' (Stopped Stops.WriteFault) = ⊥
Fails D x left left' (Stopped Stops.NoMemory) = ⊤

-- Nothing is told by halves: but if all was written, and if the sink failed, nothing was.
abbrev pub Tells : DeskRelations → Explored → Option (List ℕ) → Option (List ℕ) → Option (List ℕ) → Option (List ℕ) → ExploreEnding → Type 0
Tells D x left left' held held' Done = HasTold D x left left' held held'
Tells D x left left' held held' (Stopped Stops.WriteFault) = PartTold D x left left' held held'
Tells D x left left' held held' ending = (held' ≡ held) × Fails D x left left' ending
