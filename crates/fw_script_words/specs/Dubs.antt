-- What each ending of `dub` says of the input and of what was written: the reel of the run in place of its log, which is kept nowhere.
use Rattle.std.specs.Prelude.{◌≡◌, ℕ, List, [], Option, Some, IsFalse, ⊤}
use Rattle.fw_outside.specs.Outside.{Grows, AppendsPrefix}
use Rattle.fw_outside.specs.declared.stop.Stop.TheVariants.{ReadFault, WriteFault, TooLong, NoMemory}
use Rattle.fw_dub.specs.Reels.{bytes_of}
use Rattle.fw_model_run.specs.Desks.{DeskRelations}
use Rattle.fw_model_run.specs.Recorded.{AreRecorded}
use Rattle.fw_model_run.specs.State.{first_state}
use Rattle.fw_bus.specs.Buses.{BusView, StandsFor}
use Rattle.fw_script_words.specs.declared.ending.RunEnding.{RunEnding}
use Rattle.fw_script_words.specs.declared.ending.RunEnding.TheVariants.{Done, Refused, Stopped}
use Rattle.fw_script_words.specs.Ending.{Logged, Refuses, PassesScriptLimit, Interrupted}

-- A script was run to its end in memory: what `run` says of it, with a sink of its own that was empty. Each block of the reel was recorded
-- in the course of the run: it is one that a tape was due to give, with bytes that the desk allows.
pub record WasRecorded (D : DeskRelations) (left left' : Option (List ℕ)) : Type 0 where
  pub written : List ℕ
  pub ran : Logged D left left' (Some []) (Some written)
  pub recorded : AreRecorded D first_state ran.logged.actions ran.logged.state.dub.reel

-- the bytes of the reel of its run
abbrev pub reel_of : {D : DeskRelations} {left left' : Option (List ℕ)} → WasRecorded D left left' → List ℕ
reel_of was = bytes_of was.ran.logged.state.dub.reel

-- what `run` says of an ending, with a sink of its own that was empty
abbrev pub InMemory : (Option (List ℕ) → Option (List ℕ) → Type 0) → Type 0
InMemory says = (written : List ℕ) × says (Some []) (Some written)

-- ---- the run

-- it was run to its end, and the bus stands for the state then
pub record HasRecorded (D : DeskRelations) (left left' : Option (List ℕ)) (bus : BusView) : Type 0 where
  pub was : WasRecorded D left left'
  pub stands : StandsFor bus.machine was.ran.logged.state
  pub fresh : IsFalse bus.spent

-- A write to memory fails only if memory is refused, and that may come at any place.
abbrev pub Recorded : DeskRelations → Option (List ℕ) → Option (List ℕ) → BusView → RunEnding → Type 0
Recorded D left left' bus Done = HasRecorded D left left' bus
Recorded D left left' bus (Refused r) = InMemory (λ none all. Refuses D left left' none all r)
Recorded D left left' bus (Stopped ReadFault) = InMemory (Interrupted D left left')
Recorded D left left' bus (Stopped WriteFault) = ⊥
Recorded D left left' bus (Stopped TooLong) = InMemory (PassesScriptLimit D left left')
Recorded D left left' bus (Stopped NoMemory) = ⊤

-- ---- the reel

-- what writing a reel does
abbrev pub WritesReel : List (List ℕ) → Option (List ℕ) → Option (List ℕ) → RunEnding → Type 0
WritesReel reel held held' Done = Grows held held' (bytes_of reel)
WritesReel reel held held' (Refused r) = ⊥
WritesReel reel held held' (Stopped ReadFault) = ⊥
WritesReel reel held held' (Stopped WriteFault) = AppendsPrefix held held' (bytes_of reel)
WritesReel reel held held' (Stopped TooLong) = ⊥
WritesReel reel held held' (Stopped NoMemory) = ⊥

-- ---- the word

-- By the ending. If the script was not run to its end nothing was written.
abbrev pub Dubs : DeskRelations → Option (List ℕ) → Option (List ℕ) → Option (List ℕ) → Option (List ℕ) → RunEnding → Type 0
Dubs D left left' held held' Done = (was : WasRecorded D left left') × Grows held held' (reel_of was)
Dubs D left left' held held' (Refused r) = InMemory (λ none all. Refuses D left left' none all r) × (held' ≡ held)
Dubs D left left' held held' (Stopped ReadFault) = InMemory (Interrupted D left left') × (held' ≡ held)
Dubs D left left' held held' (Stopped WriteFault) = (was : WasRecorded D left left') × AppendsPrefix held held' (reel_of was)
Dubs D left left' held held' (Stopped TooLong) = InMemory (PassesScriptLimit D left left') × (held' ≡ held)
Dubs D left left' held held' (Stopped NoMemory) = held' ≡ held
