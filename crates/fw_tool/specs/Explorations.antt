-- What the word `explore` says, with the words after it.
use Rattle.std.specs.Prelude.{◌≡◌, ◌⊎◌, ℕ, List, Option}
use Rattle.fw_outside.specs.declared.stop.Stop.TheVariants.{NoMemory}
use Rattle.fw_model_run.specs.Desks.{DeskRelations}
use Rattle.fw_explore_movers.specs.Words.{IsExploredBy, IsNoExploration}
use Rattle.fw_explore_movers.specs.declared.fault.WordsFault.{WordsFault}
use Rattle.fw_explore_movers.specs.declared.fault.WordsFault.TheVariants as WordsFaults
use Rattle.fw_explore_movers.specs.declared.mover.Explored.{Explored}
use Rattle.fw_explore.specs.Outcome.{Tells}
use Rattle.fw_explore.specs.declared.fault.ExploreEnding.{ExploreEnding}
use Rattle.fw_explore.specs.declared.fault.ExploreEnding.TheVariants as ExploreEndings
use Rattle.fw_tool.specs.declared.ending.Ending.{Ending}
use Rattle.fw_tool.specs.declared.ending.Ending.TheVariants.{Done, Usage, Refused, Stopped, Unexplored}
use Rattle.fw_tool.specs.declared.ending.Unexplored.TheVariants.{Word, TooLarge}

-- the ending of words that name nothing to explore
abbrev pub by_words : WordsFault → Ending
by_words WordsFaults.Usage = Usage
by_words (WordsFaults.Refused fault) = Unexplored (Word fault)
by_words WordsFaults.NoMemory = Stopped NoMemory

-- the ending of a call that explores
abbrev pub by_exploration : ExploreEnding → Ending
by_exploration ExploreEndings.Done = Done
by_exploration (ExploreEndings.Refused refused) = Refused refused
by_exploration (ExploreEndings.Unknown fault) = Unexplored (Word fault)
by_exploration ExploreEndings.TooLarge = Unexplored TooLarge
by_exploration (ExploreEndings.Stopped stop) = Stopped stop

-- The words name what to explore, and the script was explored so.
pub record HasExploredBy (D : DeskRelations) (words : List (List ℕ)) (left left' held held' : Option (List ℕ)) (ending : Ending) : Type 0 where
  pub explored : Explored
  pub named : IsExploredBy words explored
  pub came : ExploreEnding
  pub ending_is : ending ≡ by_exploration came
  pub told : Tells D explored left left' held held' came

-- They name nothing to explore. Nothing was read or written.
pub record HasRefusedWords (words : List (List ℕ)) (left left' held held' : Option (List ℕ)) (ending : Ending) : Type 0 where
  pub fault : WordsFault
  pub why : IsNoExploration words fault
  pub ending_is : ending ≡ by_words fault
  pub unread : left' ≡ left
  pub unwritten : held' ≡ held

-- of the words after `explore`, the source before and after, the sink before and after, and the ending
abbrev pub ExploresAs : DeskRelations → List (List ℕ) → Option (List ℕ) → Option (List ℕ) → Option (List ℕ) → Option (List ℕ) → Ending → Type 0
ExploresAs D words left left' held held' ending = HasExploredBy D words left left' held held' ending ⊎ HasRefusedWords words left left' held held' ending
