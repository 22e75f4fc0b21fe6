-- How the word ends, by how the script's run and the walk over its interleavings did.
use Rattle.fw_explore.proofs.Common.{ℕ, ◌≡◌, List, [], ◌∷◌, Option, Some, None, refl, sym, ap, subst, ◌∙◌, Timed, Command, Machine, StandsFor, DeskRelations, IsFunction, State, History, Had, IsGoing}
use Rattle.fw_outside.specs.Outside.{Grows, AppendsPrefix}
use Rattle.fw_outside.specs.Stops.{ReadCount, WriteCount}
use Rattle.fw_outside.specs.declared.stop.Stop.{Stop}
use Rattle.fw_outside.specs.declared.stop.Stop.TheVariants as Stops
use Rattle.fw_bus.specs.Buses.{BusView}
use Rattle.fw_script_words.specs.Dubs.{HasRecorded, Recorded}
use Rattle.fw_script_words.specs.declared.ending.RunEnding.TheVariants as Runs
use Rattle.fw_explore_movers.specs.declared.mover.Explored.{Explored}
use Rattle.fw_explore_endings.specs.declared.rows.Rows.{Rows}
use Rattle.fw_explore_endings.specs.Texts.{text_of}
use Rattle.fw_explore_levels.specs.Walked.{Walked}
use Rattle.fw_explore_meaning.specs.Moves.{RunsTo}
use Rattle.fw_explore_meaning.specs.Steps.{IsFirstKey}
use Rattle.fw_explore_meaning.specs.Walking.{IsWholeSo}
use Rattle.fw_explore_meaning.proofs.GoLaws.{whole_told}
use Rattle.fw_explore_meaning.proofs.StartLaws.{starts}
use Rattle.fw_explore_movers.specs.declared.fault.WordFault.{WordFault}
use Rattle.fw_explore.specs.Outcome.{AllKnown, Fails, HasExplored, IsFirstUnknown, IsTextOf, IsUntouched, Tells, stop_of}
use Rattle.fw_explore.proofs.ScriptLaws.{stands_carried}
use Rattle.fw_explore.specs.declared.fault.ExploreEnding.{ExploreEnding}
use Rattle.fw_explore.specs.declared.fault.ExploreEnding.TheVariants.{Done, Unknown, Refused, Stopped, TooLarge}

-- ---- the script stopped

pub stopped : (D : DeskRelations) (x : Explored) (left left' : Option (List ℕ)) (bus : BusView) (stop : Stop) → Recorded D left left' bus (Runs.Stopped stop) → Fails D x left left' (Stopped stop)
stopped D x left left' bus Stops.ReadFault r = r
stopped D x left left' bus Stops.WriteFault r = absurd r
stopped D x left left' bus Stops.TooLong r = r
stopped D x left left' bus Stops.NoMemory r = tt

module _ (D : DeskRelations) (x : Explored) (left left' : Option (List ℕ)) (bus : BusView) (r : HasRecorded D left left' bus) where
  -- a name is not declared
  pub unknown_named : (fault : WordFault) → ((s : State) → StandsFor bus.machine s → IsFirstUnknown x s fault) → Fails D x left left' (Unknown fault)
  unknown_named fault first = let c = stands_carried D left left' bus r in (c.carried, first c.carried.state c.stands)

  module _ (known : (s : State) → StandsFor bus.machine s → AllKnown x s) where
    -- there are too many places
    pub too_many : Fails D x left left' TooLarge
    too_many = let c = stands_carried D left left' bus r in (c.carried, known c.carried.state c.stands)

    -- all was gone through
    pub all_explored : (text : List ℕ)
        → ((script : List Command) (log : List Timed) (state : State) → RunsTo D script log state → StandsFor bus.machine state → IsTextOf D script x state text)
        → HasExplored D x left left' text
    all_explored text told =
        let c = stands_carried D left left' bus r in
        record { carried = c.carried; known = known c.carried.state c.stands; told = told c.carried.commands c.carried.log c.carried.state c.carried.runs c.stands }

-- ---- nothing is told

pub tells_none : (D : DeskRelations) (x : Explored) (left left' held : Option (List ℕ)) (ending : ExploreEnding) → Fails D x left left' ending → Tells D x left left' held held ending
tells_none D x left left' held Done f = absurd f
tells_none D x left left' held (Refused r) f = (refl, f)
tells_none D x left left' held (Unknown fault) f = (refl, f)
tells_none D x left left' held TooLarge f = (refl, f)
tells_none D x left left' held (Stopped Stops.ReadFault) f = (refl, f)
tells_none D x left left' held (Stopped Stops.WriteFault) f = absurd f
tells_none D x left left' held (Stopped Stops.TooLong) f = (refl, f)
tells_none D x left left' held (Stopped Stops.NoMemory) f = (refl, f)

pub untouched : {K : Type 0} (sink : K) (ending : ExploreEnding) → IsUntouched sink sink ending
untouched sink Done = tt
untouched sink (Refused r) = refl
untouched sink (Unknown fault) = refl
untouched sink TooLarge = refl
untouched sink (Stopped Stops.ReadFault) = refl
untouched sink (Stopped Stops.WriteFault) = tt
untouched sink (Stopped Stops.TooLong) = refl
untouched sink (Stopped Stops.NoMemory) = refl

pub no_write : (D : DeskRelations) (x : Explored) (left left' : Option (List ℕ)) (count : ℕ) (ending : ExploreEnding) → Fails D x left left' ending → WriteCount count count (stop_of ending)
no_write D x left left' count Done f = refl
no_write D x left left' count (Refused r) f = refl
no_write D x left left' count (Unknown fault) f = refl
no_write D x left left' count TooLarge f = refl
no_write D x left left' count (Stopped Stops.ReadFault) f = refl
no_write D x left left' count (Stopped Stops.WriteFault) f = absurd f
no_write D x left left' count (Stopped Stops.TooLong) f = refl
no_write D x left left' count (Stopped Stops.NoMemory) f = refl

-- ---- all is told

-- from the first place on, all interleavings are gone through
pub text_is : (D : DeskRelations) (script : List Command) (x : Explored) (log : List Timed) (state : State) → RunsTo D script log state
    → (pasts : List History) (K : List ℕ → Machine → Type 0) (key : List ℕ) (m : Machine) → IsFirstKey (Had pasts) K m key → StandsFor m state → (levels : Walked) (rows : Rows)
    → levels.level ≡ record { key = key; ways = 1; first = [] } ∷ [] → levels.next ≡ [] → rows.list.items ≡ [] → rows.ended ≡ 0 → rows.cut ≡ 0 → (rows' : Rows)
    → (IsFunction D → IsGoing D script x pasts K 0 0 levels rows → IsWholeSo D script x rows')
    → (names : List (List ℕ)) → names ≡ m.devices.names → (text : List ℕ) → text ≡ text_of x names rows'.list.items rows'.ended rows'.cut rows'.longest
    → IsTextOf D script x state text
text_is D script x log state runs pasts K key m first stands levels rows level next none ended cut rows' whole names named text is = record {
  rows = rows'.list.items;
  ended = rows'.ended;
  cut = rows'.cut;
  longest = rows'.longest;
  explores = λ only. whole_told D script x only rows' (whole only (starts D script x log state runs pasts K key m first stands levels rows level next none ended cut));
  is = is ∙ ap (λ ns. text_of x ns rows'.list.items rows'.ended rows'.cut rows'.longest) (named ∙ stands.devices.names);
}
