-- A run goes on line by line.
use Rattle.fw_script_words.proofs.Common.{◌≡◌, inl, inr, ℕ, List, [], true, Option, refl, ap, sym, ◌∙◌, subst, append-nil, arith, Reading, Command, DeskRelations, BusView, Going, course_of, to_read}
use Rattle.std.proofs.Common.{◌<◌}
use Rattle.fw_outside.specs.Outside.{Takes}
use Rattle.fw_outside.proofs.Parts.{Takes-Takes}
use Rattle.fw_script.specs.Passing.{Passes}
use Rattle.fw_script.specs.Reader.{HoldsLine, PassesOver}
use Rattle.fw_script.specs.Reading.{TakesMore, with_taken}
use Rattle.fw_script.specs.declared.reader.passing.Said.TheVariants.{Nothing}
use Rattle.fw_script.specs.declared.stage.ReaderStage.{ReaderStage}
use Rattle.fw_script.specs.declared.stage.ReaderStage.TheVariants.{Commands, AfterEnd, Done, Failed}
use Rattle.fw_script.proofs.GivesLaws.{goes_goes, goes_whole, goes_with}
use Rattle.fw_script.proofs.PassLaws.{read_taken}
use Rattle.fw_script.proofs.StepLaws.{at_end_still}
use Rattle.fw_script_words.specs.Going.{HasEnded, HasReadTo, IsReading, open_of}

-- ---- a look

-- nothing is taken after the end
ended_taken : (left mid left' : Option (List ℕ)) (given : List Command) (old new : Reading) → TakesMore old new mid left' → HasEnded left mid given old → HasEnded left left' given new
ended_taken left mid left' given old new t h =
    let k = t.kept h.whole in
    let none : Takes mid left' [] = subst (λ (xs : List ℕ). Takes mid left' xs) k.0 t.takes in
    record {
      script = h.script;
      takes = subst (λ (xs : List ℕ). Takes left left' xs) (append-nil h.script) (Takes-Takes left mid left' h.script [] h.takes none);
      end = at_end_still mid left' none h.end;
      says = h.says;
      whole = k.1;
      earlier = h.earlier;
      no_end = h.no_end;
      last = h.last;
    }

taken_to : (s : ReaderStage) (left mid left' : Option (List ℕ)) (given : List Command) (old new : Reading) → TakesMore old new mid left' → HasReadTo s left mid given old
    → HasReadTo s left left' given new
taken_to Commands left mid left' given old new t h = read_taken left mid left' given old new h t
taken_to AfterEnd left mid left' given old new t h = absurd h
taken_to Done left mid left' given old new t h = ended_taken left mid left' given old new t h
taken_to Failed left mid left' given old new t h = absurd h

reading_taken : (left mid left' : Option (List ℕ)) (given : List Command) (old new : Reading) → TakesMore old new mid left' → IsReading left mid given old → IsReading left left' given new
reading_taken left mid left' given old new t h =
    let known = with_taken h.known t.taken new.whole in
    let kept : h.known.whole ≡ true → (t.taken ≡ []) × (new.whole ≡ true) = λ w. t.kept (goes_whole h.passed ∙ w) in
    let more : TakesMore h.known known mid left' = record { taken = t.taken; takes = t.takes; kept = kept; met = λ v e. t.met (goes_whole h.passed ∙ v) e; now = refl } in
    record {
      known = known;
      read = taken_to h.known.stage left mid left' given h.known known more h.read;
      passed = subst (λ (q : Reading). PassesOver known q) (sym t.now) (goes_with t.taken new.whole kept h.passed);
    }

going_at : {D : DeskRelations} {left now now' held after : Option (List ℕ)} {old new : Reading} {bus : BusView} (g : Going D left now held after old bus) → IsReading left now' g.commands new
    → (h : Going D left now' held after new bus) × (course_of h ≡ course_of g)
going_at g r = (
  record {
    commands = g.commands;
    actions = g.actions;
    log = g.log;
    state = g.state;
    run = g.run;
    given = g.given;
    stands = g.stands;
    fresh = g.fresh;
    grew = g.grew;
    read = r;
  },
  refl,
)

pub going_looked : (D : DeskRelations) (left now now' held after : Option (List ℕ)) (old new : Reading) (bus : BusView) (g : Going D left now held after old bus)
    → TakesMore old new now now' → (h : Going D left now' held after new bus) × (course_of h ≡ course_of g)
going_looked D left now now' held after old new bus g t = going_at g (reading_taken left now now' g.commands old new t g.read)

pub look_same : (old new : Reading) (left left' : Option (List ℕ)) → TakesMore old new left left' → to_read new ≡ to_read old
look_same old new left left' t = ap (λ (p : Reading). to_read p) t.now

-- ---- a line that is passed over

pub going_passed : (D : DeskRelations) (left now held after : Option (List ℕ)) (old new : Reading) (bus : BusView) (g : Going D left now held after old bus)
    → PassesOver old new → (h : Going D left now held after new bus) × (course_of h ≡ course_of g)
going_passed D left now held after old new bus g o = going_at g (record { known = g.read.known; read = g.read.read; passed = goes_goes g.read.passed o })

pub pass_shorter : (old new : Reading) (n size : ℕ) (c : Command) → HoldsLine old n size → Passes old n size Nothing c new → to_read new < to_read old
pass_shorter old new n size c h (inl s) = subst (λ (p : Reading). to_read p < to_read old) (sym s.now) (omega (arith, h.some, h.line.within))
pass_shorter old new n size c h (inr e) =
    let one : open_of old.stage ≡ 1 = ap (λ (s : ReaderStage). open_of s) e.stage in
    subst (λ (p : Reading). to_read p < to_read old) (sym e.now) (omega (arith, one, h.some, h.line.within))
