-- A trace goes on if a step has carried out a command.
use Rattle.fw_trace.proofs.Common.{◌≡◌, refl, sym, ap, subst, ◌∙◌, ℕ, ◌<◌, Bool, List, [], ◌++◌, Option, Some, None, Err, arith, Grows, ReadFault, WriteFault, TooLong, NoMemory, RunEnding, Refused}
use Rattle.fw_trace.proofs.Common.{
  Stopped,
  Command,
  LogState,
  Reading,
  DeskRelations,
  BusView,
  course_of,
  caused_text,
  Traced,
  last_lines,
  lines_from,
  telling_following,
  Lack,
  Memory,
  Base,
  WasPassed,
}
use Rattle.fw_trace.proofs.Common.{TellsBy, fails_by, Begun, Tracing}
use Rattle.fw_outside.specs.Outside.{Rose}
use Rattle.fw_script_words.specs.Counts.{WriteCount}
use Rattle.fw_script_words.specs.declared.ending.RunEnding.TheVariants.{Done}
use Rattle.fw_script_words.specs.Going.{Carried, to_read}
use Rattle.fw_trace_lines.specs.Commands.{ended}
use Rattle.fw_trace.specs.declared.lack.Lack.TheVariants.{Sink}
use Rattle.fw_trace.specs.Traces.{stopped_by, fault_by, ending_by}
use Rattle.fw_trace.specs.Passed.{PassesBy}
use Rattle.fw_trace.specs.Telling.{faults_by}
use Rattle.fw_trace.proofs.CarriedLaws.{FramedStep, carried_text, carried_kept}
use Rattle.fw_trace.proofs.TracedLaws.{line_traced, end_traced}

-- a sink that has not failed lacks nothing
pub lack_none : (old new : Option Lack) → old ≡ None → faults_by new ≡ faults_by old → new ≡ None
lack_none old None e f = refl
lack_none old (Some lack) e f = absurd (omega (arith, f, ap faults_by e))

-- what was passed on was written whole
pub passed_whole : (lack : Option Lack) (failed : Bool) (held held' : Option (List ℕ)) (faults faults' : ℕ) (given : List ℕ) → lack ≡ None → failed ≡ fails_by lack
    → WasPassed failed held held' faults faults' given → Grows held held' given × (faults' ≡ faults)
passed_whole lack failed held held' faults faults' given none e w = subst (λ (b : Bool). WasPassed b held held' faults faults' given) (e ∙ ap fails_by none) w

-- a line, or the end
carried_part : {D : DeskRelations} {left mid left' held start written written' : Option (List ℕ)} {reader reader' : Reading} {bus bus' : BusView} {origin : Traced} {earlier history : List ℕ}
    {c : Command} {place : Option (ℕ × ℕ)} (line : Option (List ℕ)) (b : Begun D left mid held start reader bus origin earlier line c place)
    (k : Carried D left mid left' (Some []) (Some history) written written' (course_of b.going) reader reader' bus')
    (given : List ℕ) (now end : Traced) (held1 held2 : Option (List ℕ))
    → given ++ now.text ≡ origin.text ++ caused_text (lines_from origin.telling k.out) → now.telling ≡ telling_following origin.telling k.out
    → Grows start held1 given → Grows held1 held2 (now.text ++ caused_text (last_lines now.telling))
    → end.text ≡ [] → end.telling ≡ ended c place now.telling
    → Tracing D left left' held held2 reader' bus' end history
carried_part None b k given now end held1 held2 t1 t2 g1 g2 e1 e2 = end_traced b k given now end held1 held2 t1 t2 g1 g2 e1 e2
carried_part (Some text) b k given now end held1 held2 t1 t2 g1 g2 e1 e2 = line_traced b k given now end held1 held2 t1 t2 g1 g2 e1 e2

pub carried_on : {D : DeskRelations} {left mid left' held start : Option (List ℕ)} {reader reader' : Reading} {bus bus' : BusView} {origin : Traced} {earlier : List ℕ} {c : Command}
    {place : Option (ℕ × ℕ)}
    (line : Option (List ℕ)) (b : Begun D left mid held start reader bus origin earlier line c place)
    (name name' faults faults' : ℕ) (start' : Option (List ℕ)) (origin' : Traced) (earlier' bytes history : List ℕ)
    → FramedStep b.going (name, (start, (faults, (origin, earlier)))) (name', (start', (faults', (origin', earlier')))) bytes history left' reader' bus' None
    → (lack : Option Lack) (now end : Traced) (r : LogState) (count : ℕ) (given : List ℕ) (held1 held2 : Option (List ℕ)) → lack ≡ None
    → ∥ TellsBy lack origin' now r count earlier' history given ∥₁ → Grows start' held1 given → Grows held1 held2 (now.text ++ caused_text (last_lines now.telling))
    → end.text ≡ [] → end.telling ≡ ended c place now.telling
    → Tracing D left left' held held2 reader' bus' end history × (to_read reader' < to_read reader)
carried_on {D} {left} {mid} {left'} {held} {start} {reader} {reader'} {bus} {bus'} {origin} {earlier} {c} {place} line b name name' faults faults' start' origin' earlier' bytes history f
    lack now end r count given held1 held2 none tells g1 g2 e1 e2 =
    (carried_part line b f.goes given now end held1 held2 text kept grew g2 e1 e2, f.goes.shorter)
  where
    tells' : ∥ TellsBy None origin now r count earlier history given ∥₁
    tells' =
        subst (λ (l : List ℕ). ∥ TellsBy None origin now r count l history given ∥₁) (ap (λ (q : Base). q.1.1.1.1) f.same)
        (subst (λ (t : Traced). ∥ TellsBy None t now r count earlier' history given ∥₁) (ap (λ (q : Base). q.1.1.1.0) f.same)
        (subst (λ (o : Option Lack). ∥ TellsBy o origin' now r count earlier' history given ∥₁) none tells))

    grew : Grows start held1 given
    grew = subst (λ (o : Option (List ℕ)). Grows o held1 given) (ap (λ (q : Base). q.1.0) f.same) g1

    text : given ++ now.text ≡ origin.text ++ caused_text (lines_from origin.telling f.goes.out)
    text = carried_text b.going f.goes origin now r count given b.read tells'

    kept : now.telling ≡ telling_following origin.telling f.goes.out
    kept = ap (λ (t : Traced). t.telling) (carried_kept b.going f.goes origin now r count given b.read tells')

-- ---- which counts of faults rise

pub stop_writes : (lack : Lack) (r : RunEnding) (held held' : Option (List ℕ)) (first before after : ℕ) (text : List ℕ) → r ≡ stopped_by lack → PassesBy (Err lack) held held' before after text
    → before ≡ first
    → WriteCount first after r
stop_writes Memory r held held' first before after text e p f = subst (WriteCount first after) (sym e) (p.1 ∙ f)
stop_writes Sink r held held' first before after text e p f = subst (WriteCount first after) (sym e) (subst (λ (n : ℕ). Rose n after) f p.1)

pub fault_writes : (lack : Option Lack) (failed : Bool) (held held' : Option (List ℕ)) (first before after : ℕ) (given : List ℕ) → failed ≡ fails_by lack
    → WasPassed failed held held' before after given → before ≡ first
    → WriteCount first after (fault_by lack)
fault_writes None failed held held' first before after given e w f = (subst (λ (b : Bool). WasPassed b held held' before after given) e w).1 ∙ f
fault_writes (Some Memory) failed held held' first before after given e w f = (subst (λ (b : Bool). WasPassed b held held' before after given) e w).1 ∙ f
fault_writes (Some Sink) failed held held' first before after given e w f = subst (λ (n : ℕ). Rose n after) f (subst (λ (b : Bool). WasPassed b held held' before after given) e w).1

pub end_writes : (old lack : Option Lack) (ending : RunEnding) (failed : Bool) (held held' : Option (List ℕ)) (first before after : ℕ) (given : List ℕ) → old ≡ None → failed ≡ fails_by lack
    → WasPassed failed held held' before after given → before ≡ first → WriteCount (faults_by old) (faults_by lack) ending → WriteCount first after (ending_by lack ending)
end_writes old lack Done failed held held' first before after given e f w b c = (passed_whole lack failed held held' before after given (lack_none old lack e c) f w).1 ∙ b
end_writes old lack (Refused r) failed held held' first before after given e f w b c = (passed_whole lack failed held held' before after given (lack_none old lack e c) f w).1 ∙ b
end_writes old lack (Stopped ReadFault) failed held held' first before after given e f w b c = (passed_whole lack failed held held' before after given (lack_none old lack e c) f w).1 ∙ b
end_writes old lack (Stopped WriteFault) failed held held' first before after given e f w b c = fault_writes lack failed held held' first before after given f w b
end_writes old lack (Stopped TooLong) failed held held' first before after given e f w b c = (passed_whole lack failed held held' before after given (lack_none old lack e c) f w).1 ∙ b
end_writes old lack (Stopped NoMemory) failed held held' first before after given e f w b c = (passed_whole lack failed held held' before after given (lack_none old lack e c) f w).1 ∙ b
