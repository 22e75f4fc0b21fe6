-- A trace that ends where its run has ended.
use Rattle.fw_trace.proofs.Common.{◌≡◌, refl, sym, ap, subst, ◌∙◌, ℕ, ◌+◌, ◌<◌, Bool, List, [], ◌++◌, length, ◌⊎◌, Option, Some, None, Ok, Err, arith, append-nil, length-append, ∥∥₁_elim, Grows}
use Rattle.fw_trace.proofs.Common.{ReadFault, WriteFault, TooLong, NoMemory, Grows-Grows, header_bytes, Two, LogState, Command, End, Reading, Advances, DeskRelations, log_bytes, BusView, Course}
use Rattle.fw_trace.proofs.Common.{course_of, RunEnding, Refused, Stopped, Traced, Lack, Memory, PartsRun, AreLines, trace_text, Base, WasPassed, Tells, TellsBy, fails_by, Traces, TellsPrefix, Begun}
use Rattle.std.specs.Coded.{Coded-set, coded_ℕ, coded_list}
use Rattle.fw_script.specs.Reading.{Answer}
use Rattle.fw_script.specs.declared.ScriptFault.TheVariants as Fault
use Rattle.fw_script.specs.declared.stage.ReaderStage.TheVariants.{Done as AtEnd}
use Rattle.fw_script_words.specs.Counts.{WriteCount}
use Rattle.fw_script_words.specs.Course.{refused_answer}
use Rattle.fw_script_words.specs.Ending.{RefusesBy}
use Rattle.fw_script_words.specs.Going.{Ended}
use Rattle.fw_script_words.specs.declared.ending.RunEnding.TheVariants.{Done}
use Rattle.fw_script_words.specs.declared.ending.Refusal.{Refusal}
use Rattle.fw_script_words.specs.declared.ending.Refusal.TheVariants.{BadLine, LineTooLong, NoEnd, Rule}
use Rattle.fw_script_words.proofs.Completions.{other_than_end}
use Rattle.fw_trace.specs.declared.lack.Lack.TheVariants.{Sink}
use Rattle.fw_trace.specs.Telling.{faults_by}
use Rattle.fw_trace.specs.Traces.{TellsRun, LeavesOut, ending_by}
use Rattle.fw_trace.proofs.CarriedLaws.{FramedStep}
use Rattle.fw_trace.proofs.CutLaws.{cut_traced}
use Rattle.fw_trace.proofs.EndedLaws.{IsWhole, are_lines, ended_bytes}
use Rattle.fw_trace.proofs.HeldLaws.{Held, given_line, limit_given, held_of, no_read_fault, none_done, whole_known}
use Rattle.fw_trace.proofs.OnLaws.{lack_none, passed_whole}
use Rattle.fw_trace.proofs.PartLaws.{limit_left, lines_looked}

-- nothing is passed on before a byte is given
nothing_passed : (origin now : Traced) (r : LogState) (count : ℕ) (earlier history given : List ℕ) → history ≡ earlier → ∥ TellsBy None origin now r count earlier history given ∥₁ → given ≡ []
nothing_passed origin now r count earlier history given e t =
    ∥∥₁_elim t (Coded-set (coded_list coded_ℕ) given []) (λ (x : Tells origin now r count earlier history given). x.waits e)

still_told : (held start held' : Option (List ℕ)) (text given : List ℕ) → Grows held start text → Grows start held' given → given ≡ [] → Grows held held' text
still_told held start held' text given x y e =
    subst (λ (l : List ℕ). Grows held held' l) (append-nil text) (Grows-Grows held start held' text [] x (subst (λ (l : List ℕ). Grows start held' l) e y))

-- the line that is refused is the next one
refused_line : (D : DeskRelations) (left left' : Option (List ℕ)) (history : List ℕ) (p q : Reading) (mid : Option (List ℕ)) (held : (p.stage ≡ AtEnd) ⊎ Held p) (why : Refusal) (n : ℕ)
    (x : RefusesBy D left left' (Some []) (Some history) why n) → Advances p q mid left' (refused_answer D left left' (Some []) (Some history) why n x) → q.line ≡ p.line + 1
refused_line D left left' history p q mid held BadLine n x a = given_line p q mid left' (Err Fault.BadLine) held a (λ e. cc) (λ e. cc) (λ e. cc) (λ e. cc)
refused_line D left left' history p q mid held LineTooLong n x a = given_line p q mid left' (Err Fault.LineTooLong) held a (λ e. cc) (λ e. cc) (λ e. cc) (λ e. cc)
refused_line D left left' history p q mid held NoEnd n x a = given_line p q mid left' (Err Fault.NoEnd) held a (λ e. cc) (λ e. cc) (λ e. cc) (λ e. cc)
refused_line D left left' history p q mid held (Rule rule) n x a =
    given_line p q mid left' (Ok (Some x.command)) held a (λ e. cc) (λ e. cc) (λ e. cc)
    (λ e. other_than_end x.logged.state x.command rule x.decided (let is : x.command ≡ End = cc in is))

-- the lines that were told are those that were read
abbrev looked : {D : DeskRelations} {left mid left' held start : Option (List ℕ)} {reader reader' : Reading} {bus : BusView} {origin : Traced} {earlier : List ℕ} {c : Command}
    {place : Option (ℕ × ℕ)}
    (line : Option (List ℕ)) (b : Begun D left mid held start reader bus origin earlier line c place) {a : Answer} → Advances reader reader' mid left' a → AreLines left left' b.parts
looked {left = left} {mid = mid} {left' = left'} {reader = reader} line b a = are_lines left left' b.parts a.known (lines_looked left mid left' b.parts reader a.known b.lines a.takes)

module _ {D : DeskRelations} {left mid left' held start : Option (List ℕ)} {reader reader' : Reading} {bus bus' : BusView} {origin : Traced} {earlier history : List ℕ} {c : Command}
    {place : Option (ℕ × ℕ)} (line : Option (List ℕ)) (b : Begun D left mid held start reader bus origin earlier line c place)
    (now : Traced) (r : LogState) (count : ℕ) (given : List ℕ) (failed : Bool) (faults faults' : ℕ) (held' : Option (List ℕ)) (passed : WasPassed failed start held' faults faults' given) where
  -- nothing more was told than before the last step
  same_told : (ending : RunEnding) → IsWhole ending → Ended D left mid left' (Some []) (Some history) (course_of b.going) reader reader' bus' ending → (lack : Option Lack) → lack ≡ None
      → failed ≡ fails_by lack
      → ∥ TellsBy lack origin now r count earlier history given ∥₁ → Grows held held' (trace_text b.parts)
  same_told ending w e lack none f t =
      let same : history ≡ earlier =
      ended_bytes D left left' history ending w e.runs ∙ ap (λ (k : Course). header_bytes Two ++ log_bytes 0 k.log) e.same ∙ sym b.read in
      let grew = passed_whole lack failed start held' faults faults' given none f passed in
      let whole = subst (λ (o : Option Lack). ∥ TellsBy o origin now r count earlier history given ∥₁) none t in
      still_told held start held' (trace_text b.parts) given b.told grew.0 (nothing_passed origin now r count earlier history given same whole)

  tells_run : (ending : RunEnding) → (e : Ended D left mid left' (Some []) (Some history) (course_of b.going) reader reader' bus' ending) → (lines : AreLines left left' b.parts)
      → LeavesOut ending b.parts lines.rest → Grows held held' (trace_text b.parts) → TellsRun D left left' held held' ending
  tells_run ending e lines left_out grew =
      record { written = history; runs = e.runs; parts = b.parts; run = subst (PartsRun b.parts) (sym e.same) b.run; lines = lines; left_out = left_out; grew = grew }

  cut_off : (lack : Lack) → Ended D left mid left' (Some []) (Some history) (course_of b.going) reader reader' bus' (Stopped WriteFault)
      → ∥ TellsBy (Some lack) origin now r count earlier history given ∥₁ → TellsPrefix D left left' held held'
  cut_off lack e t = cut_traced line b e.runs e.same e.reads failed faults faults' given passed t

  ended_by : (ending : RunEnding) (old lack : Option Lack) → Ended D left mid left' (Some []) (Some history) (course_of b.going) reader reader' bus' ending → 0 < length history
      → old ≡ None → WriteCount (faults_by old) (faults_by lack) ending → failed ≡ fails_by lack → ∥ TellsBy lack origin now r count earlier history given ∥₁
      → Traces D left left' held held' (ending_by lack ending)
  ended_by Done old lack e some n w f t =
      let over = b.over (none_done reader reader' mid left' e.reads) in
      tells_run Done e (looked line b e.reads) (ap (λ (q : Reading). q.rest) (whole_known reader e.reads.known mid left' over.1 e.reads.takes) ∙ over.0)
      (same_told Done tt e lack (lack_none old lack n w) f t)
  ended_by (Refused x) old lack e some n w f t =
      let next = refused_line D left left' history reader reader' mid (held_of reader line c b.gives) x.why x.line e.runs e.reads in
      tells_run (Refused x) e (looked line b e.reads) (e.stops ∙ next ∙ ap (λ (k : ℕ). k + 1) b.lines.number) (same_told (Refused x) tt e lack (lack_none old lack n w) f t)
  ended_by (Stopped ReadFault) old lack e some n w f t = absurd (no_read_fault reader reader' mid left' (held_of reader line c b.gives) e.reads e.stops)
  ended_by (Stopped WriteFault) old None e some n w f t = absurd (omega (arith, n, w))
  ended_by (Stopped WriteFault) old (Some Memory) e some n w f t = cut_off Memory e t
  ended_by (Stopped WriteFault) old (Some Sink) e some n w f t = cut_off Sink e t
  ended_by (Stopped TooLong) old lack e some n w f t =
      let passes = limit_given reader reader' mid left' (held_of reader line c b.gives) e.reads in
      let known = lines_looked left mid left' b.parts reader e.reads.known b.lines e.reads.takes in
      tells_run (Stopped TooLong) e (looked line b e.reads) (limit_left left left' b.parts e.reads.known known passes) (same_told (Stopped TooLong) tt e lack (lack_none old lack n w) f t)
  ended_by (Stopped NoMemory) old lack e some n w f t =
      let none : history ≡ [] = let h = e.runs.1 in cc in
      absurd (omega (arith, some, ap length none))

-- the log that a sink was given begins with the header
header_there : (bytes more history rest : List ℕ) → bytes ≡ header_bytes Two ++ rest → history ≡ bytes ++ more → 0 < length history
header_there bytes more history rest e f =
    let size : length (header_bytes Two) ≡ 16 = refl in
    omega (arith, size, ap length f, length-append bytes more, ap length e, length-append (header_bytes Two) rest)

-- the run has ended in a step
pub ended_on : {D : DeskRelations} {left mid left' held start : Option (List ℕ)} {reader reader' : Reading} {bus bus' : BusView} {origin : Traced} {earlier : List ℕ} {c : Command}
    {place : Option (ℕ × ℕ)}
    (line : Option (List ℕ)) (b : Begun D left mid held start reader bus origin earlier line c place)
    (name name' first first' : ℕ) (start' : Option (List ℕ)) (origin' : Traced) (earlier' bytes history : List ℕ) (ending : RunEnding)
    → (f : FramedStep b.going (name, (start, (first, (origin, earlier)))) (name', (start', (first', (origin', earlier')))) bytes history left' reader' bus' (Some ending)) → bytes ≡ earlier
    → (old lack : Option Lack) (now : Traced) (r : LogState) (count : ℕ) (given : List ℕ) (failed : Bool) (faults' : ℕ) (held' : Option (List ℕ)) → WasPassed failed start' held' first' faults' given
    → old ≡ None → WriteCount (faults_by old) (faults_by lack) ending → failed ≡ fails_by lack → ∥ TellsBy lack origin' now r count earlier' history given ∥₁
    → Traces D left left' held held' (ending_by lack ending)
ended_on {D} {left} {mid} {left'} {held} {start} {origin = origin} {earlier = earlier} line b name name' first first' start' origin' earlier' bytes history ending f same
    old lack now r count given failed faults' held' passed none writes fails tells =
    ended_by line b now r count given failed first' faults' held' passed' ending old lack f.goes
    (header_there bytes f.more history (log_bytes 0 b.going.log) (same ∙ b.read) f.grown) none writes fails tells'
  where
    passed' : WasPassed failed start held' first' faults' given
    passed' = subst (λ (o : Option (List ℕ)). WasPassed failed o held' first' faults' given) (ap (λ (q : Base). q.1.0) f.same) passed

    tells' : ∥ TellsBy lack origin now r count earlier history given ∥₁
    tells' =
        subst (λ (l : List ℕ). ∥ TellsBy lack origin now r count l history given ∥₁) (ap (λ (q : Base). q.1.1.1.1) f.same)
        (subst (λ (t : Traced). ∥ TellsBy lack t now r count earlier' history given ∥₁) (ap (λ (q : Base). q.1.1.1.0) f.same) tells)
