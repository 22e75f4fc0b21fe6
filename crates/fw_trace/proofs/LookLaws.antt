-- A trace after a look, and after a line that says nothing by itself.
use Rattle.fw_trace.proofs.Common.{◌≡◌, refl, sym, ap, subst, ◌∙◌, ℕ, ◌+◌, ◌<◌, List, [], ◌∷◌, ◌++◌, take, true, ◌⊎◌, inl, inr, Option, Some, None, Err, append-nil, Grows, AppendsPrefix, ReadFault}
use Rattle.fw_trace.proofs.Common.{NoMemory, header_bytes, Two, Command, End, Reading, Advances, TakesMore, Done, DeskRelations, log_bytes, BusView, Course, course_of}
use Rattle.fw_trace.proofs.Common.{RunEnding, Stopped, untold, Traced, begun, Part, PartsRun, AreLines, trace_text, Lack, Traces, HasLines, Tracing}
use Rattle.fw_script_command.specs.Form.{HasForm}
use Rattle.fw_script_command.specs.Pieces.{IsFree}
use Rattle.fw_script.specs.Line.{is_skipped}
use Rattle.fw_script.specs.Passing.{FailsThere, Passes}
use Rattle.fw_script.specs.Reader.{HoldsLine}
use Rattle.fw_script.specs.Reading.{IsAtEndOfInput, IsHeld}
use Rattle.fw_script.specs.declared.ScriptFault.TheVariants as Fault
use Rattle.fw_script.specs.declared.reader.passing.Said.TheVariants.{Nothing}
use Rattle.fw_script.specs.declared.stage.ReaderStage.TheVariants.{AfterEnd}
use Rattle.fw_script.proofs.LineLaws.{line_not_end}
use Rattle.fw_script.proofs.PassLaws.{pass_over}
use Rattle.fw_script_words.specs.Going.{to_read}
use Rattle.fw_script_words.proofs.Faults.{faulted}
use Rattle.fw_script_words.proofs.Passings.{going_looked, going_passed}
use Rattle.fw_trace_lines.specs.Lines.{line_text}
use Rattle.fw_trace.specs.Passed.{PassesBy}
use Rattle.fw_trace.specs.Tracing.{TracesOn, IsOver}
use Rattle.fw_trace.proofs.EndedLaws.{are_lines}
use Rattle.fw_trace.proofs.HeldLaws.{whole_known}
use Rattle.fw_trace.proofs.PartLaws.{kept_more, lines_following, lines_looked}
use Rattle.fw_trace.proofs.TextLaws.{told_more}

-- ---- a line that says nothing by itself

-- it was read
record Subsequent (left left' : Option (List ℕ)) (parts : List Part) (p q : Reading) (text : List ℕ) : Type 0 where
  lines : HasLines left left' (parts ++ Part.line text ∷ []) q
  over : IsOver q
  number : q.line ≡ p.line + 1
  shown : q.text ≡ text
  says : (is_skipped text ≡ true) ⊎ HasForm End text

line_after : (left left' : Option (List ℕ)) (parts : List Part) (p q : Reading) (n size : ℕ) (c : Command) → HasLines left left' parts p → IsOver p → HoldsLine p n size → Passes p n size Nothing c q
    → Subsequent left left' parts p q (take n p.rest)
line_after left left' parts p q n size c x over h (inl s) =
    let text = take n p.rest in
    subst (λ (z : Reading). Subsequent left left' parts p z text) (sym s.now) (record {
      lines = lines_following left left' parts p (Part.line text) text size refl refl (λ f. (f, tt)) x h.line;
      over = λ d. absurd (line_not_end p text size h.line (over d));
      number = refl;
      shown = refl;
      says = inl s.skipped;
    })
line_after left left' parts p q n size c x over h (inr e) =
    let text = take n p.rest in
    let b = lines_following left left' parts p (Part.line text) text size refl refl (λ f. (f, tt)) x h.line in
    subst (λ (z : Reading). Subsequent left left' parts p z text) (sym e.now) (record {
      lines = record { taken = b.taken; takes = b.takes; split = b.split; free = b.free; number = b.number; few = b.few; count = b.count };
      over = λ d. let wrong : AfterEnd ≡ Done = d in absurd cc;
      number = refl;
      shown = refl;
      says = inr e.form;
    })

-- it was told
pub line_told : {D : DeskRelations} {left left' held held' : Option (List ℕ)} {p : Reading} {bus : BusView} {tracer : Traced} {history : List ℕ}
    (t : Tracing D left left' held held' p bus tracer history)
    (q : Reading) (n size : ℕ) (c : Command) → HoldsLine p n size → Passes p n size Nothing c q → (held2 : Option (List ℕ)) → Grows held' held2 (tracer.text ++ line_text q.line q.text)
    → Tracing D left left' held held2 q bus (record { text = []; telling = tracer.telling }) history
line_told {D} {left} {left'} {held} {held'} {p} {bus} {tracer} t q n size c h s held2 grew =
    let text = take n p.rest in
    let b = line_after left left' t.parts p q n size c t.lines t.over h s in
    let g = going_passed D left left' (Some []) (Some t.after) p q bus t.going (pass_over p q n size c h s) in
    let course : course_of t.going ≡ course_of g.0 = sym g.1 in
    record {
      after = t.after;
      going = g.0;
      parts = t.parts ++ Part.line text ∷ [];
      run = PartsRun.and_line (subst (PartsRun t.parts) course t.run) text b.says;
      lines = b.lines;
      over = b.over;
      read = t.read ∙ ap (λ (k : Course). header_bytes Two ++ log_bytes 0 k.log) course;
      keeps = λ i. record { text = []; telling = (ap (λ (x : Traced). x.telling) t.keeps ∙ sym (kept_more untold t.parts (Part.line text))) i };
      told = told_more held held' held2 t.parts (Part.line text) (tracer.text ++ line_text q.line q.text) t.told grew
          (λ i. (t.keeps i).text ++ line_text ((b.number ∙ ap (λ (k : ℕ). k + 1) t.lines.number) i) (b.shown i));
    }

-- ---- a look

-- bytes were taken
pub tracing_looked : {D : DeskRelations} {left mid held held' : Option (List ℕ)} {p : Reading} {bus : BusView} {tracer : Traced} {history : List ℕ}
    (t : Tracing D left mid held held' p bus tracer history)
    (left' : Option (List ℕ)) (q : Reading) → TakesMore p q mid left' → q.stage ≡ p.stage → Tracing D left left' held held' q bus tracer history
tracing_looked {D} {left} {mid} {p = p} {bus = bus} t left' q m stage =
    let g = going_looked D left mid left' (Some []) (Some t.after) p q bus t.going m in
    let course : course_of t.going ≡ course_of g.0 = sym g.1 in
    record {
      after = t.after;
      going = g.0;
      parts = t.parts;
      run = subst (PartsRun t.parts) course t.run;
      lines = lines_looked left mid left' t.parts p q t.lines m;
      over = λ d. let e = t.over (sym stage ∙ d) in subst (λ (z : Reading). IsAtEndOfInput z) (sym (whole_known p q mid left' e.1 m)) e;
      read = t.read ∙ ap (λ (k : Course). header_bytes Two ++ log_bytes 0 k.log) course;
      keeps = t.keeps;
      told = t.told;
    }

-- the source failed
pub fault_traced : {D : DeskRelations} {left mid held held' : Option (List ℕ)} {p : Reading} {bus : BusView} {tracer : Traced} {history : List ℕ}
    (t : Tracing D left mid held held' p bus tracer history)
    (left' : Option (List ℕ)) (q : Reading) → Advances p q mid left' (Err Fault.ReadFault) → IsHeld (Err Fault.ReadFault) q → FailsThere p q mid left'
    → Traces D left left' held held' (Stopped ReadFault)
fault_traced {D} {left} {mid} {p = p} t left' q a cut f =
    let e = faulted left' q Fault.ReadFault t.going a cut in
    record {
      written = t.after;
      runs = e.runs;
      parts = t.parts;
      run = subst (PartsRun t.parts) (sym e.same) t.run;
      lines = are_lines left left' t.parts f.known (lines_looked left mid left' t.parts p f.known t.lines f.takes);
      left_out = subst (λ (z : Reading). IsFree 10 z.rest) f.now cut.0;
      grew = t.told;
    }

-- memory ran out before the line was carried out
pub lack_traced : {D : DeskRelations} {left left' held held' : Option (List ℕ)} {p : Reading} {bus : BusView} {tracer : Traced} {history : List ℕ}
    (t : Tracing D left left' held held' p bus tracer history)
    (now : Option (List ℕ)) → now ≡ held' → Traces D left left' held now (Stopped NoMemory)
lack_traced {D} {left} {left'} {held} {p = p} t now e =
    let whole : AppendsPrefix held now (trace_text t.parts) = record {
      prefix = trace_text t.parts;
      rest = [];
      parts = sym (append-nil (trace_text t.parts));
      appended = subst (λ (o : Option (List ℕ)). Grows held o (trace_text t.parts)) (sym e) t.told;
    } in
    record {
      parts = t.parts;
      course = course_of t.going;
      run = t.run;
      given = t.going.given;
      begun = [];
      begins = tt;
      lines = subst (AreLines left left') (sym (append-nil t.parts)) (are_lines left left' t.parts p t.lines);
      grew = subst (λ (ps : List Part). AppendsPrefix held now (trace_text ps)) (sym (append-nil t.parts)) whole;
    }

-- the measure goes on from before a look
pub measured : (D : DeskRelations) (left left' held held' : Option (List ℕ)) (p q reader : Reading) (bus : BusView) (tracer : Traced) (history : List ℕ) (r : Option RunEnding) → to_read q ≡ to_read p
    → TracesOn D left left' held held' q reader bus tracer history r → TracesOn D left left' held held' p reader bus tracer history r
measured D left left' held held' p q reader bus tracer history None e x = (x.0, subst (λ (n : ℕ). to_read reader < n) e x.1)
measured D left left' held held' p q reader bus tracer history (Some ending) e x = x

-- a line that says nothing was not told whole
pub line_stops : (lack : Lack) (mid now : Option (List ℕ)) (faults faults' : ℕ) (before : List ℕ) (n number : ℕ) (l text : List ℕ) → n ≡ number → l ≡ text
    → PassesBy (Err lack) mid now faults faults' (before ++ line_text n l) → PassesBy (Err lack) mid now faults faults' (before ++ line_text number text)
line_stops lack mid now faults faults' before n number l text e f p =
    subst (λ (t : List ℕ). PassesBy (Err lack) mid now faults faults' (before ++ t)) (λ i. line_text (e i) (f i)) p
