-- A trace before its next line: what the line says, or that none stands next.
use Rattle.fw_trace.proofs.Common.{◌≡◌, refl, sym, ap, subst, ◌∙◌, ℕ, ◌+◌, List, [], ◌++◌, take, ◌⊎◌, inl, inr, Option, Some, None, Ok, Err, Grows}
use Rattle.fw_trace.proofs.Common.{Command, End, Reading, following, ReaderStage, Commands, Done, DeskRelations, BusView}
use Rattle.fw_trace.proofs.Common.{Traced, begun, trace_text, Begun, Tracing}
use Rattle.std.proofs.Common.{◌≢◌}
use Rattle.fw_script.specs.Passing.{HasNoLine, IsCommandNext, Passes}
use Rattle.fw_script.specs.Reader.{HoldsLine, IsOpen}
use Rattle.fw_script.specs.Reading.{IsLine, at_stage, refused}
use Rattle.fw_script.specs.Reading.GivesFirst.{end_of_input, long_line, no_end, too_long}
use Rattle.fw_script.specs.declared.ScriptFault.TheVariants as Fault
use Rattle.fw_script.specs.declared.reader.passing.Said.TheVariants.{Refused}
use Rattle.fw_script.specs.declared.stage.ReaderStage.TheVariants.{AfterEnd, Failed}
use Rattle.fw_script.proofs.LineLaws.{line_not_end}
use Rattle.fw_script.proofs.PassLaws.{refused_gives}
use Rattle.fw_model_run.specs.Rules.{Decides}
use Rattle.fw_order.specs.declared.order.Order.{Order}
use Rattle.fw_order.specs.declared.order.Order.TheVariants as order
use Rattle.fw_script_words.specs.Going.{IsUnderWay}
use Rattle.fw_trace_lines.specs.Lines.{line_text}
use Rattle.fw_trace.specs.Parts.{place_of}
use Rattle.fw_trace.specs.Tracing.{HoldsNoCommand, IsOver}

pub under_way : {D : DeskRelations} {left left' held held' : Option (List ℕ)} {reader : Reading} {bus : BusView} {tracer : Traced} {history : List ℕ}
    → Tracing D left left' held held' reader bus tracer history → IsUnderWay D left' reader bus
under_way {left = left} t = record { left = left; held = Some []; after = Some t.after; going = t.going }

-- ---- what stands next

pub none_next : (p : Reading) → p.stage ≢ Failed → HasNoLine p → (p.stage ≡ Done) ⊎ HoldsNoCommand p
none_next p unfailed (inl d) = inl d
none_next p unfailed (inr (inl l)) = inr (record { answer = Err Fault.LineTooLong; next = refused p (take 257 p.rest); gives = long_line l; none = refl })
none_next p unfailed (inr (inr (inl l))) = inr (record { answer = Err Fault.TooLong; next = at_stage p Failed; gives = too_long l; none = l })
none_next p unfailed (inr (inr (inr e))) = by p.stage refl
  where
    by : (s : ReaderStage) → p.stage ≡ s → (p.stage ≡ Done) ⊎ HoldsNoCommand p
    by Commands s = inr (record { answer = Err Fault.NoEnd; next = refused p []; gives = no_end e s; none = refl })
    by AfterEnd s = inr (record { answer = Ok (Some End); next = at_stage p Done; gives = end_of_input e s; none = (refl, e, refl) })
    by Done s = inl s
    by Failed s = absurd (unfailed s)

pub refused_next : (p q : Reading) (n size : ℕ) (c : Command) → HoldsLine p n size → Passes p n size Refused c q → (p.stage ≡ Done) ⊎ HoldsNoCommand p
refused_next p q n size c h s = inr (record { answer = Err Fault.BadLine; next = at_stage (following p (take n p.rest) size) Failed; gives = refused_gives p q n size c h s; none = refl })

-- where a line stands next lines are read
pub line_open : (p : Reading) (text : List ℕ) (size : ℕ) → p.stage ≢ Failed → IsOver p → IsLine p text size → IsOpen p.stage
line_open p text size unfailed over l = by p.stage refl
  where
    by : (s : ReaderStage) → p.stage ≡ s → IsOpen p.stage
    by Commands e = subst (λ (s : ReaderStage). IsOpen s) (sym e) tt
    by AfterEnd e = subst (λ (s : ReaderStage). IsOpen s) (sym e) tt
    by Done e = absurd (line_not_end p text size l (over e))
    by Failed e = absurd (unfailed e)

-- ---- before it is carried out

-- no command stands next
pub begun_alone : {D : DeskRelations} {left left' held held' : Option (List ℕ)} {reader : Reading} {bus : BusView} {tracer : Traced} {history : List ℕ}
    (t : Tracing D left left' held held' reader bus tracer history)
    → (reader.stage ≡ Done) ⊎ HoldsNoCommand reader → (start : Option (List ℕ)) (origin : Traced) (earlier : List ℕ) → start ≡ held' → origin ≡ tracer → earlier ≡ history
    → Begun D left left' held start reader bus origin earlier None End None
begun_alone {held = held} t none start origin earlier s o e = record {
  after = t.after;
  going = t.going;
  parts = t.parts;
  run = t.run;
  lines = t.lines;
  over = t.over;
  read = e ∙ t.read;
  text = ap (λ (x : Traced). x.text) (o ∙ t.keeps);
  kept = ap (λ (x : Traced). x.telling) (o ∙ t.keeps);
  told = subst (λ (x : Option (List ℕ)). Grows held x (trace_text t.parts)) (sym s) t.told;
  gives = (refl, none);
  placed = λ a d. let is : a ≡ order.End = d.0 in ap place_of (sym is);
}

-- a command stands next
pub begun_line : {D : DeskRelations} {left left' held held' : Option (List ℕ)} {reader : Reading} {bus : BusView} {tracer : Traced} {history : List ℕ}
    (t : Tracing D left left' held held' reader bus tracer history)
    (n size : ℕ) (c : Command) → HoldsLine reader n size → IsCommandNext reader reader (take n reader.rest) c
    → (start : Option (List ℕ)) (origin : Traced) (earlier : List ℕ) (number : ℕ) (place : Option (ℕ × ℕ))
    → start ≡ held' → number ≡ reader.line + 1 → origin.text ≡ tracer.text ++ line_text number (take n reader.rest) → origin.telling ≡ begun c tracer.telling → earlier ≡ history
    → ((o : Order) → Decides t.going.state c (Ok o) → place ≡ place_of o) → Begun D left left' held start reader bus origin earlier (Some (take n reader.rest)) c place
begun_line {held = held} {reader = reader} t n size c h s start origin earlier number place st num text kept e placed = record {
  after = t.after;
  going = t.going;
  parts = t.parts;
  run = t.run;
  lines = t.lines;
  over = t.over;
  read = e ∙ t.read;
  text = text ∙ (λ i. (t.keeps i).text ++ line_text ((num ∙ ap (λ (k : ℕ). k + 1) t.lines.number) i) (take n reader.rest));
  kept = kept ∙ ap (λ (x : Traced). begun c x.telling) t.keeps;
  told = subst (λ (x : Option (List ℕ)). Grows held x (trace_text t.parts)) (sym st) t.told;
  gives = (size, h.line, s.said, s.stage, s.form, s.other);
  placed = placed;
}
