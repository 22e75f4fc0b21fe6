-- A trace whose run was cut off by a write that failed.
use Rattle.fw_trace.proofs.Common.{◌≡◌, refl, sym, ap, subst, ◌∙◌, ℕ, Bool, List, [], ◌∷◌, ◌++◌, Option, Some, None, Ok, append_assoc, append-nil, Grows, AppendsPrefix, Timed, Command, Reading}
use Rattle.fw_trace.proofs.Common.{Advances, Commands, Done, DeskRelations, BusView, Course, course_of, caused_text, untold, Traced, begun, lines_from, last_lines, telling_following, Part, PartsRun}
use Rattle.fw_trace.proofs.Common.{AreLines, part_text, lines_of, trace_text, GrowsPrefix, WasPassed, ToldPart, TellsPrefix, Begun, HasLines, kept_from}
use Rattle.fw_outside.proofs.Parts.{then_prefix}
use Rattle.fw_model_run.specs.Actions.{Action}
use Rattle.fw_model_run.specs.Deeds.{Transitions}
use Rattle.fw_model_run.specs.Given.{AreGiven}
use Rattle.fw_script_words.specs.Ending.{PartLogged, Began}
use Rattle.fw_trace_lines.proofs.LoopLaws.{caused_append}
use Rattle.fw_trace_lines.specs.Commands.{command_lines}
use Rattle.fw_trace.specs.Traces.{IsBegun}
use Rattle.fw_trace.proofs.EndedLaws.{are_lines}
use Rattle.fw_trace.proofs.PrefixLaws.{part_told}
use Rattle.fw_trace.proofs.HeldLaws.{end_given, none_done}
use Rattle.fw_trace.proofs.PartLaws.{lines_looked, text_more}
use Rattle.fw_trace.proofs.PassedLaws.{prefix_of, grows_prefix_more}
use Rattle.fw_trace.proofs.TracedLaws.{line_carried, lines_end}

-- the text of a whole command begins with that of its entries
whole_prefix : (held held' : Option (List ℕ)) (origin : Traced) (out : List Timed) (whole : List ℕ) → GrowsPrefix held held' (origin.text ++ caused_text (lines_from origin.telling out))
    → whole ≡ origin.text ++ caused_text (command_lines origin.telling out) → GrowsPrefix held held' whole
whole_prefix held held' origin out whole x e =
    let first = lines_from origin.telling out in
    let last = last_lines (telling_following origin.telling out) in
    grows_prefix_more held held' (origin.text ++ caused_text first) (caused_text last) whole x
    (append_assoc origin.text (caused_text first) (caused_text last) ∙ ap (λ (l : List ℕ). origin.text ++ l) (sym (caused_append first last)) ∙ sym e)

-- a prefix of one part more was told
prefix_more : (held start held' : Option (List ℕ)) (parts : List Part) (part : Part) → Grows held start (trace_text parts)
    → GrowsPrefix start held' (part_text (lines_of 0 parts) (kept_from untold parts) part) → AppendsPrefix held held' (trace_text (parts ++ part ∷ []))
prefix_more held start held' parts part x y =
    let text = part_text (lines_of 0 parts) (kept_from untold parts) part in
    subst (λ (l : List ℕ). AppendsPrefix held held' l) (sym (text_more 0 untold parts part)) (then_prefix held start held' (trace_text parts) text x (prefix_of start held' text y))

-- what a run has come to that was cut off
abbrev pub cut_course : {D : DeskRelations} {left left' held held' : Option (List ℕ)} → PartLogged D left left' held held' → Course
cut_course p = record { commands = p.commands; actions = p.actions; log = p.log; state = p.state }

module _ {D : DeskRelations} {left mid left' held start held' : Option (List ℕ)} {reader : Reading} {bus : BusView} {origin : Traced} {earlier history : List ℕ} {c : Command} {place : Option (ℕ × ℕ)}
    (line : Option (List ℕ)) (b : Begun D left mid held start reader bus origin earlier line c place) (p : PartLogged D left left' (Some []) (Some history))
    (same : cut_course p ≡ course_of b.going) where
  with_parts : (parts : List Part) → IsBegun D (cut_course p) parts → AreLines left left' (b.parts ++ parts) → AppendsPrefix held held' (trace_text (b.parts ++ parts))
      → TellsPrefix D left left' held held'
  with_parts parts begins lines grew = record {
    parts = b.parts;
    course = cut_course p;
    run = subst (PartsRun b.parts) (sym same) b.run;
    given = subst (λ (k : Course). AreGiven D k.actions) (sym same) b.going.given;
    begun = parts;
    begins = begins;
    lines = lines;
    grew = grew;
  }

  -- a command was begun
  with_part : (reader' : Reading) (part : Part) → IsBegun D (cut_course p) (part ∷ []) → HasLines left left' (b.parts ++ part ∷ []) reader'
      → GrowsPrefix start held' (origin.text ++ caused_text (lines_from origin.telling p.out))
      → part_text (lines_of 0 b.parts) (kept_from untold b.parts) part ≡ origin.text ++ caused_text (command_lines origin.telling p.out) → TellsPrefix D left left' held held'
  with_part reader' part begins lines told e =
      with_parts (part ∷ []) begins (are_lines left left' (b.parts ++ part ∷ []) reader' lines)
      (prefix_more held start held' b.parts part b.told (whole_prefix start held' origin p.out (part_text (lines_of 0 b.parts) (kept_from untold b.parts) part) told e))

-- by what stands next
cut_by : {D : DeskRelations} {left mid left' held start held' : Option (List ℕ)} {reader reader' : Reading} {bus : BusView} {origin : Traced} {earlier history : List ℕ} {c : Command}
    {place : Option (ℕ × ℕ)}
    (line : Option (List ℕ)) (b : Begun D left mid held start reader bus origin earlier line c place) (p : PartLogged D left left' (Some []) (Some history)) → cut_course p ≡ course_of b.going
    → GrowsPrefix start held' (origin.text ++ caused_text (lines_from origin.telling p.out))
    → (o : Option Command) → p.begun ≡ o → Advances reader reader' mid left' (Ok o) → Began o p.state p.done → TellsPrefix D left left' held held'
cut_by {D} {left} {mid} {left'} {held} {start} {held'} {reader} {reader'} {origin = origin} {c = c} None b p same told None e a began =
    let none : p.out ≡ [] = (subst (λ (d : List Action). Transitions p.state d p.out p.after) began p.steps).0 in
    let nothing : origin.text ++ caused_text (lines_from origin.telling p.out) ≡ [] = λ i. b.text i ++ caused_text (lines_from origin.telling (none i)) in
    let all = then_prefix held start held' (trace_text b.parts) [] b.told (prefix_of start held' [] (subst (λ (l : List ℕ). GrowsPrefix start held' l) nothing told)) in
    with_parts None b p same [] tt
    (subst (λ (ps : List Part). AreLines left left' ps) (sym (append-nil b.parts)) (are_lines left left' b.parts a.known (lines_looked left mid left' b.parts reader a.known b.lines a.takes)))
    (subst (λ (ps : List Part). AppendsPrefix held held' (trace_text ps)) (sym (append-nil b.parts)) (subst (λ (l : List ℕ). AppendsPrefix held held' l) (append-nil (trace_text b.parts)) all))
cut_by {D} {left} {mid} {left'} {reader = reader} {reader' = reader'} {origin = origin} {c = c} None b p same told (Some other) e a began =
    let gave = end_given reader reader' mid left' other a c b.gives in
    let before = kept_from untold b.parts in
    let from : origin.telling ≡ before = b.kept ∙ ap (λ (d : Command). begun d before) b.gives.0 in
    with_part None b p same reader' (Part.end p.out)
    (refl, (p.done, p.after, subst (λ (d : Command). Began (Some d) p.state p.done) gave.is began, p.given, p.steps))
    (lines_end left mid left' b.parts p.out reader reader' a.takes.taken b.lines a.takes.takes gave.none gave.now) told
    (λ i. sym b.text i ++ caused_text (command_lines (sym from i) p.out))
cut_by {mid = mid} {left' = left'} {reader = reader} {reader' = reader'} (Some text) b p same told None e a began =
    let (size, l, said, stage, form, not_end) = b.gives in
    let wrong : Commands ≡ Done = sym stage ∙ none_done reader reader' mid left' a in
    absurd cc
cut_by {D} {left} {mid} {left'} {reader = reader} {reader' = reader'} {origin = origin} {c = c} {place = place} (Some text) b p same told (Some other) e a began =
    let (size, l, said, stage, form, not_end) = b.gives in
    let carried = line_carried reader reader' left mid left' b.parts text size c other p.out place b.lines l said stage form not_end a in
    with_part (Some text) b p same reader' (Part.command text c p.out place)
    (refl, form, (p.done, p.after, subst (λ (d : Command). Began (Some d) p.state p.done) carried.0 began, p.given, p.steps))
    carried.1 told (λ i. sym b.text i ++ caused_text (command_lines (sym b.kept i) p.out))

pub cut_traced : {D : DeskRelations} {left mid left' held start held' : Option (List ℕ)} {reader reader' : Reading} {bus : BusView} {origin : Traced} {earlier history : List ℕ} {c : Command}
    {place : Option (ℕ × ℕ)}
    (line : Option (List ℕ)) (b : Begun D left mid held start reader bus origin earlier line c place) (p : PartLogged D left left' (Some []) (Some history)) → cut_course p ≡ course_of b.going
    → Advances reader reader' mid left' (Ok p.begun) → (failed : Bool) (faults faults' : ℕ) (given : List ℕ) → WasPassed failed start held' faults faults' given
    → ∥ ToldPart origin earlier history given ∥₁
    → TellsPrefix D left left' held held'
cut_traced {start = start} {held' = held'} {origin = origin} line b p same a failed faults faults' given passed told =
    cut_by line b p same (part_told b.going p (ap (λ (k : Course). k.log) same) origin given b.read failed start held' faults faults' passed told) p.begun refl a p.began
