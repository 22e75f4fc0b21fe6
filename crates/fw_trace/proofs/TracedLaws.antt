-- A trace goes on after a command that was carried out.
use Rattle.fw_trace.proofs.Common.{◌≡◌, refl, sym, ap, subst, ◌∙◌, ℕ, List, [], ◌∷◌, ◌++◌, false, inl, inr, Option, Some, None, Ok, Err, append-nil, Grows, Grows-Grows, Timed, Command, End, Reading}
use Rattle.fw_trace.proofs.Common.{TakesMore, Advances, following, ReaderStage, Commands, Done, DeskRelations, BusView, course_of, Telling, caused_text, untold, Traced, begun, lines_from, last_lines}
use Rattle.fw_trace.proofs.Common.{telling_following, Part, PartsRun, lines_of, part_text, HasLines, Begun, Tracing, kept_from}
use Rattle.std.proofs.Common.{◌≢◌}
use Rattle.fw_outside.specs.Outside.{Takes}
use Rattle.fw_outside.proofs.Parts.{Takes-Takes}
use Rattle.fw_script_command.specs.Form.{HasForm}
use Rattle.fw_script.specs.Line.{is_skipped}
use Rattle.fw_script.specs.Reading.{Answer, IsLine, GivesFirst, command as on_line, GivesNext, at_stage}
use Rattle.fw_script.proofs.GivesLaws.{gives_once}
use Rattle.fw_script.proofs.LineLaws.{line_more}
use Rattle.fw_model_run.specs.Rules.{Decides}
use Rattle.fw_script_words.specs.Going.{Carried}
use Rattle.fw_trace_lines.specs.Commands.{ended, command_lines, jobs_given}
use Rattle.fw_trace.specs.Parts.{place_of, bytes_of}
use Rattle.fw_trace.specs.Tracing.{IsOver, IsSplit}
use Rattle.fw_trace.proofs.HeldLaws.{end_given}
use Rattle.fw_trace.proofs.PartLaws.{free_more, lines_looked, lines_following, lines_more, bytes_more, kept_more}
use Rattle.fw_trace.proofs.RunLaws.{going_bytes}
use Rattle.fw_trace.proofs.TextLaws.{command_text, told_more}

-- a line that is held stays the next one if more is taken
line_known : (p known : Reading) (left left' : Option (List ℕ)) (text : List ℕ) (size : ℕ) → TakesMore p known left left' → IsLine p text size → IsLine known text size
line_known p known left left' text size m l = subst (λ (q : Reading). IsLine q text size) (sym m.now) (line_more p text m.taken known.whole size m.kept l)

stage_known : (p known : Reading) (left left' : Option (List ℕ)) → TakesMore p known left left' → known.stage ≡ p.stage
stage_known p known left left' m = ap (λ (q : Reading). q.stage) m.now

gives_at_commands : (s : ReaderStage) (known new : Reading) (r : Answer) → s ≡ Commands → GivesNext s known r new → GivesFirst known r new
gives_at_commands s known new r e g = subst (λ (t : ReaderStage). GivesNext t known r new) e g

over_following : (p : Reading) (text : List ℕ) (size : ℕ) → p.stage ≡ Commands → IsOver (following p text size)
over_following p text size e = λ d. let wrong : Commands ≡ Done = sym e ∙ d in absurd cc

-- the command of an answer, if it has one
abbrev command_in : Answer → Command → Command
command_in (Ok (Some d)) e = d
command_in (Ok None) e = e
command_in (Err f) e = e

-- the command that was given is that of the line, and the reading stands after it
pub line_carried : (p new : Reading) (left mid left' : Option (List ℕ)) (parts : List Part) (text : List ℕ) (size : ℕ) (c other : Command) (entries : List Timed) (place : Option (ℕ × ℕ))
    → HasLines left mid parts p → IsLine p text size → is_skipped text ≡ false → p.stage ≡ Commands → HasForm c text → c ≢ End
    → Advances p new mid left' (Ok (Some other)) → (other ≡ c) × HasLines left left' (parts ++ Part.command text c entries place ∷ []) new × IsOver new
line_carried p new left mid left' parts text size c other entries place x l said stage form not_end a =
    let known = a.known in
    let l' = line_known p known mid left' text size a.takes l in
    let stage' : known.stage ≡ Commands = stage_known p known mid left' a.takes ∙ stage in
    let first : GivesFirst known (Ok (Some c)) (following known text size) = on_line c text size l' said stage' form not_end in
    let second : GivesFirst known (Ok (Some other)) new = gives_at_commands p.stage known new (Ok (Some other)) stage a.gives in
    let same = gives_once first second (λ e. cc) (λ e. cc) in (
      sym (ap (λ (a : Answer). command_in a c) same.0),
      subst (HasLines left left' (parts ++ Part.command text c entries place ∷ [])) same.1
          (lines_following left left' parts known (Part.command text c entries place) text size refl refl (λ f. (f, tt)) (lines_looked left mid left' parts p known x a.takes) l'),
      subst (λ (q : Reading). IsOver q) same.1 (over_following known text size stage'),
    )

-- it was told with what it caused
pub line_traced : {D : DeskRelations} {left mid left' held start written written' : Option (List ℕ)} {reader reader' : Reading} {bus bus' : BusView} {origin : Traced} {earlier history : List ℕ}
    {text : List ℕ} {c : Command} {place : Option (ℕ × ℕ)} (b : Begun D left mid held start reader bus origin earlier (Some text) c place)
    (k : Carried D left mid left' (Some []) (Some history) written written' (course_of b.going) reader reader' bus')
    (given : List ℕ) (now end : Traced) (held1 held2 : Option (List ℕ))
    → given ++ now.text ≡ origin.text ++ caused_text (lines_from origin.telling k.out) → now.telling ≡ telling_following origin.telling k.out
    → Grows start held1 given → Grows held1 held2 (now.text ++ caused_text (last_lines now.telling))
    → end.text ≡ [] → end.telling ≡ ended c place now.telling
    → Tracing D left left' held held2 reader' bus' end history
line_traced {D} {left} {mid} {left'} {held} {start} {reader = reader} {reader' = reader'} {origin = origin} {history = history} {text = text} {c = c}
    {place = place} b k given now end held1 held2 t1 t2 g1 g2 e1 e2 =
    let (size, l, said, stage, form, not_end) = b.gives in
    let carried = line_carried reader reader' left mid left' b.parts text size c k.command k.out (place_of k.order) b.lines l said stage form not_end k.reads in
    let decided : Decides b.going.state c (Ok k.order) = subst (λ (d : Command). Decides b.going.state d (Ok k.order)) carried.0 k.decided in
    let part = Part.command text c k.out (place_of k.order) in
    let ran = PartsRun.and_command b.run text c k.order k.more k.out k.going.state form not_end decided k.carries in
    let commands = sym (k.commands ∙ ap (λ (d : Command). b.going.commands ++ d ∷ []) carried.0) in
    let before = kept_from untold b.parts in
    let course : record { commands = b.going.commands ++ c ∷ []; actions = b.going.actions ++ k.more; log = b.going.log ++ k.out; state = k.going.state } ≡ course_of k.going =
    λ i. record { commands = commands i; actions = sym k.actions i; log = sym k.longer i; state = k.going.state } in
    let kept : end.telling ≡ kept_from untold (b.parts ++ part ∷ []) =
    e2 ∙ ap (ended c place) (t2 ∙ ap (λ (o : Telling). telling_following o k.out) b.kept)
    ∙ ap (λ (q : Option (ℕ × ℕ)). ended c q (telling_following (begun c before) k.out)) (b.placed k.order decided) ∙ sym (kept_more untold b.parts part) in
    let told : given ++ (now.text ++ caused_text (last_lines now.telling)) ≡ part_text (lines_of 0 b.parts) before part =
    ap (λ (q : Telling). given ++ (now.text ++ caused_text (last_lines q))) t2 ∙ command_text given now.text origin k.out t1
    ∙ (λ i. b.text i ++ caused_text (command_lines (b.kept i) k.out)) in
    record {
      after = history;
      going = k.going;
      parts = b.parts ++ part ∷ [];
      run = subst (PartsRun (b.parts ++ part ∷ [])) course ran;
      lines = carried.1;
      over = carried.2;
      read = going_bytes k.going;
      keeps = λ i. record { text = e1 i; telling = kept i };
      told = told_more held start held2 b.parts part (given ++ (now.text ++ caused_text (last_lines now.telling))) b.told
          (Grows-Grows start held1 held2 given (now.text ++ caused_text (last_lines now.telling)) g1 g2) told;
    }

-- ---- the end

split_end : (taken : List ℕ) (parts : List Part) (out : List Timed) (p : Reading) → IsSplit taken parts p → IsSplit taken (parts ++ Part.end out ∷ []) (at_stage p Done)
split_end taken parts out p (inl e) = inl (e ∙ ap (λ (l : List ℕ). l ++ p.rest) (sym (bytes_more parts (Part.end out ∷ []) ∙ append-nil (bytes_of parts))))
split_end taken parts out p (inr (e, none, whole)) = inr (e ∙ sym (bytes_more parts (Part.end out ∷ []) ∙ append-nil (bytes_of parts)), none, whole)

pub lines_end : (left mid left' : Option (List ℕ)) (parts : List Part) (out : List Timed) (p new : Reading) (taken : List ℕ) → HasLines left mid parts p → Takes mid left' taken → taken ≡ []
    → new ≡ at_stage p Done
    → HasLines left left' (parts ++ Part.end out ∷ []) new
lines_end left mid left' parts out p new taken x t none now =
    let takes : Takes left left' x.taken =
    subst (λ (l : List ℕ). Takes left left' l) (append-nil x.taken) (Takes-Takes left mid left' x.taken [] x.takes (subst (λ (l : List ℕ). Takes mid left' l) none t)) in
    subst (HasLines left left' (parts ++ Part.end out ∷ [])) (sym now) (record {
      taken = x.taken;
      takes = takes;
      split = split_end x.taken parts out p x.split;
      free = free_more parts (Part.end out) x.free tt;
      number = x.number ∙ sym (lines_more 0 parts (Part.end out));
      few = x.few;
      count = x.count;
    })

ended_end : (place : Option (ℕ × ℕ)) (t : Telling) → ended End place t ≡ ended End None t
unfolding jobs_given
ended_end None t = refl
ended_end (Some place) t = refl

-- it was told with what it caused
pub end_traced : {D : DeskRelations} {left mid left' held start written written' : Option (List ℕ)} {reader reader' : Reading} {bus bus' : BusView} {origin : Traced} {earlier history : List ℕ}
    {c : Command} {place : Option (ℕ × ℕ)} (b : Begun D left mid held start reader bus origin earlier None c place)
    (k : Carried D left mid left' (Some []) (Some history) written written' (course_of b.going) reader reader' bus')
    (given : List ℕ) (now end : Traced) (held1 held2 : Option (List ℕ))
    → given ++ now.text ≡ origin.text ++ caused_text (lines_from origin.telling k.out) → now.telling ≡ telling_following origin.telling k.out
    → Grows start held1 given → Grows held1 held2 (now.text ++ caused_text (last_lines now.telling))
    → end.text ≡ [] → end.telling ≡ ended c place now.telling
    → Tracing D left left' held held2 reader' bus' end history
end_traced {D} {left} {mid} {left'} {held} {start} {reader = reader} {reader' = reader'} {origin = origin} {history = history} {c = c} {place = place} b k given now end held1 held2 t1 t2 g1 g2 e1 e2 =
    let gave = end_given reader reader' mid left' k.command k.reads c b.gives in
    let decided : Decides b.going.state End (Ok k.order) = subst (λ (d : Command). Decides b.going.state d (Ok k.order)) gave.is k.decided in
    let part = Part.end k.out in
    let ran = PartsRun.and_end b.run k.order k.more k.out k.going.state decided k.carries in
    let commands = sym (k.commands ∙ ap (λ (d : Command). b.going.commands ++ d ∷ []) gave.is) in
    let before = kept_from untold b.parts in
    let course : record { commands = b.going.commands ++ End ∷ []; actions = b.going.actions ++ k.more; log = b.going.log ++ k.out; state = k.going.state } ≡ course_of k.going =
    λ i. record { commands = commands i; actions = sym k.actions i; log = sym k.longer i; state = k.going.state } in
    let from : origin.telling ≡ before = b.kept ∙ ap (λ (d : Command). begun d before) b.gives.0 in
    let kept : end.telling ≡ kept_from untold (b.parts ++ part ∷ []) =
    e2 ∙ ap (λ (d : Command). ended d place now.telling) b.gives.0 ∙ ended_end place now.telling
    ∙ ap (ended End None) (t2 ∙ ap (λ (o : Telling). telling_following o k.out) from) ∙ sym (kept_more untold b.parts part) in
    let told : given ++ (now.text ++ caused_text (last_lines now.telling)) ≡ part_text (lines_of 0 b.parts) before part =
    ap (λ (q : Telling). given ++ (now.text ++ caused_text (last_lines q))) t2 ∙ command_text given now.text origin k.out t1
    ∙ (λ i. b.text i ++ caused_text (command_lines (from i) k.out)) in
    record {
      after = history;
      going = k.going;
      parts = b.parts ++ part ∷ [];
      run = subst (PartsRun (b.parts ++ part ∷ [])) course ran;
      lines = lines_end left mid left' b.parts k.out reader reader' k.reads.takes.taken b.lines k.reads.takes.takes gave.none gave.now;
      over = subst (λ (q : Reading). IsOver q) (sym gave.now) (λ d. gave.over);
      read = going_bytes k.going;
      keeps = λ i. record { text = e1 i; telling = kept i };
      told = told_more held start held2 b.parts part (given ++ (now.text ++ caused_text (last_lines now.telling))) b.told
          (Grows-Grows start held1 held2 given (now.text ++ caused_text (last_lines now.telling)) g1 g2) told;
    }
