-- How many entries a trace tells.
use Rattle.fw_trace.proofs.Common.{◌≡◌, refl, sym, ap, ◌∙◌, ◌+◌, List, [], ◌∷◌, ◌++◌, None, append_assoc, arith, append-nil, Timed, ReadFault, WriteFault, TooLong, NoMemory, DeskRelations, Course}
use Rattle.fw_trace.proofs.Common.{Refused, Stopped, Telling, untold, begun, Part, PartsRun, kept_from}
use Rattle.fw_script_words.specs.declared.ending.RunEnding.TheVariants.{Done}
use Rattle.fw_trace_names.specs.CausedLines.{Caused}
use Rattle.fw_trace_lines.specs.Laws.{entries_told, entries_due}
use Rattle.fw_trace_lines.proofs.CountLaws.{tells_all}
use Rattle.fw_trace.specs.Laws.{part_lines, caused_lines, LeavesNothingOut, EndsAsItsRun}
use Rattle.fw_trace.specs.Parts.{kept_after}
use Rattle.fw_trace.specs.Parts.PartsRun.{first, and_line, and_command, and_end}

told_append : (a b : List Caused) → entries_told (a ++ b) ≡ entries_told a + entries_told b
told_append [] b = omega arith
told_append (l ∷ ls) b = let e = told_append ls b in omega (arith, e)

due_append : (a b : List Timed) → entries_due (a ++ b) ≡ entries_due a + entries_due b
due_append [] b = omega arith
due_append (t ∷ ts) b = let e = due_append ts b in omega (arith, e)

lines_more : (t : Telling) (ps : List Part) (p : Part) → caused_lines t (ps ++ p ∷ []) ≡ caused_lines t ps ++ part_lines (kept_from t ps) p
lines_more t [] p = append-nil (part_lines t p)
lines_more t (q ∷ ps) p =
    ap (λ (l : List Caused). part_lines t q ++ l) (lines_more (kept_after t q) ps p)
    ∙ sym (append_assoc (part_lines t q) (caused_lines (kept_after t q) ps) (part_lines (kept_from (kept_after t q) ps) p))

-- no request is held back between two parts
none_held : (t : Telling) (ps : List Part) → t.held ≡ None → (kept_from t ps).held ≡ None
none_held t [] e = e
none_held t (Part.line text ∷ ps) e = none_held t ps e
none_held t (Part.command text c entries place ∷ ps) e = none_held (kept_after t (Part.command text c entries place)) ps refl
none_held t (Part.end entries ∷ ps) e = none_held (kept_after t (Part.end entries)) ps refl

-- a part more
told_more : (ps : List Part) (p : Part) (log out : List Timed) → entries_told (caused_lines untold ps) ≡ entries_due log → entries_told (part_lines (kept_from untold ps) p) ≡ entries_due out
    → entries_told (caused_lines untold (ps ++ p ∷ [])) ≡ entries_due (log ++ out)
told_more ps p log out e f =
    ap entries_told (lines_more untold ps p) ∙ told_append (caused_lines untold ps) (part_lines (kept_from untold ps) p) ∙ (λ i. e i + f i) ∙ sym (due_append log out)

all_told : {ps : List Part} {k : Course} → PartsRun ps k → entries_told (caused_lines untold ps) ≡ entries_due k.log
all_told first = refl
all_told (and_line {parts} {k} r text s) =
    told_more parts (Part.line text) k.log [] (all_told r) refl ∙ ap entries_due (append-nil k.log)
all_told (and_command {parts} {k} r text c o more out t form other decided carries) =
    let before = kept_from untold parts in
    told_more parts (Part.command text c out _) k.log out (all_told r) (tells_all (begun c before) out (none_held untold parts refl))
all_told (and_end {parts} {k} r o more out t decided carries) =
    told_more parts (Part.end out) k.log out (all_told r) (tells_all (kept_from untold parts) out (none_held untold parts refl))

pub leaves_nothing_out : (D : DeskRelations) → LeavesNothingOut D
leaves_nothing_out D left left' held held' ending t = all_told t.run

pub ends_as_its_run : (D : DeskRelations) → EndsAsItsRun D
ends_as_its_run D left left' held held' Done t = (t.written, t.runs)
ends_as_its_run D left left' held held' (Refused r) t = (t.written, t.runs)
ends_as_its_run D left left' held held' (Stopped ReadFault) t = (t.written, t.runs)
ends_as_its_run D left left' held held' (Stopped WriteFault) t = tt
ends_as_its_run D left left' held held' (Stopped TooLong) t = (t.written, t.runs)
ends_as_its_run D left left' held held' (Stopped NoMemory) t = tt
