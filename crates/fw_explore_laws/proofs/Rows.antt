-- Each row is the rest of a script.
use Rattle.fw_explore_laws.proofs.Common.{ℕ, ◌≡◌, ◌+◌, ◌≤◌, ◌==◌, List, [], ◌∷◌, ◌++◌, true, Some, None, codes, length, refl, sym, ap, subst, ◌∙◌, append_assoc, arith, Command, End, DeskRelations}
use Rattle.fw_explore_laws.proofs.Common.{State, IsScript, MoverKind, HalfSteps, Once, Explored}
use Rattle.std.proofs.Common.{length-append}
use Rattle.std.proofs.lemmas.Option.{get_or_from_slice_get, slice_get_within}
use Rattle.fw_explore_levels.specs.Counting.{most_told}
use Rattle.fw_explore_levels.specs.Schedules.{Schedule, begun, and_then}
use Rattle.fw_model_run.specs.Desks.{IsFunction}
use Rattle.fw_explore_movers.specs.Explored.{half_step_of}
use Rattle.fw_explore_told.specs.Telling.{remark}
use Rattle.fw_explore_endings.specs.declared.rows.Row.{Row}
use Rattle.fw_explore_endings.specs.Texts.{count_text, moves_text, rest_text, row_head, row_text}
use Rattle.fw_explore_meaning.specs.Moves.{Subsequent, IsAllowed, IsMove, commands_of, half_steps_in}
use Rattle.fw_explore_meaning.specs.Rows.{IsRow}
use Rattle.fw_explore_meaning.proofs.HistoryLaws.{half_more}
use Rattle.fw_explore_laws.specs.Rest.{has_short_lines, without_end}
use Rattle.fw_explore_laws.specs.Rests.{HasRoom, RowIsRest, RowsAreRests}
use Rattle.fw_explore_laws.proofs.Lines.{AreLines, AreShort, both_short, lines_then, short_prefix, short_then, skips, whole_script}
use Rattle.fw_explore_laws.proofs.Prefix.{prefix_lines}
use Rattle.fw_explore_laws.proofs.Texts.{IsOneLine, if_one, lit, more, none, number}
use Rattle.fw_explore_laws.proofs.Reading.{IsReadSo, read_so}
use Rattle.fw_explore_laws.proofs.Remarks.{entries_lines, left_lines, remark_lines, remarks_then}
use Rattle.fw_explore_laws.proofs.Carried.{as_run, carried_parts, carried_then, run_on, run_split}
use Rattle.fw_explore_laws.proofs.Gathered.{AreMovers, gathered, gathered_lines, gathered_runs, half_sum, half_sum_then, movers_then}
use Rattle.fw_explore_laws.proofs.Kept.{commands_in, kept_lines, kept_runs, refused_lines}

-- ---- schedules

record IsSo (x : Explored) (w : List ℕ) : Type 0 where
  movers : AreMovers x w
  sum : half_sum x w ≡ half_steps_in x w
  few : half_sum x w ≤ x.most

module _ (D : DeskRelations) (script : List Command) (x : Explored) where
  schedule_so : (w : List ℕ) → Schedule (IsMove D script x) w → IsSo x w
  schedule_so w begun = record { movers = tt; sum = refl; few = omega arith }
  schedule_so w (and_then {w = v} s p m) =
      let so = schedule_so v s in
      let step : half_sum x (v ++ p ∷ []) ≡ half_sum x v + half_step_of (Some m.mover) = half_sum_then x v p ∙ ap (λ o. half_sum x v + half_step_of o) m.is in
      let sum = so.sum in
      let few = so.few in
      record {
        movers = movers_then x v p so.movers (m.mover, m.is);
        sum = step ∙ ap (λ n. n + half_step_of (Some m.mover)) so.sum ∙ sym (half_more x v p m.mover m.is);
        few = let least = kind_few m.mover.kind refl m.allowed in omega (arith, step, sum, few, least);
      }
    where
      kind_few : (k : MoverKind) → m.mover.kind ≡ k → IsAllowed x v p m.mover m.out k → half_steps_in x v ≤ x.most → half_steps_in x v + half_step_of (Some m.mover) ≤ x.most
      kind_few HalfSteps e a low = rw e (omega (arith, a.1))
      kind_few Once e a low = rw e (omega (arith, low))

-- ---- the heading

count_one : (n : ℕ) → IsOneLine (count_text n)
count_one n = more (number n) (if_one (n == most_told) (lit (codes " or more") refl) none)

head_one : (n : ℕ) (r : Row) → IsOneLine (row_head n r)
head_one n r =
    more (more (more (more (more (more (lit (codes "ending ") refl) (number n)) (lit (codes ": ") refl))
    (more (more (more (lit (codes "ended ") refl) (count_one r.ended)) (lit (codes ", cut off ") refl)) (count_one r.cut)))
    (lit (codes "; first in ") refl)) (number (length r.first.items))) (lit (codes " moves") refl)

end_size : (text : List ℕ) → length ((text ++ codes "end") ++ 10 ∷ []) ≡ length text + 4
end_size text = let last = length-append (text ++ codes "end") (10 ∷ []) in let end = length-append text (codes "end") in omega (arith, last, end)

-- ---- a row

module _ (D : DeskRelations) (only : IsFunction D) (x : Explored) (read : IsReadSo x) (commands : List Command) (r : Row) (row : IsRow D commands x r) where
  so : IsSo x r.first.items
  so = schedule_so D commands x r.first.items row.sound.schedule

  -- the commands of the paragraph
  abbrev rest_of : List Command
  rest_of = gathered x r.first.items ++ commands_in row.lines.kept

  ending_lines : AreLines r.ending.items []
  ending_lines =
      let e = row.lines.ends in
      subst (λ (l : List ℕ). AreLines l []) (sym e.is)
      (remarks_then (remarks_then (entries_lines (e.moved ++ e.written)) (left_lines x r.first.items read.movers))
      (refused_lines D commands (commands_of x r.first.items) x.following.items e.written row.lines.kept e.refused e.finishes read.lines))

  moves_lines : AreShort (moves_text x r.first.items ++ r.lines.items) rest_of
  moves_lines =
      let e = row.lines.ends in
      let few = so.few in
      let most = read.most in
      both_short (gathered_lines x read.movers r.first.items (omega (arith, few, most)))
      (subst (λ (l : List ℕ). AreShort l (commands_in row.lines.kept)) (sym row.lines.lines)
      (kept_lines D commands (commands_of x r.first.items) x.following.items e.written row.lines.kept e.refused e.finishes read.lines))

  -- the remarks, and the lines after them
  abbrev head_text : ℕ → List ℕ
  head_text n = (10 ∷ remark (row_head n r)) ++ r.ending.items

  abbrev lines_text_of : List ℕ
  lines_text_of = moves_text x r.first.items ++ r.lines.items

  abbrev body_text : ℕ → List ℕ
  body_text n = head_text n ++ lines_text_of

  body_lines : (n : ℕ) → AreLines (body_text n) rest_of
  body_lines n = lines_then (remarks_then (skips [] refl refl (remark_lines (row_head n r) (head_one n r).is)) ending_lines) moves_lines.lines

  text_is : (n : ℕ) → row_text x n r ≡ (body_text n ++ codes "end") ++ 10 ∷ []
  text_is n =
      sym (append_assoc (head_text n) ((moves_text x r.first.items ++ r.lines.items) ++ codes "end") (10 ∷ []))
      ∙ ap (λ (l : List ℕ). l ++ 10 ∷ []) (sym (append_assoc (head_text n) (moves_text x r.first.items ++ r.lines.items) (codes "end")))

  after_is : (n : ℕ) (prefix : List ℕ) → prefix ++ row_text x n r ≡ ((prefix ++ body_text n) ++ codes "end") ++ 10 ∷ []
  after_is n prefix =
      ap (λ (l : List ℕ). prefix ++ l) (text_is n) ∙ sym (append_assoc prefix (body_text n ++ codes "end") (10 ∷ []))
      ∙ ap (λ (l : List ℕ). l ++ 10 ∷ []) (sym (append_assoc prefix (body_text n) (codes "end")))

  body_short : (n : ℕ) → has_short_lines (row_text x n r) ≡ true → has_short_lines (body_text n) ≡ true
  body_short n short = (short_prefix (body_lines n) (codes "end" ++ 10 ∷ []) (sym (ap has_short_lines (text_is n ∙ append_assoc (body_text n) (codes "end") (10 ∷ []))) ∙ short)).0

  body_within : (n : ℕ) (prefix : List ℕ) → length (prefix ++ row_text x n r) ≤ 1048576 → length (prefix ++ body_text n) + 4 ≤ 1048576
  body_within n prefix within =
      let size : length (prefix ++ row_text x n r) ≡ length (prefix ++ body_text n) + 4
      = ap length (after_is n prefix) ∙ end_size (prefix ++ body_text n) in
      omega (arith, size, within)

  paragraph_says : (n : ℕ) (script : List ℕ) → IsScript script (commands ++ End ∷ []) None → HasRoom script (row_text x n r)
      → IsScript (without_end script ++ row_text x n r) (commands ++ rest_of ++ End ∷ []) None
  paragraph_says n script says room =
      let prefix = prefix_lines script commands says in
      subst (λ (l : List ℕ). IsScript l (commands ++ rest_of ++ End ∷ []) None) (sym (after_is n (without_end script)))
      (whole_script (lines_then prefix.0 (body_lines n)) (short_then prefix.0 (body_text n) prefix.1 (body_short n room.short)) (body_within n (without_end script) room.within))

  -- ---- the lines alone

  lines_are : (prefix : List ℕ) → prefix ++ rest_text x r ≡ ((prefix ++ lines_text_of) ++ codes "end") ++ 10 ∷ []
  lines_are prefix =
      sym (append_assoc prefix (lines_text_of ++ codes "end") (10 ∷ [])) ∙ ap (λ (l : List ℕ). l ++ 10 ∷ []) (sym (append_assoc prefix lines_text_of (codes "end")))

  lines_within : (prefix : List ℕ) → length (prefix ++ rest_text x r) ≤ 1048576 → length (prefix ++ lines_text_of) + 4 ≤ 1048576
  lines_within prefix within =
      let size : length (prefix ++ rest_text x r) ≡ length (prefix ++ lines_text_of) + 4
      = ap length (lines_are prefix) ∙ end_size (prefix ++ lines_text_of) in
      omega (arith, size, within)

  lines_say : (script : List ℕ) → IsScript script (commands ++ End ∷ []) None → length (without_end script ++ rest_text x r) ≤ 1048576
      → IsScript (without_end script ++ rest_text x r) (commands ++ rest_of ++ End ∷ []) None
  lines_say script says within =
      let prefix = prefix_lines script commands says in
      subst (λ (l : List ℕ). IsScript l (commands ++ rest_of ++ End ∷ []) None) (sym (lines_are (without_end script)))
      (whole_script (lines_then prefix.0 moves_lines.lines) (short_then prefix.0 lines_text_of prefix.1 moves_lines.short) (lines_within (without_end script) within))

  -- ---- what it does

  paragraph_runs : (t : State) × Subsequent D commands rest_of (row.lines.ends.moved ++ row.lines.ends.written) t
  paragraph_runs =
      let e = row.lines.ends in
      let others = commands_in row.lines.kept in
      let k = kept_runs D commands only (commands_of x r.first.items) x.following.items e.written row.lines.kept e.refused e.finishes e.moved e.state e.moves in
      let b = k.1 in
      let s = run_split (commands_of x r.first.items ++ others) commands (commands ++ (commands_of x r.first.items ++ others)) b.whole.actions
      (b.earlier ++ (e.moved ++ e.written)) k.0 b.whole.run refl in
      let p = carried_parts (commands_of x r.first.items) others s.more s.later s.middle k.0 s.carried in
      let g = gathered_runs x read.movers r.first.items so.movers s.middle p.middle p.first p.now p.prefix in
      let c = carried_then (gathered x r.first.items) others p.first p.more p.now p.later s.middle p.middle k.0 g p.rest in
      let run = run_on rest_of commands s.early (p.first ++ p.more) s.prefix (p.now ++ p.later) s.middle k.0 s.run c in (
        k.0,
        record {
          earlier = b.earlier;
          middle = b.middle;
          prefix = b.prefix;
          whole = record {
            actions = b.whole.actions;
            run = as_run (ap (λ z. s.early ++ z) (sym p.actions_are) ∙ sym s.actions_are) (ap (λ z. s.prefix ++ z) (sym p.out_is) ∙ sym s.log_is) run;
            given = b.whole.given;
          };
        },
      )

  pub is_rest : (n : ℕ) (script : List ℕ) → IsScript script (commands ++ End ∷ []) None → RowIsRest D script commands x n r
  is_rest n script says = record {
    lines = λ within. record { rest = rest_of; says = lines_say script says within; told = row.lines; state = paragraph_runs.0; runs = paragraph_runs.1 };
    paragraph = λ room. record { rest = rest_of; says = paragraph_says n script says room; told = row.lines; state = paragraph_runs.0; runs = paragraph_runs.1 };
  }

pub rows_are_rests : (D : DeskRelations) → RowsAreRests D
rows_are_rests D only words x by script commands says rows ended cut longest e k r at =
    let row : IsRow D commands x r = subst (IsRow D commands x) (get_or_from_slice_get rows k r r at) (e.each k r (slice_get_within rows k r at)) in
    is_rest D only x (read_so words x by) commands r row (k + 1) script says
