-- A script without its line `end`: whole lines, which say its commands.
use Rattle.fw_explore_laws.proofs.Common.{ℕ, zero, suc, ◌≡◌, ◌≤◌, ◌<◌, ◌==◌, not, List, [], ◌∷◌, ◌++◌, Bool, true, false, Option, Some, None, Ok, length, codes, inl, inr, refl, sym, ap, subst, ◌∙◌}
use Rattle.fw_explore_laws.proofs.Common.{append_assoc, arith, and_parts, HasForm, Command, End, IsScript}
use Rattle.std.proofs.Common.{drop}
use Rattle.std.specs.List.{filter}
use Rattle.std.proofs.lemmas.Slice.Eq.{bytes_eq-Decides}
use Rattle.fw_script_command.specs.Pieces.{onto}
use Rattle.fw_script_command.proofs.FormLaws.{one_form}
use Rattle.fw_script.specs.Line.{is_skipped}
use Rattle.fw_script.specs.Reading.{Reading, Answer, GivesFirst, IsLine, EndsLine, following}
use Rattle.fw_script.specs.Reading.GivesFirst.{skipped, command, end_line, bad_line, long_line, too_long, end_of_input, no_end, read_fault}
use Rattle.fw_script.specs.Script.{Refusal, Says}
use Rattle.fw_script.specs.Script.Says.{ends, refuses, goes_on}
use Rattle.fw_script.specs.declared.stage.ReaderStage.{ReaderStage}
use Rattle.fw_script.specs.declared.stage.ReaderStage.TheVariants.{Commands, AfterEnd}
use Rattle.fw_explore_laws.specs.Rest.{lines_in, joined, is_end, without_end, has_short_lines}
use Rattle.fw_explore_laws.proofs.Lines.{AreLines, no_line, skips, says, is_one_line, free_line, lines_cut, short_both, end_form}
use Rattle.fw_explore_laws.proofs.Forms.{end_text}

-- the lines that are left of these
abbrev pub kept_of : List (List ℕ) → List ℕ
kept_of lines = joined (filter (λ line. not (is_end line)) lines)

kept_on : (text : List ℕ) (lines : List (List ℕ)) → is_end text ≡ false → kept_of (text ∷ lines) ≡ text ++ 10 ∷ kept_of lines
kept_on text lines other = rw other (append_assoc text (10 ∷ []) (kept_of lines))

kept_by : (text : List ℕ) (lines : List (List ℕ)) → is_end text ≡ true → kept_of (text ∷ lines) ≡ kept_of lines
kept_by text lines same = rw same refl

-- ---- the next line of a reading is the first of its lines

lines_last : (b : ℕ) (text : List ℕ) → is_one_line (b ∷ text) ≡ true → lines_in (b ∷ text) ≡ (b ∷ text) ∷ []
lines_last b [] one =
    let parts = and_parts (not (b == 10)) true one in
    let other : (b == 10) ≡ false = grind arith in
    rw other refl
lines_last b (c ∷ text) one =
    let parts = and_parts (not (b == 10)) (is_one_line (c ∷ text)) one in
    let other : (b == 10) ≡ false = grind arith in
    rw other (ap (onto b) (lines_last c text parts.1))

line_alone : (text : List ℕ) → is_one_line text ≡ true → 0 < length text → lines_in text ≡ text ∷ []
line_alone [] one some = absurd (omega (arith, some))
line_alone (b ∷ text) one some = lines_last b text one

drop_whole : (text : List ℕ) (n : ℕ) → n ≡ length text → drop n text ≡ []
drop_whole [] zero e = refl
drop_whole [] (suc n) e = refl
drop_whole (b ∷ text) zero e = absurd (omega (arith, e))
drop_whole (b ∷ text) (suc n) e = drop_whole text n (omega (arith, e))

first_line : (p : Reading) (text : List ℕ) (size : ℕ) → p.whole ≡ true → IsLine p text size → lines_in p.rest ≡ text ∷ lines_in (following p text size).rest
first_line p text size whole line = by line.ends
  where
    by : EndsLine p text size → lines_in p.rest ≡ text ∷ lines_in (drop size p.rest)
    by (inl e) = ap lines_in e.0 ∙ lines_cut text (drop size p.rest) (free_line text line.free)
    by (inr e) =
        ap lines_in e.0 ∙ line_alone text (free_line text line.free) (omega (arith, e.2, e.3))
        ∙ ap (λ (l : List ℕ). text ∷ lines_in l) (sym (ap (drop size) e.0 ∙ drop_whole text size e.2))

-- What is left of the lines from here on says these commands, and each is short enough.
record Leaves (bytes : List ℕ) (cs : List Command) : Type 0 where
  pub lines : AreLines (kept_of (lines_in bytes)) cs
  pub short : has_short_lines (kept_of (lines_in bytes)) ≡ true

leaves_on : (bytes text rest : List ℕ) (cs : List Command) → lines_in bytes ≡ text ∷ lines_in rest → is_end text ≡ false → is_one_line text ≡ true → length text ≤ 256 → is_skipped text ≡ true
    → Leaves rest cs → Leaves bytes cs
leaves_on bytes text rest cs at other one few skip l =
    let is : kept_of (lines_in bytes) ≡ text ++ 10 ∷ kept_of (lines_in rest) = ap kept_of at ∙ kept_on text (lines_in rest) other in
    record {
      lines = subst (λ (b : List ℕ). AreLines b cs) (sym is) (skips text skip one l.lines);
      short = ap has_short_lines is ∙ short_both text (kept_of (lines_in rest)) one few l.short;
    }

leaves_said : (bytes text rest : List ℕ) (c : Command) (cs : List Command) → lines_in bytes ≡ text ∷ lines_in rest → is_end text ≡ false → is_one_line text ≡ true → length text ≤ 256
    → is_skipped text ≡ false → HasForm c text → (c ≡ End → ⊥) → Leaves rest cs → Leaves bytes (c ∷ cs)
leaves_said bytes text rest c cs at other one few told form goes l =
    let is : kept_of (lines_in bytes) ≡ text ++ 10 ∷ kept_of (lines_in rest) = ap kept_of at ∙ kept_on text (lines_in rest) other in
    record {
      lines = subst (λ (b : List ℕ). AreLines b (c ∷ cs)) (sym is) (says c text told one form goes l.lines);
      short = ap has_short_lines is ∙ short_both text (kept_of (lines_in rest)) one few l.short;
    }

leaves_by : (bytes text rest : List ℕ) (cs : List Command) → lines_in bytes ≡ text ∷ lines_in rest → is_end text ≡ true → Leaves rest cs → Leaves bytes cs
leaves_by bytes text rest cs at same l =
    let is : kept_of (lines_in bytes) ≡ kept_of (lines_in rest) = ap kept_of at ∙ kept_by text (lines_in rest) same in
    record { lines = subst (λ (b : List ℕ). AreLines b cs) (sym is) l.lines; short = ap has_short_lines is ∙ l.short }

leaves_none : (bytes : List ℕ) → bytes ≡ [] → Leaves bytes []
leaves_none bytes e = record { lines = subst (λ (b : List ℕ). AreLines (kept_of (lines_in b)) []) (sym e) no_line; short = ap (λ (b : List ℕ). has_short_lines (kept_of (lines_in b))) e }

-- ---- which lines are left

skip_other : (text : List ℕ) → is_skipped text ≡ true → is_end text ≡ false
skip_other text skip = go (is_end text) refl
  where
    go : (b : Bool) → is_end text ≡ b → is_end text ≡ false
    go false e = e
    go true e = absurd (let h : false ≡ true = ap is_skipped (sym ((bytes_eq-Decides text (codes "end")).0 e)) ∙ skip in cc)

form_other : (c : Command) (text : List ℕ) → HasForm c text → (c ≡ End → ⊥) → is_end text ≡ false
form_other c text form other = go (is_end text) refl
  where
    go : (b : Bool) → is_end text ≡ b → is_end text ≡ false
    go false e = e
    go true e = absurd (other (one_form c End text form (subst (HasForm End) (sym ((bytes_eq-Decides text (codes "end")).0 e)) end_form)))

end_same : (text : List ℕ) → HasForm End text → is_end text ≡ true
end_same text form = (bytes_eq-Decides text (codes "end")).1 (end_text text form)

-- ---- what the lines give

not_both : {X : Type 0} (s : ReaderStage) → s ≡ Commands → s ≡ AfterEnd → X
not_both s a b = absurd (let h : Commands ≡ AfterEnd = sym a ∙ b in cc)

-- after `end` there are remarks alone
gives_last : {p q : Reading} {a : Answer} → GivesFirst p a q → a ≡ Ok (Some End) → p.stage ≡ AfterEnd → p.whole ≡ true → Leaves p.rest []
gives_last {p = p} (skipped text size line skip g) e stage whole =
    leaves_on p.rest text (following p text size).rest [] (first_line p text size whole line) (skip_other text skip) (free_line text line.free) line.short skip (gives_last g e stage whole)
gives_last {p = p} (command c text size line told at form other) e stage whole = not_both p.stage at stage
gives_last {p = p} (end_line text size line told at form g) e stage whole = not_both p.stage at stage
gives_last (bad_line text size line told why) e stage whole = absurd cc
gives_last (long_line l) e stage whole = absurd cc
gives_last (too_long l) e stage whole = absurd cc
gives_last {p = p} (end_of_input at after) e stage whole = leaves_none p.rest at.0
gives_last (no_end at after) e stage whole = absurd cc
gives_last read_fault e stage whole = absurd cc

-- after `end` no other command is given
gives_no_other : {p q : Reading} {a : Answer} (c : Command) → GivesFirst p a q → a ≡ Ok (Some c) → (c ≡ End → ⊥) → p.stage ≡ AfterEnd → ⊥
gives_no_other c (skipped text size line skip g) e other stage = gives_no_other c g e other stage
gives_no_other {p = p} c (command d text size line told at form on) e other stage = not_both p.stage at stage
gives_no_other {p = p} c (end_line text size line told at form g) e other stage = not_both p.stage at stage
gives_no_other c (bad_line text size line told why) e other stage = cc
gives_no_other c (long_line l) e other stage = cc
gives_no_other c (too_long l) e other stage = cc
gives_no_other c (end_of_input at after) e other stage = other (let h : c ≡ End = cc in h)
gives_no_other c (no_end at after) e other stage = cc
gives_no_other c read_fault e other stage = cc

gives_end : {p q : Reading} {a : Answer} → GivesFirst p a q → a ≡ Ok (Some End) → p.stage ≡ Commands → p.whole ≡ true → Leaves p.rest []
gives_end {p = p} (skipped text size line skip g) e stage whole =
    leaves_on p.rest text (following p text size).rest [] (first_line p text size whole line) (skip_other text skip) (free_line text line.free) line.short skip (gives_end g e stage whole)
gives_end (command c text size line told at form other) e stage whole = absurd (other (let h : c ≡ End = cc in h))
gives_end {p = p} (end_line text size line told at form g) e stage whole =
    leaves_by p.rest text (following p text size).rest [] (first_line p text size whole line) (end_same text form) (gives_last g e refl whole)
gives_end (bad_line text size line told why) e stage whole = absurd cc
gives_end (long_line l) e stage whole = absurd cc
gives_end (too_long l) e stage whole = absurd cc
gives_end {p = p} (end_of_input at after) e stage whole = not_both p.stage stage after
gives_end (no_end at after) e stage whole = absurd cc
gives_end read_fault e stage whole = absurd cc

-- what comes before the lines that are left after a command
record Goes (p q : Reading) (c : Command) : Type 0 where
  stage : q.stage ≡ Commands
  whole : q.whole ≡ true
  leaves : (cs : List Command) → Leaves q.rest cs → Leaves p.rest (c ∷ cs)

gives_on : {p q : Reading} {a : Answer} (c : Command) → GivesFirst p a q → a ≡ Ok (Some c) → (c ≡ End → ⊥) → p.stage ≡ Commands → p.whole ≡ true → Goes p q c
gives_on {p = p} c (skipped text size line skip g) e other stage whole =
    let o = gives_on c g e other stage whole in
    record {
      stage = o.stage;
      whole = o.whole;
      leaves = λ cs l. leaves_on p.rest text (following p text size).rest (c ∷ cs) (first_line p text size whole line) (skip_other text skip) (free_line text line.free) line.short skip
          (o.leaves cs l);
    }
gives_on {p = p} c (command d text size line told at form on) e other stage whole =
    let same : d ≡ c = cc in
    record {
      stage = stage;
      whole = whole;
      leaves = λ cs l. leaves_said p.rest text (following p text size).rest c cs (first_line p text size whole line) (form_other d text form on) (free_line text line.free) line.short told
          (subst (λ k. HasForm k text) same form) other l;
    }
gives_on {p = p} c (end_line text size line told at form g) e other stage whole = absurd (gives_no_other c g e other refl)
gives_on c (bad_line text size line told why) e other stage whole = absurd cc
gives_on c (long_line l) e other stage whole = absurd cc
gives_on c (too_long l) e other stage whole = absurd cc
gives_on {p = p} c (end_of_input at after) e other stage whole = not_both p.stage stage after
gives_on c (no_end at after) e other stage whole = absurd cc
gives_on c read_fault e other stage whole = absurd cc

no_snoc : (cs : List Command) (c : Command) → [] ≡ cs ++ c ∷ [] → ⊥
no_snoc [] c e = cc
no_snoc (d ∷ cs) c e = cc

none_last : (cs : List Command) → End ∷ [] ≡ cs ++ End ∷ [] → cs ≡ []
none_last [] e = refl
none_last (c ∷ cs) e = absurd (no_snoc cs End (let h : [] ≡ cs ++ End ∷ [] = cc in h))

says_left : {p : Reading} {cs : List Command} {r : Option Refusal} → Says p cs r → r ≡ None → (commands : List Command) → cs ≡ commands ++ End ∷ [] → p.stage ≡ Commands → p.whole ≡ true
    → Leaves p.rest commands
says_left {p = p} (ends g) none commands e stage whole = subst (Leaves p.rest) (sym (none_last commands e)) (gives_end g refl stage whole)
says_left (refuses g told) none commands e stage whole = absurd cc
says_left (goes_on {c = c} g other s) none [] e stage whole = absurd (other (let h : c ≡ End = cc in h))
says_left {p = p} (goes_on {q = q} {c = c} {cs = cs} g other s) none (d ∷ commands) e stage whole =
    let same : c ≡ d = cc in
    let rest : cs ≡ commands ++ End ∷ [] = cc in
    let o = gives_on c g refl other stage whole in
    subst (λ k. Leaves p.rest (k ∷ commands)) same (o.leaves commands (says_left s none commands rest o.stage o.whole))

-- A script without its line `end` is whole lines, which say its other commands.
pub prefix_lines : (script : List ℕ) (commands : List Command) → IsScript script (commands ++ End ∷ []) None → AreLines (without_end script) commands × (has_short_lines (without_end script) ≡ true)
prefix_lines script commands s = let l = says_left s refl commands refl refl refl in (l.lines, l.short)
