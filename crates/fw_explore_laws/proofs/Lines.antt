-- Whole lines, none of which is refused, and what they say where they stand in a script.
use Rattle.fw_explore_laws.proofs.Common.{ℕ, zero, suc, ◌≡◌, ◌≢◌, ◌+◌, ◌≤◌, ◌==◌, ◌&&◌, not, nat_le, List, [], ◌∷◌, ◌++◌, Bool, true, false, Option, None, length, codes, inl, refl, sym, ap, subst}
use Rattle.fw_explore_laws.proofs.Common.{◌∙◌, append_assoc, arith, list_all, and_parts, nat_tests, HasForm, Command, End, IsScript}
use Rattle.std.proofs.Common.{drop}
use Rattle.std.proofs.Common.{length-append}
use Rattle.fw_script_command.specs.Pieces.{IsFree, onto}
use Rattle.fw_script_command.specs.declared.keyword.Keyword.TheVariants.{End as TheEnd}
use Rattle.fw_script.specs.Line.{is_skipped}
use Rattle.fw_script.specs.Reading.{Reading, IsLine, following}
use Rattle.fw_script.specs.Reading.GivesFirst.{skipped, command, end_line, end_of_input}
use Rattle.fw_script.specs.Script.{Refusal, Says, start_of}
use Rattle.fw_script.specs.Script.Says.{ends, refuses, goes_on}
use Rattle.fw_script.specs.declared.stage.ReaderStage.TheVariants.{Commands}
use Rattle.fw_explore_laws.specs.Rest.{lines_in, has_short_lines}

-- a text without a line feed
abbrev pub is_one_line : List ℕ → Bool
is_one_line text = list_all (λ b. not (b == 10)) text

pub line_free : (text : List ℕ) → is_one_line text ≡ true → IsFree 10 text
line_free [] one k lt = absurd (omega (arith, lt))
line_free (b ∷ text) one zero lt = differs (and_parts (not (b == 10)) (is_one_line text) one).0
  where
    differs : not (b == 10) ≡ true → b ≢ 10
    differs e = grind (arith, nat_tests)
line_free (b ∷ text) one (suc k) lt = line_free text (and_parts (not (b == 10)) (is_one_line text) one).1 k (omega (arith, lt))

pub free_line : (text : List ℕ) → IsFree 10 text → is_one_line text ≡ true
free_line [] free = refl
free_line (b ∷ text) free = both (differs (free 0 (omega arith))) (free_line text (λ k lt. free (suc k) (omega (arith, lt))))
  where
    differs : b ≢ 10 → not (b == 10) ≡ true
    differs n = grind (arith, nat_tests)

    both : {x y : Bool} → x ≡ true → y ≡ true → (x && y) ≡ true
    both e f = grind arith

-- Whole lines, none of which is refused nor ends a script: they say these commands.
pub data AreLines : List ℕ → List Command → Type 0 where
  no_line : AreLines [] []
  skips : {bytes : List ℕ} {cs : List Command} → (text : List ℕ) → is_skipped text ≡ true → is_one_line text ≡ true → AreLines bytes cs → AreLines (text ++ 10 ∷ bytes) cs
  says : {bytes : List ℕ} {cs : List Command} → (c : Command) → (text : List ℕ) → is_skipped text ≡ false → is_one_line text ≡ true → HasForm c text → (c ≡ End → ⊥)
      → AreLines bytes cs → AreLines (text ++ 10 ∷ bytes) (c ∷ cs)

pub lines_then : {a b : List ℕ} {cs ds : List Command} → AreLines a cs → AreLines b ds → AreLines (a ++ b) (cs ++ ds)
lines_then no_line more = more
lines_then {b = b} {cs = cs} {ds = ds} (skips {bytes = a} text skip one rest) more =
    subst (λ (l : List ℕ). AreLines l (cs ++ ds)) (sym (append_assoc text (10 ∷ a) b)) (skips text skip one (lines_then rest more))
lines_then {b = b} {ds = ds} (says {bytes = a} {cs = cs} c text told one form other rest) more =
    subst (λ (l : List ℕ). AreLines l (c ∷ cs ++ ds)) (sym (append_assoc text (10 ∷ a) b)) (says c text told one form other (lines_then rest more))

-- ---- the lines of bytes

pub lines_cut : (text bytes : List ℕ) → is_one_line text ≡ true → lines_in (text ++ 10 ∷ bytes) ≡ text ∷ lines_in bytes
lines_cut [] bytes one = refl
lines_cut (b ∷ text) bytes one =
    let parts = and_parts (not (b == 10)) (is_one_line text) one in
    let other : (b == 10) ≡ false = grind arith in
    rw other (ap (onto b) (lines_cut text bytes parts.1))

-- what is so of the lines of both, is so of those of each
pub short_parts : (text bytes : List ℕ) → is_one_line text ≡ true → has_short_lines (text ++ 10 ∷ bytes) ≡ true → (length text ≤ 256) × (has_short_lines bytes ≡ true)
short_parts text bytes one short =
    let parts = and_parts (nat_le (length text) 256) (has_short_lines bytes)
    (sym (ap (λ (ls : List (List ℕ)). list_all (λ line. nat_le (length line) 256) ls) (lines_cut text bytes one)) ∙ short) in
    (few parts.0, parts.1)
  where
    few : nat_le (length text) 256 ≡ true → length text ≤ 256
    few e = grind (arith, nat_tests)

pub short_both : (text bytes : List ℕ) → is_one_line text ≡ true → length text ≤ 256 → has_short_lines bytes ≡ true → has_short_lines (text ++ 10 ∷ bytes) ≡ true
short_both text bytes one few rest = ap (λ (ls : List (List ℕ)). list_all (λ line. nat_le (length line) 256) ls) (lines_cut text bytes one) ∙ both (fits few) rest
  where
    fits : length text ≤ 256 → nat_le (length text) 256 ≡ true
    fits e = grind (arith, nat_tests)

    both : {x y : Bool} → x ≡ true → y ≡ true → (x && y) ≡ true
    both e f = grind arith

short_after : (text a b : List ℕ) → is_one_line text ≡ true → (has_short_lines (a ++ b) ≡ true → (has_short_lines a ≡ true) × (has_short_lines b ≡ true))
    → has_short_lines ((text ++ 10 ∷ a) ++ b) ≡ true → (has_short_lines (text ++ 10 ∷ a) ≡ true) × (has_short_lines b ≡ true)
short_after text a b one later short =
    let parts = short_parts text (a ++ b) one (sym (ap has_short_lines (append_assoc text (10 ∷ a) b)) ∙ short) in
    let rest = later parts.1 in
    (short_both text a one parts.0 rest.0, rest.1)

pub short_prefix : {a : List ℕ} {cs : List Command} → AreLines a cs → (b : List ℕ) → has_short_lines (a ++ b) ≡ true → (has_short_lines a ≡ true) × (has_short_lines b ≡ true)
short_prefix no_line b short = (refl, short)
short_prefix (skips {bytes = a} text skip one rest) b short = short_after text a b one (λ e. short_prefix rest b e) short
short_prefix (says {bytes = a} c text told one form other rest) b short = short_after text a b one (λ e. short_prefix rest b e) short

pub short_then : {a : List ℕ} {cs : List Command} → AreLines a cs → (b : List ℕ) → has_short_lines a ≡ true → has_short_lines b ≡ true → has_short_lines (a ++ b) ≡ true
short_then no_line b first second = second
short_then (skips {bytes = a} text skip one rest) b first second =
    let parts = short_parts text a one first in
    ap has_short_lines (append_assoc text (10 ∷ a) b) ∙ short_both text (a ++ b) one parts.0 (short_then rest b parts.1 second)
short_then (says {bytes = a} c text told one form other rest) b first second =
    let parts = short_parts text a one first in
    ap has_short_lines (append_assoc text (10 ∷ a) b) ∙ short_both text (a ++ b) one parts.0 (short_then rest b parts.1 second)

-- whole lines of at most 256 bytes
pub record AreShort (bytes : List ℕ) (cs : List Command) : Type 0 where
  pub lines : AreLines bytes cs
  pub short : has_short_lines bytes ≡ true

pub none_short : AreShort [] []
none_short = record { lines = no_line; short = refl }

pub both_short : {a b : List ℕ} {cs ds : List Command} → AreShort a cs → AreShort b ds → AreShort (a ++ b) (cs ++ ds)
both_short {b = b} p q = record { lines = lines_then p.lines q.lines; short = short_then p.lines b p.short q.short }

-- ---- where they stand in a script

drop_line : (n : ℕ) (text rest : List ℕ) → n ≡ suc (length text) → drop n (text ++ 10 ∷ rest) ≡ rest
drop_line zero text rest e = absurd (omega (arith, e))
drop_line (suc zero) [] rest e = refl
drop_line (suc (suc n)) [] rest e = absurd (omega (arith, e))
drop_line (suc n) (b ∷ text) rest e = drop_line n text rest (omega (arith, e))

-- the next line of a reading, if it has a line feed
pub next_line : (p : Reading) (text rest : List ℕ) → p.rest ≡ text ++ 10 ∷ rest → is_one_line text ≡ true → length text ≤ 256 → p.before + (length text + 1) ≤ 1048576
    → IsLine p text (length text + 1)
next_line p text rest is one short within = record {
  ends = inl (is ∙ ap (λ (l : List ℕ). text ++ 10 ∷ l) (sym (drop_line (length text + 1) text rest (omega arith)) ∙ ap (drop (length text + 1)) (sym is)), refl);
  free = line_free text one;
  short = short;
  within = within;
}

pub following_line : (p : Reading) (text rest : List ℕ) → p.rest ≡ text ++ 10 ∷ rest → (following p text (length text + 1)).rest ≡ rest
following_line p text rest is = ap (drop (length text + 1)) is ∙ drop_line (length text + 1) text rest (omega arith)

-- a line that says nothing leaves what comes after it
pub says_after : {p : Reading} {cs : List Command} {r : Option Refusal} (text : List ℕ) (size : ℕ) → IsLine p text size → is_skipped text ≡ true → Says (following p text size) cs r → Says p cs r
says_after text size line skip (ends g) = ends (skipped text size line skip g)
says_after text size line skip (refuses g told) = refuses (skipped text size line skip g) told
says_after text size line skip (goes_on g other s) = goes_on (skipped text size line skip g) other s

-- the lines after these, wherever a reading has come to them
abbrev Onward : Reading → List ℕ → List ℕ → List Command → Option Refusal → Type 0
Onward p a more ds r = (q : Reading) → q.rest ≡ more → q.whole ≡ p.whole → q.stage ≡ Commands → q.before ≡ p.before + length a → Says q ds r

onward : (p : Reading) (text a more : List ℕ) (ds : List Command) (r : Option Refusal) → Onward p (text ++ 10 ∷ a) more ds r → Onward (following p text (length text + 1)) a more ds r
onward p text a more ds r on q rest whole stage before = on q rest whole stage (omega (arith, before, length-append text (10 ∷ a)))

-- Lines that stand in a script at its commands say theirs, and what comes after them.
pub lines_say : {a : List ℕ} {cs : List Command} → AreLines a cs → (p : Reading) (more : List ℕ) (ds : List Command) (r : Option Refusal) → p.rest ≡ a ++ more → p.stage ≡ Commands
    → has_short_lines a ≡ true → p.before + length a ≤ 1048576 → Onward p a more ds r → Says p (cs ++ ds) r
lines_say no_line p more ds r is stage short within on = on p is refl stage (omega arith)
lines_say (skips {bytes = a} text skip one rest) p more ds r is stage short within on =
    let parts = short_parts text a one short in
    let at = is ∙ append_assoc text (10 ∷ a) more in
    let long = length-append text (10 ∷ a) in
    says_after text (length text + 1) (next_line p text (a ++ more) at one parts.0 (omega (arith, within, long))) skip
    (lines_say rest (following p text (length text + 1)) more ds r (following_line p text (a ++ more) at) stage parts.1 (omega (arith, within, long)) (onward p text a more ds r on))
lines_say (says {bytes = a} c text told one form other rest) p more ds r is stage short within on =
    let parts = short_parts text a one short in
    let at = is ∙ append_assoc text (10 ∷ a) more in
    let long = length-append text (10 ∷ a) in
    goes_on (command c text (length text + 1) (next_line p text (a ++ more) at one parts.0 (omega (arith, within, long))) told stage form other) other
    (lines_say rest (following p text (length text + 1)) more ds r (following_line p text (a ++ more) at) stage parts.1 (omega (arith, within, long)) (onward p text a more ds r on))

-- ---- the end

pub end_form : HasForm End (codes "end")
end_form = record { first = codes "end"; others = []; keyword = TheEnd; words = refl; named = refl; arguments = (refl, refl) }

-- the line `end`, after which nothing stands
pub end_says : (q : Reading) → q.rest ≡ codes "end" ++ 10 ∷ [] → q.whole ≡ true → q.stage ≡ Commands → q.before + 4 ≤ 1048576 → Says q (End ∷ []) None
end_says q is whole stage within =
    ends (end_line (codes "end") 4 (next_line q (codes "end") [] is refl (omega arith) within) refl stage end_form
    (end_of_input (following_line q (codes "end") [] is, whole) refl))

-- Lines and `end` after them are a script.
pub whole_script : {a : List ℕ} {cs : List Command} → AreLines a cs → has_short_lines a ≡ true → length a + 4 ≤ 1048576 → IsScript (a ++ codes "end" ++ 10 ∷ []) (cs ++ End ∷ []) None
whole_script {a = a} lines short within =
    lines_say lines (start_of (a ++ codes "end" ++ 10 ∷ [])) (codes "end" ++ 10 ∷ []) (End ∷ []) None (append_assoc a (codes "end") (10 ∷ [])) refl short (omega (arith, within))
    (λ q rest whole stage before. end_says q rest whole stage (omega (arith, within, before)))
