-- How much of a script is taken beyond the lines that were read.
use Rattle.fw_script_words.proofs.Common.{◌≡◌, ℕ, ◌+◌, ◌≤◌, List, length, arith, refl, ap, ◌∙◌, Reading, Answer, GivesFirst, Command}
use Rattle.std.proofs.Common.{◌-◌, drop}
use Rattle.std.proofs.lemmas.List.{drop-drop, length-drop}
use Rattle.fw_script.specs.Reading.{following}
use Rattle.fw_script.specs.Reading.GivesFirst.{skipped, command, end_line, bad_line, long_line, too_long, end_of_input, no_end, read_fault}
use Rattle.fw_script.specs.Leading.{Leads}
use Rattle.fw_script.specs.Leading.Leads.{nothing, and_then}

-- a reading stands further on in the same bytes
pub record IsFurther (p q : Reading) : Type 0 where
  pub before : p.before ≤ q.before
  pub rest : q.rest ≡ drop (q.before - p.before) p.rest

-- so many bytes further on
by_size : (p q : Reading) (n : ℕ) → q.before ≡ p.before + n → q.rest ≡ drop n p.rest → IsFurther p q
by_size p q n moved left =
    let size : n ≡ q.before - p.before = omega (arith, moved) in
    record { before = omega (arith, moved); rest = left ∙ ap (λ (k : ℕ). drop k p.rest) size }

further_then : (p q z : Reading) → IsFurther p q → IsFurther q z → IsFurther p z
further_then p q z one two =
    let size : (q.before - p.before) + (z.before - q.before) ≡ z.before - p.before = omega (arith, one.before, two.before) in
    record {
      before = omega (arith, one.before, two.before);
      rest = two.rest ∙ ap (λ (l : List ℕ). drop (z.before - q.before) l) one.rest ∙ drop-drop (z.before - q.before) (q.before - p.before) p.rest ∙ ap (λ (k : ℕ). drop k p.rest) size;
    }

over : (p : Reading) (t : List ℕ) (n : ℕ) (z : Reading) → IsFurther (following p t n) z → IsFurther p z
over p t n z h = further_then p (following p t n) z (by_size p (following p t n) n refl refl) h

gives_further : {p : Reading} {r : Answer} {q : Reading} → GivesFirst p r q → IsFurther p q
gives_further {p = p} {q = q} (skipped t n a k g) = over p t n q (gives_further g)
gives_further {p = p} (command d t n a k i f o) = by_size p (following p t n) n refl refl
gives_further {p = p} {q = q} (end_line t n a k i f g) = let h = gives_further g in over p t n q (record { before = h.before; rest = h.rest })
gives_further {p = p} {q = q} (bad_line t n a k w) = by_size p q n refl refl
gives_further {p = p} {q = q} (long_line a) = by_size p q 0 (omega arith) refl
gives_further {p = p} {q = q} (too_long a) = by_size p q 0 (omega arith) refl
gives_further {p = p} {q = q} (end_of_input a i) = by_size p q 0 (omega arith) refl
gives_further {p = p} {q = q} (no_end a i) = by_size p q 0 (omega arith) refl
gives_further {p = p} {q = q} read_fault = by_size p q 0 (omega arith) refl

leads_further : {p q : Reading} {cs : List Command} → Leads p cs q → IsFurther p q
leads_further {p = p} nothing = by_size p p 0 (omega arith) refl
leads_further {p = p} (and_then {q = q} l c o next g) = further_then p q next (leads_further l) (gives_further g)

-- after what lines gave stands what is left of them
pub left_following : {p q z : Reading} {cs : List Command} {r : Answer} → p.before ≡ 0 → Leads p cs q → GivesFirst q r z → z.rest ≡ drop z.before p.rest
left_following {p = p} {q = q} {z = z} start l g =
    let h = further_then p q z (leads_further l) (gives_further g) in
    let size : z.before - p.before ≡ z.before = omega (arith, start) in
    h.rest ∙ ap (λ (k : ℕ). drop k p.rest) size

-- and so the bytes up to there and those held are all
pub all_held : (bytes rest : List ℕ) (before : ℕ) → rest ≡ drop before bytes → length bytes ≤ before + length rest
all_held bytes rest before is = omega (arith, ap (λ (l : List ℕ). length l) is, length-drop before bytes)
