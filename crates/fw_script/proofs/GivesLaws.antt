-- What lines give is one only, and stays so if more bytes are known.
use Rattle.std.proofs.Common.{◌≡◌, ◌≢◌, ◌⊎◌, inl, inr, ℕ, [], List, Bool, true, false, Some, Ok, Err, refl, ap, sym, subst, take, ◌++◌}
use Rattle.std.proofs.lemmas.List.{take-append-le}
use Rattle.fw_script.specs.Line.{is_skipped}
use Rattle.fw_script_command.specs.Form.{HasForm}
use Rattle.fw_script.specs.Reading.{Reading, Answer, GivesFirst, IsLine, IsAtEndOfInput, IsLongLine, PassesLimit, following, at_stage, refused, with_taken}
use Rattle.fw_script.specs.Reading.GivesFirst.{skipped, command, end_line, bad_line, long_line, too_long, end_of_input, no_end, read_fault}
use Rattle.fw_script_command.specs.declared.command.Command.{Command}
use Rattle.fw_script_command.specs.declared.command.Command.TheVariants.{End}
use Rattle.fw_script.specs.declared.ScriptFault.TheVariants.{BadLine, LineTooLong, NoEnd, ReadFault, TooLong}
use Rattle.fw_script.specs.declared.stage.ReaderStage.{ReaderStage}
use Rattle.fw_script.specs.declared.stage.ReaderStage.TheVariants.{Commands, AfterEnd, Done, Failed}
use Rattle.fw_script.specs.Reader.{IsCut, PassesOver}
use Rattle.fw_script.specs.Reader.PassesOver.{nowhere, over_skipped, over_end}
use Rattle.fw_script_command.proofs.FormLaws.{one_form}
use Rattle.fw_script.proofs.LineLaws.{IsMore, line_once, line_not_long, line_not_limit, line_not_end, long_not_limit, long_not_end, limit_not_end, line_more}
use Rattle.fw_script.proofs.LineLaws.{long_more, limit_more, end_more, following_more, cut_not_line, cut_not_long, cut_not_limit, cut_not_end}
use Rattle.fw_script.proofs.ReadingLaws.{gives_at}

-- why a line is refused
abbrev Refuses : ReaderStage → List ℕ → Type 0
Refuses stage t = (stage ≡ AfterEnd) ⊎ ((c : Command) → HasForm c t → ⊥)

-- what a line leads to
data Leads (p : Reading) (t : List ℕ) (n : ℕ) : Answer → Reading → Type 0 where
  on : {r : Answer} {q : Reading} → is_skipped t ≡ true → GivesFirst (following p t n) r q → Leads p t n r q
  said : (c : Command) → is_skipped t ≡ false → p.stage ≡ Commands → HasForm c t → c ≢ End → Leads p t n (Ok (Some c)) (following p t n)
  ended : {r : Answer} {q : Reading} → is_skipped t ≡ false → p.stage ≡ Commands → HasForm End t → GivesFirst (at_stage (following p t n) AfterEnd) r q → Leads p t n r q
  bad : is_skipped t ≡ false → Refuses p.stage t → Leads p t n (Err BadLine) (at_stage (following p t n) Failed)

leads_along : (p : Reading) (t u : List ℕ) (m n : ℕ) (r : Answer) (q : Reading) → IsLine p t m → IsLine p u n → Leads p u n r q → Leads p t m r q
leads_along p t u m n r q a b h =
    let e = line_once p u t n m b a in
    subst (λ (k : ℕ). Leads p t k r q) e.1 (subst (λ (l : List ℕ). Leads p l n r q) e.0 h)

at_line : (p : Reading) (t : List ℕ) (n : ℕ) → IsLine p t n → {r : Answer} {q : Reading} → r ≢ Err ReadFault → GivesFirst p r q → Leads p t n r q
at_line p t n a {r = r} {q = q} told (skipped u m b s g) = leads_along p t u n m r q a b (on s g)
at_line p t n a told (command c u m b s i f k) = leads_along p t u n m (Ok (Some c)) (following p u m) a b (said c s i f k)
at_line p t n a {r = r} {q = q} told (end_line u m b s i f g) = leads_along p t u n m r q a b (ended s i f g)
at_line p t n a told (bad_line u m b s w) = leads_along p t u n m (Err BadLine) (at_stage (following p u m) Failed) a b (bad s w)
at_line p t n a told (long_line b) = absurd (line_not_long p t n a b)
at_line p t n a told (too_long b) = absurd (line_not_limit p t n a b)
at_line p t n a told (end_of_input b s) = absurd (line_not_end p t n a b)
at_line p t n a told (no_end b s) = absurd (line_not_end p t n a b)
at_line p t n a told read_fault = absurd (told refl)

at_long : (p : Reading) → IsLongLine p → {r : Answer} {q : Reading} → r ≢ Err ReadFault → GivesFirst p r q → (Err LineTooLong ≡ r) × (refused p (take 257 p.rest) ≡ q)
at_long p a told (skipped u m b s g) = absurd (line_not_long p u m b a)
at_long p a told (command c u m b s i f k) = absurd (line_not_long p u m b a)
at_long p a told (end_line u m b s i f g) = absurd (line_not_long p u m b a)
at_long p a told (bad_line u m b s w) = absurd (line_not_long p u m b a)
at_long p a told (long_line b) = (refl, refl)
at_long p a told (too_long b) = absurd (long_not_limit p a b)
at_long p a told (end_of_input b s) = absurd (long_not_end p a b)
at_long p a told (no_end b s) = absurd (long_not_end p a b)
at_long p a told read_fault = absurd (told refl)

at_limit : (p : Reading) → PassesLimit p → {r : Answer} {q : Reading} → r ≢ Err ReadFault → GivesFirst p r q → (Err TooLong ≡ r) × (at_stage p Failed ≡ q)
at_limit p a told (skipped u m b s g) = absurd (line_not_limit p u m b a)
at_limit p a told (command c u m b s i f k) = absurd (line_not_limit p u m b a)
at_limit p a told (end_line u m b s i f g) = absurd (line_not_limit p u m b a)
at_limit p a told (bad_line u m b s w) = absurd (line_not_limit p u m b a)
at_limit p a told (long_line b) = absurd (long_not_limit p b a)
at_limit p a told (too_long b) = (refl, refl)
at_limit p a told (end_of_input b s) = absurd (limit_not_end p a b)
at_limit p a told (no_end b s) = absurd (limit_not_end p a b)
at_limit p a told read_fault = absurd (told refl)

-- what the input's end leads to
data EndLeads (p : Reading) : Answer → Reading → Type 0 where
  gives_end : p.stage ≡ AfterEnd → EndLeads p (Ok (Some End)) (at_stage p Done)
  lacks_end : p.stage ≡ Commands → EndLeads p (Err NoEnd) (refused p [])

at_end : (p : Reading) → IsAtEndOfInput p → {r : Answer} {q : Reading} → r ≢ Err ReadFault → GivesFirst p r q → EndLeads p r q
at_end p a told (skipped u m b s g) = absurd (line_not_end p u m b a)
at_end p a told (command c u m b s i f k) = absurd (line_not_end p u m b a)
at_end p a told (end_line u m b s i f g) = absurd (line_not_end p u m b a)
at_end p a told (bad_line u m b s w) = absurd (line_not_end p u m b a)
at_end p a told (long_line b) = absurd (long_not_end p b a)
at_end p a told (too_long b) = absurd (limit_not_end p b a)
at_end p a told (end_of_input b s) = gives_end s
at_end p a told (no_end b s) = lacks_end s
at_end p a told read_fault = absurd (told refl)

-- both are one
abbrev pub Same : Answer → Reading → Answer → Reading → Type 0
Same r q s z = (r ≡ s) × (q ≡ z)

after_skipped : {p : Reading} {t : List ℕ} {n : ℕ} {s : Answer} {z : Reading} (r : Answer) (q : Reading) → is_skipped t ≡ true → (GivesFirst (following p t n) s z → Same r q s z) → Leads p t n s z
    → Same r q s z
after_skipped r q k f (on h g) = f g
after_skipped r q k f (said c h i j l) = absurd cc
after_skipped r q k f (ended h i j g) = absurd cc
after_skipped r q k f (bad h w) = absurd cc

not_refused : (p : Reading) (t : List ℕ) (c : Command) {A : Type 0} → p.stage ≡ Commands → HasForm c t → Refuses p.stage t → A
not_refused p t c i f (inl e) = absurd cc
not_refused p t c i f (inr h) = absurd (h c f)

after_command : {p : Reading} {t : List ℕ} {n : ℕ} {s : Answer} {z : Reading} (c : Command) → is_skipped t ≡ false → p.stage ≡ Commands → HasForm c t → c ≢ End → Leads p t n s z
    → Same (Ok (Some c)) (following p t n) s z
after_command c k i f o (on h g) = absurd cc
after_command {t = t} c k i f o (said d h j e l) = (ap (λ (a : Command). Ok (Some a)) (one_form c d t f e), refl)
after_command {t = t} c k i f o (ended h j e g) = absurd (o (one_form c End t f e))
after_command {p = p} {t = t} c k i f o (bad h w) = not_refused p t c i f w

after_end_line : {p : Reading} {t : List ℕ} {n : ℕ} {s : Answer} {z : Reading} (r : Answer) (q : Reading) → is_skipped t ≡ false → p.stage ≡ Commands → HasForm End t
    → (GivesFirst (at_stage (following p t n) AfterEnd) s z → Same r q s z) → Leads p t n s z → Same r q s z
after_end_line r q k i f go (on h g) = absurd cc
after_end_line {t = t} r q k i f go (said d h j e l) = absurd (l (one_form d End t e f))
after_end_line r q k i f go (ended h j e g) = go g
after_end_line {p = p} {t = t} r q k i f go (bad h w) = not_refused p t End i f w

after_bad_line : {p : Reading} {t : List ℕ} {n : ℕ} {s : Answer} {z : Reading} → is_skipped t ≡ false → Refuses p.stage t → Leads p t n s z → Same (Err BadLine) (at_stage (following p t n) Failed) s z
after_bad_line k w (on h g) = absurd cc
after_bad_line {p = p} {t = t} k w (said d h j e l) = not_refused p t d j e w
after_bad_line {p = p} {t = t} k w (ended h j e g) = not_refused p t End j e w
after_bad_line k w (bad h v) = (refl, refl)

after_input : {p : Reading} {s : Answer} {z : Reading} → p.stage ≡ AfterEnd → EndLeads p s z → Same (Ok (Some End)) (at_stage p Done) s z
after_input i (gives_end j) = (refl, refl)
after_input i (lacks_end j) = absurd cc

after_no_end : {p : Reading} {s : Answer} {z : Reading} → p.stage ≡ Commands → EndLeads p s z → Same (Err NoEnd) (refused p []) s z
after_no_end i (gives_end j) = absurd cc
after_no_end i (lacks_end j) = (refl, refl)

pub gives_once : {p : Reading} {r s : Answer} {q z : Reading} → GivesFirst p r q → GivesFirst p s z → r ≢ Err ReadFault → s ≢ Err ReadFault → Same r q s z
gives_once {p = p} {r = r} {q = q} (skipped t n a k g) h m o = after_skipped r q k (λ g2. gives_once g g2 m o) (at_line p t n a o h)
gives_once {p = p} (command c t n a k i f e) h m o = after_command c k i f e (at_line p t n a o h)
gives_once {p = p} {r = r} {q = q} (end_line t n a k i f g) h m o = after_end_line r q k i f (λ g2. gives_once g g2 m o) (at_line p t n a o h)
gives_once {p = p} (bad_line t n a k w) h m o = after_bad_line k w (at_line p t n a o h)
gives_once {p = p} (long_line a) h m o = at_long p a o h
gives_once {p = p} (too_long a) h m o = at_limit p a o h
gives_once {p = p} (end_of_input a i) h m o = after_input i (at_end p a o h)
gives_once {p = p} (no_end a i) h m o = after_no_end i (at_end p a o h)
gives_once read_fault h m o = absurd (m refl)

-- more bytes after leave what lines give as it is
pub gives_with : {p : Reading} {r : Answer} {q : Reading} → (more : List ℕ) (whole : Bool) → IsMore p more whole → GivesFirst p r q → GivesFirst (with_taken p more whole) r (with_taken q more whole)
gives_with {p = p} {r = r} {q = q} more whole none (skipped t n a k g) =
    skipped t n (line_more p t more whole n none a) k (subst (λ (z : Reading). GivesFirst z r (with_taken q more whole)) (sym (following_more p t more whole n a)) (gives_with more whole none g))
gives_with {p = p} more whole none (command c t n a k i f o) =
    gives_at (with_taken p more whole) (following (with_taken p more whole) t n) (with_taken (following p t n) more whole) (Ok (Some c)) (sym (following_more p t more whole n a))
    (command c t n (line_more p t more whole n none a) k i f o)
gives_with {p = p} {r = r} {q = q} more whole none (end_line t n a k i f g) =
    end_line t n (line_more p t more whole n none a) k i f (subst (λ (z : Reading). GivesFirst (at_stage z AfterEnd) r (with_taken q more whole)) (sym (following_more p t more whole n a))
    (gives_with more whole none g))
gives_with {p = p} more whole none (bad_line t n a k w) =
    gives_at (with_taken p more whole) (at_stage (following (with_taken p more whole) t n) Failed) (at_stage (with_taken (following p t n) more whole) Failed) (Err BadLine)
    (ap (λ (z : Reading). at_stage z Failed) (sym (following_more p t more whole n a))) (bad_line t n (line_more p t more whole n none a) k w)
gives_with {p = p} more whole none (long_line a) =
    gives_at (with_taken p more whole) (refused (with_taken p more whole) (take 257 (p.rest ++ more))) (with_taken (refused p (take 257 p.rest)) more whole) (Err LineTooLong)
    (ap (λ (t : List ℕ). refused (with_taken p more whole) t) (sym (take-append-le 257 p.rest more a.long))) (long_line (long_more p more whole a))
gives_with {p = p} more whole none (too_long a) = too_long (limit_more p more whole a)
gives_with {p = p} more whole none (end_of_input a i) = end_of_input (end_more p more whole none a) i
gives_with {p = p} more whole none (no_end a i) = no_end (end_more p more whole none a) i
gives_with more whole none read_fault = read_fault

-- whether the end was met stays
pub gives_whole : {p : Reading} {r : Answer} {q : Reading} → GivesFirst p r q → q.whole ≡ p.whole
gives_whole (skipped t n a k g) = gives_whole g
gives_whole (command c t n a k i f o) = refl
gives_whole (end_line t n a k i f g) = gives_whole g
gives_whole (bad_line t n a k w) = refl
gives_whole (long_line a) = refl
gives_whole (too_long a) = refl
gives_whole (end_of_input a i) = refl
gives_whole (no_end a i) = refl
gives_whole read_fault = refl

-- if a prefix of a line is held, and not its end, lines give nothing
pub cut_gives : {p : Reading} {r : Answer} {q : Reading} → IsCut p → GivesFirst p r q → r ≢ Err ReadFault → ⊥
cut_gives {p = p} c (skipped t n a k g) told = cut_not_line p t n c a
cut_gives {p = p} c (command d t n a k i f o) told = cut_not_line p t n c a
cut_gives {p = p} c (end_line t n a k i f g) told = cut_not_line p t n c a
cut_gives {p = p} c (bad_line t n a k w) told = cut_not_line p t n c a
cut_gives {p = p} c (long_line a) told = cut_not_long p c a
cut_gives {p = p} c (too_long a) told = cut_not_limit p c a
cut_gives {p = p} c (end_of_input a i) told = cut_not_end p c a
cut_gives {p = p} c (no_end a i) told = cut_not_end p c a
cut_gives c read_fault told = told refl

-- what is given from here on is given after the lines that are passed over
skipped_gives : {p : Reading} {t : List ℕ} {n : ℕ} {r : Answer} {z : Reading} → is_skipped t ≡ true → Leads p t n r z → GivesFirst (following p t n) r z
skipped_gives k (on h g) = g
skipped_gives k (said c h i j l) = absurd cc
skipped_gives k (ended h i j g) = absurd cc
skipped_gives k (bad h w) = absurd cc

end_gives : {p : Reading} {t : List ℕ} {n : ℕ} {r : Answer} {z : Reading} → is_skipped t ≡ false → p.stage ≡ Commands → HasForm End t → Leads p t n r z
    → GivesFirst (at_stage (following p t n) AfterEnd) r z
end_gives k i f (on h g) = absurd cc
end_gives {t = t} k i f (said d h j e l) = absurd (l (one_form d End t e f))
end_gives k i f (ended h j e g) = g
end_gives {p = p} {t = t} k i f (bad h w) = not_refused p t End i f w

pub goes_answer : {p q z : Reading} {r : Answer} → PassesOver p q → GivesFirst p r z → r ≢ Err ReadFault → GivesFirst q r z
goes_answer nowhere g told = g
goes_answer {p = p} (over_skipped t n a k h) g told = goes_answer h (skipped_gives k (at_line p t n a told g)) told
goes_answer {p = p} (over_end t n a k i f h) g told = goes_answer h (end_gives k i f (at_line p t n a told g)) told

pub goes_gives : {p q z : Reading} {r : Answer} → PassesOver p q → GivesFirst q r z → GivesFirst p r z
goes_gives nowhere g = g
goes_gives (over_skipped t n a k h) g = skipped t n a k (goes_gives h g)
goes_gives (over_end t n a k i f h) g = end_line t n a k i f (goes_gives h g)

pub goes_goes : {p q z : Reading} → PassesOver p q → PassesOver q z → PassesOver p z
goes_goes nowhere g = g
goes_goes (over_skipped t n a k h) g = over_skipped t n a k (goes_goes h g)
goes_goes (over_end t n a k i f h) g = over_end t n a k i f (goes_goes h g)

pub goes_whole : {p q : Reading} → PassesOver p q → q.whole ≡ p.whole
goes_whole nowhere = refl
goes_whole (over_skipped t n a k h) = goes_whole h
goes_whole (over_end t n a k i f h) = goes_whole h

pub goes_with : {p q : Reading} (more : List ℕ) (whole : Bool) → IsMore p more whole → PassesOver p q → PassesOver (with_taken p more whole) (with_taken q more whole)
goes_with more whole none nowhere = nowhere
goes_with {p = p} {q = q} more whole none (over_skipped t n a k h) =
    over_skipped t n (line_more p t more whole n none a) k (subst (λ (z : Reading). PassesOver z (with_taken q more whole)) (sym (following_more p t more whole n a)) (goes_with more whole none h))
goes_with {p = p} {q = q} more whole none (over_end t n a k i f h) =
    over_end t n (line_more p t more whole n none a) k i f (subst (λ (z : Reading). PassesOver (at_stage z AfterEnd) (with_taken q more whole)) (sym (following_more p t more whole n a))
    (goes_with more whole none h))
