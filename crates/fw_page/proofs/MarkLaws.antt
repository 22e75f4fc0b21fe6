-- Marks before the lines of a text, and the lines that have them.
use Rattle.std.proofs.Common.{◌≡◌, ◌≢◌, ◌⊎◌, inl, inr, ℕ, zero, suc, ◌+◌, ◌<◌, ◌≤◌, ◌==◌, Bool, true, false, List, [], ◌∷◌, ◌++◌, length, slice_index, take, drop, arith, refl, ap, sym, ◌∙◌, cond, append_assoc}
use Rattle.std.proofs.lemmas.Bool.Decides.{nat_tests}
use Rattle.memchr.specs.Find.{is_byte}
use Rattle.fw_page.specs.Marks.{marked_from, marked, Place, Begins, Within, Other, going, begun, lines_from}

byte_at : (b s : ℕ) → b ≡ s → is_byte s b ≡ true
byte_at b s e = grind (arith, nat_tests)

same : (a : ℕ) → (a == a) ≡ true
same a = grind (arith, nat_tests)

-- ---- the first line

-- up to the first line feed
pub to_feed : (m : ℕ) (text : List ℕ) (k : ℕ) → k < length text → is_byte 10 (slice_index text k) ≡ true → ((j : ℕ) → j < k → is_byte 10 (slice_index text j) ≡ true → ⊥)
    → marked_from m false text ≡ take (suc k) text ++ marked m (drop (suc k) text)
to_feed m [] k within here before = absurd (omega (arith, within))
to_feed m (c ∷ cs) zero within here before = ap (λ (b : Bool). c ∷ marked_from m b cs) here
to_feed m (c ∷ cs) (suc k) within here before = go (c == 10) refl (to_feed m cs k (omega (arith, within)) here (λ j low. before (suc j) (omega (arith, low))))
  where
    go : (b : Bool) → (c == 10) ≡ b → marked_from m false cs ≡ take (suc k) cs ++ marked m (drop (suc k) cs)
        → marked_from m false (c ∷ cs) ≡ take (suc (suc k)) (c ∷ cs) ++ marked m (drop (suc (suc k)) (c ∷ cs))
    go true e rest = absurd (before 0 (omega arith) e)
    go false e rest = ap (λ (b : Bool). c ∷ marked_from m b cs) e ∙ ap (λ (l : List ℕ). c ∷ l) rest

-- without one
pub no_feed : (m : ℕ) (text : List ℕ) → ((j : ℕ) → j < length text → is_byte 10 (slice_index text j) ≡ true → ⊥) → marked_from m false text ≡ text
no_feed m [] none = refl
no_feed m (c ∷ cs) none = go (c == 10) refl (no_feed m cs (λ j low. none (suc j) (omega (arith, low))))
  where
    go : (b : Bool) → (c == 10) ≡ b → marked_from m false cs ≡ cs → marked_from m false (c ∷ cs) ≡ c ∷ cs
    go true e rest = absurd (none 0 (omega arith) e)
    go false e rest = ap (λ (b : Bool). c ∷ marked_from m b cs) e ∙ ap (λ (l : List ℕ). c ∷ l) rest

pub all_of : (m : ℕ) (text : List ℕ) → text ≡ take (length text) text ++ marked m (drop (length text) text)
all_of m [] = refl
all_of m (c ∷ cs) = ap (λ (l : List ℕ). c ∷ l) (all_of m cs)

-- some text has a mark before its first byte
pub one_mark : (m : ℕ) (text : List ℕ) → 0 < length text → marked m text ≡ m ∷ marked_from m false text
one_mark m [] some = absurd (omega (arith, some))
one_mark m (c ∷ cs) some = refl

-- ---- the lines with a mark

-- a text that ends in a line feed, or begins a line and is empty
abbrev pub ends_line : Bool → List ℕ → Bool
ends_line begins [] = begins
ends_line begins (c ∷ cs) = ends_line (c == 10) cs

-- where a reader stands who reads marked lines
abbrev pub inside : Bool → Place → Place
inside true place = Begins
inside false place = place

goes : (c : ℕ) (place : Place) → going c place ≡ inside (c == 10) place
goes c place = go (c == 10) refl
  where
    go : (b : Bool) → (c == 10) ≡ b → going c place ≡ inside (c == 10) place
    go true e = rw e refl
    go false e = rw e refl

-- they are the text
pub lines_back : (m : ℕ) (b : Bool) (x y : List ℕ) → ends_line b x ≡ true → lines_from m [] (inside b Within) (marked_from m b x ++ y) ≡ x ++ lines_from m [] Begins y
lines_back m true [] y e = refl
lines_back m false [] y e = absurd (cc e)
lines_back m true (c ∷ cs) y e =
    let b = same m in
    let rest : lines_from m [] Within (c ∷ (marked_from m (c == 10) cs ++ y)) ≡ c ∷ (cs ++ lines_from m [] Begins y) =
    ap (λ (p : Place). c ∷ lines_from m [] p (marked_from m (c == 10) cs ++ y)) (goes c Within) ∙ ap (λ (l : List ℕ). c ∷ l) (lines_back m (c == 10) cs y e)
    in
    rw b rest
lines_back m false (c ∷ cs) y e =
    ap (λ (p : Place). c ∷ lines_from m [] p (marked_from m (c == 10) cs ++ y)) (goes c Within) ∙ ap (λ (l : List ℕ). c ∷ l) (lines_back m (c == 10) cs y e)

-- and of another mark there are none
pub lines_none : (m n : ℕ) (lead : List ℕ) → (n == m) ≡ false → (n == 10) ≡ false → (b : Bool) (x y : List ℕ) → ends_line b x ≡ true
    → lines_from m lead (inside b Other) (marked_from n b x ++ y) ≡ lines_from m lead Begins y
lines_none m n lead d f true [] y e = refl
lines_none m n lead d f false [] y e = absurd (cc e)
lines_none m n lead d f true (c ∷ cs) y e =
    let rest : lines_from m lead Other (c ∷ (marked_from n (c == 10) cs ++ y)) ≡ lines_from m lead Begins y =
    ap (λ (p : Place). lines_from m lead p (marked_from n (c == 10) cs ++ y)) (goes c Other) ∙ lines_none m n lead d f (c == 10) cs y e
    in
    rw d (rw f rest)
lines_none m n lead d f false (c ∷ cs) y e = ap (λ (p : Place). lines_from m lead p (marked_from n (c == 10) cs ++ y)) (goes c Other) ∙ lines_none m n lead d f (c == 10) cs y e

-- ---- a line that has its mark itself

-- bytes without a line feed
abbrev pub NoFeed : List ℕ → Type 0
NoFeed w = (i : ℕ) → i < length w → slice_index w i ≢ 10

differs : (b s : ℕ) → b ≢ s → (b == s) ≡ false
differs b s n = grind (arith, nat_tests)

line_goes : (m : ℕ) (lead : List ℕ) (w y : List ℕ) → NoFeed w → lines_from m lead Within ((w ++ 10 ∷ []) ++ y) ≡ (w ++ 10 ∷ []) ++ lines_from m lead Begins y
line_goes m lead [] y free = refl
line_goes m lead (c ∷ cs) y free =
    let e = differs c 10 (free 0 (omega arith)) in
    rw e (ap (λ (l : List ℕ). c ∷ l) (line_goes m lead cs y (λ i low. free (suc i) (omega (arith, low)))))

line_passes : (m : ℕ) (lead : List ℕ) (w y : List ℕ) → NoFeed w → lines_from m lead Other ((w ++ 10 ∷ []) ++ y) ≡ lines_from m lead Begins y
line_passes m lead [] y free = refl
line_passes m lead (c ∷ cs) y free =
    let e = differs c 10 (free 0 (omega arith)) in
    ap (λ (b : Bool). lines_from m lead (cond b Begins Other) ((cs ++ 10 ∷ []) ++ y)) e ∙ line_passes m lead cs y (λ i low. free (suc i) (omega (arith, low)))

-- it is among the lines with that mark
pub line_back : (m : ℕ) (w y : List ℕ) → NoFeed w → lines_from m (m ∷ []) Begins ((m ∷ (w ++ 10 ∷ [])) ++ y) ≡ (m ∷ (w ++ 10 ∷ [])) ++ lines_from m (m ∷ []) Begins y
line_back m w y free = let b = same m in rw b (ap (λ (l : List ℕ). m ∷ l) (line_goes m (m ∷ []) w y free))

-- and not among others
pub line_none : (m n : ℕ) (lead : List ℕ) (w y : List ℕ) → (n == m) ≡ false → (n == 10) ≡ false → NoFeed w → lines_from m lead Begins ((n ∷ (w ++ 10 ∷ [])) ++ y) ≡ lines_from m lead Begins y
line_none m n lead w y d f free = rw d (rw f (line_passes m lead w y free))
