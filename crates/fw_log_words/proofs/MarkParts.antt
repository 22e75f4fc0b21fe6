-- What the lines with a mark get of a part of a page.
use Rattle.std.proofs.Common.{◌≡◌, ◌≢◌, ℕ, suc, ◌+◌, ◌<◌, ◌≤◌, ◌==◌, Bool, true, false, List, [], ◌∷◌, ◌++◌, Option, Some, None, length, slice_index, codes, decimal, arith, refl, ap, sym, subst, ◌∙◌, append_assoc}
use Rattle.std.proofs.lemmas.List.{append-nil}
use Rattle.fw_page.specs.Marks.{marked, Begins, lines_from}
use Rattle.fw_page.proofs.MarkLaws.{ends_line, lines_back, lines_none, line_back, line_none, NoFeed}

-- the lines of the part, and what follows goes on
abbrev pub Gives : ℕ → List ℕ → List ℕ → List ℕ → Type 0
Gives m lead part out = (y : List ℕ) → lines_from m lead Begins (part ++ y) ≡ out ++ lines_from m lead Begins y

pub no_part : (m : ℕ) (lead : List ℕ) → Gives m lead [] []
no_part m lead y = refl

pub both : (m : ℕ) (lead a b x z : List ℕ) → Gives m lead a x → Gives m lead b z → Gives m lead (a ++ b) (x ++ z)
both m lead a b x z g h y =
    ap (λ (l : List ℕ). lines_from m lead Begins l) (append_assoc a b y) ∙ g (b ++ y) ∙ ap (λ (l : List ℕ). x ++ l) (h y) ∙ sym (append_assoc x z (lines_from m lead Begins y))

-- a text whose lines end
abbrev pub IsWhole : List ℕ → Type 0
IsWhole text = ends_line true text ≡ true

-- marked lines are the text, and of another mark there are none
pub marked_back : (m : ℕ) (x : List ℕ) → IsWhole x → Gives m [] (marked m x) x
marked_back m x whole y = lines_back m true x y whole

pub marked_none : (m n : ℕ) (lead x : List ℕ) → (n == m) ≡ false → (n == 10) ≡ false → IsWhole x → Gives m lead (marked n x) []
marked_none m n lead x d f whole y = lines_none m n lead d f true x y whole

-- ---- texts whose lines end

-- a text that ends in a line feed, wherever it begins
abbrev pub EndsLine : List ℕ → Type 0
EndsLine text = (b : Bool) → ends_line b text ≡ true

later_ends : (x y : List ℕ) → EndsLine y → EndsLine (x ++ y)
later_ends [] y e b = e b
later_ends (c ∷ cs) y e b = later_ends cs y e (c == 10)

pub record Ends (text : List ℕ) : Type 0 where
  pub at : EndsLine text

pub feed : Ends (10 ∷ [])
feed = record { at = λ b. refl }

pub later : {y : List ℕ} (x : List ℕ) → Ends y → Ends (x ++ y)
later {y} x e = record { at = later_ends x y e.at }

pub nothing_whole : IsWhole []
nothing_whole = refl

whole_from : (b : Bool) (x y : List ℕ) → ends_line b x ≡ true → IsWhole y → ends_line b (x ++ y) ≡ true
whole_from b [] y e whole = ap (λ (v : Bool). ends_line v y) e ∙ whole
whole_from b (c ∷ cs) y e whole = whole_from (c == 10) cs y e whole

pub both_whole : (x y : List ℕ) → IsWhole x → IsWhole y → IsWhole (x ++ y)
both_whole x y e whole = whole_from true x y e whole
