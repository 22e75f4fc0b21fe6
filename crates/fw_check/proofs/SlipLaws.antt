-- Where two spaces stand.
use Rattle.std.proofs.Common.{◌≡◌, ℕ, zero, suc, ◌+◌, ◌-◌, ◌≤◌, ◌<◌, ◌&&◌, Bool, true, false, cond, List, [], ◌∷◌, length, drop, get_or, Option, Some, None, refl, ap, sym, ◌∙◌, subst, arith}
use Rattle.std.proofs.Common.{add-one, drop-cons}
use Rattle.std.proofs.lemmas.Bool.Decides.{nat_tests}
use Rattle.std.specs.List.{list_all}
use Rattle.std.specs.Option.{option_map}
use Rattle.fw_check.specs.Slips.{begins_with_byte, is_space, two_spaces}

-- a place that is so much further
abbrev pub further : ℕ → Option ℕ → Option ℕ
further k o = option_map (λ n. n + k) o

pub further_none : (o : Option ℕ) → further 0 o ≡ o
further_none None = refl
further_none (Some n) = ap (λ (k : ℕ). Some k) (omega arith)

pub further_one : (k : ℕ) (o : Option ℕ) → further k (option_map (λ n. n + 1) o) ≡ further (k + 1) o
further_one k None = refl
further_one k (Some n) = ap (λ (m : ℕ). Some m) (omega arith)

-- the rest from a place on
rest_from : (line : List ℕ) (j : ℕ) → j < length line → drop j line ≡ get_or line j 0 ∷ drop (j + 1) line
rest_from line j lt = drop-cons line j 0 lt ∙ ap (λ (k : ℕ). get_or line j 0 ∷ drop k line) (sym (add-one j))

begins_there : (line : List ℕ) (j : ℕ) → j < length line → begins_with_byte 32 (drop j line) ≡ is_space (get_or line j 0)
begins_there line j lt = ap (λ (l : List ℕ). begins_with_byte 32 l) (rest_from line j lt)

-- two spaces that do not stand at a place
pub two_next : (line : List ℕ) (j : ℕ) → j + 1 < length line → (is_space (get_or line j 0) && is_space (get_or line (j + 1) 0)) ≡ false
    → two_spaces (drop j line) ≡ option_map (λ k. k + 1) (two_spaces (drop (j + 1) line))
two_next line j lt other =
    let here : Option ℕ = cond (list_all is_space (drop (j + 1) line)) None (Some 0) in
    let later : Option ℕ = option_map (λ k. k + 1) (two_spaces (drop (j + 1) line)) in
    ap (λ (l : List ℕ). two_spaces l) (rest_from line j (omega arith))
    ∙ ap (λ (b : Bool). cond (is_space (get_or line j 0) && b) here later) (begins_there line (j + 1) lt) ∙ ap (λ (b : Bool). cond b here later) other

-- the last byte is followed by none
pub two_last : (line : List ℕ) (j : ℕ) → length line ≤ j + 1 → two_spaces (drop j line) ≡ None
two_last [] zero h = refl
two_last [] (suc j) h = refl
two_last (b ∷ []) zero h = by_space (is_space b)
  where
    by_space : (s : Bool) → cond {A = Option ℕ} (s && false) (cond true None (Some 0)) None ≡ None
    by_space true = refl
    by_space false = refl
two_last (b ∷ c ∷ line) zero h = absurd (omega arith)
two_last (b ∷ line) (suc j) h = two_last line j (omega arith)

-- ---- a look from place to place, at the byte at i and the one before it

pub spaces_on : (line : List ℕ) (i : ℕ) → 1 ≤ i → i < length line → (is_space (get_or line (i - 1) 0) && is_space (get_or line i 0)) ≡ false
    → two_spaces line ≡ further (i - 1) (two_spaces (drop (i - 1) line)) → two_spaces line ≡ further (i + 1 - 1) (two_spaces (drop (i + 1 - 1) line))
spaces_on line i ge lt other before =
    let e : i - 1 + 1 ≡ i = omega arith in
    let both = subst (λ (k : ℕ). (is_space (get_or line (i - 1) 0) && is_space (get_or line k 0)) ≡ false) (sym e) other in
    before ∙ ap (λ (o : Option ℕ). further (i - 1) o) (two_next line (i - 1) (omega arith) both) ∙ further_one (i - 1) (two_spaces (drop (i - 1 + 1) line))
    ∙ ap (λ (k : ℕ). further k (two_spaces (drop k line))) (omega arith)

pub spaces_over : (line : List ℕ) (i : ℕ) → 1 ≤ i → length line ≤ i → two_spaces line ≡ further (i - 1) (two_spaces (drop (i - 1) line)) → two_spaces line ≡ None
spaces_over line i ge past before = before ∙ ap (λ (o : Option ℕ). further (i - 1) o) (two_last line (i - 1) (omega arith))

-- a byte of two that is no space
pub first_other : (x y : ℕ) → (x ≡ 32 → ⊥) → (is_space x && is_space y) ≡ false
first_other x y h = let e : is_space x ≡ false = grind (arith, nat_tests) in ap (λ (b : Bool). b && is_space y) e

pub second_other : (x y : ℕ) → (y ≡ 32 → ⊥) → (is_space x && is_space y) ≡ false
second_other x y h = let e : is_space y ≡ false = grind (arith, nat_tests) in ap (λ (b : Bool). is_space x && b) e ∙ never (is_space x)
  where
    never : (b : Bool) → (b && false) ≡ false
    never true = refl
    never false = refl
