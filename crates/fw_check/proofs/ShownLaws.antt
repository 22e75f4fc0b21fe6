-- What is shown of a line, and of a word, that is not cut.
use Rattle.std.proofs.Common.{◌≡◌, ℕ, ◌≤◌, List, [], ◌∷◌, ◌++◌, length, map, codes, Bool, false, cond, nat_lt, ap, ◌∙◌, append-nil, arith}
use Rattle.std.proofs.lemmas.Bool.Decides.{nat_tests}
use Rattle.std.proofs.lemmas.List.{take_all}
use Rattle.fw_check.specs.Shown.{quoted, shown, shown_byte}

short : (n : ℕ) (xs : List ℕ) → length xs ≤ n → nat_lt n (length xs) ≡ false
short n xs h = grind (arith, nat_tests)

pub shown_whole : (line : List ℕ) → length line ≤ 100 → shown line ≡ map shown_byte line
shown_whole line h =
    ap (λ (l : List ℕ). map shown_byte l ++ cond (nat_lt 100 (length line)) (codes " ..") []) (take_all 100 line h)
    ∙ ap (λ (t : Bool). map shown_byte line ++ cond t (codes " ..") []) (short 100 line h) ∙ append-nil (map shown_byte line)

pub quoted_whole : (w : List ℕ) → length w ≤ 40 → quoted w ≡ (34 ∷ w) ++ 34 ∷ []
quoted_whole w h =
    ap (λ (l : List ℕ). ((34 ∷ l) ++ cond (nat_lt 40 (length w)) (codes "..") []) ++ 34 ∷ []) (take_all 40 w h)
    ∙ ap (λ (t : Bool). ((34 ∷ w) ++ cond t (codes "..") []) ++ 34 ∷ []) (short 40 w h) ∙ ap (λ (l : List ℕ). l ++ 34 ∷ []) (append-nil (34 ∷ w))
