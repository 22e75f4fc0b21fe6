-- Texts that are put one after the other.
use Rattle.std.proofs.Common.{ℕ, ◌≡◌, List, [], ◌∷◌, ◌++◌, Result, Ok, Err, IfOk, codes, if◌then◌else◌, ap, ◌∙◌, append_assoc}
use Rattle.std.specs.Result.{is_ok}
use Rattle.fw_explore_told.specs.Telling.{remark}

pub row_put : (out head ending moves lines end feed a b c d : List ℕ) → a ≡ out ++ head → b ≡ a ++ ending → c ≡ b ++ moves → d ≡ c ++ lines
    → d ++ (end ++ feed) ≡ out ++ (head ++ ending ++ (moves ++ lines ++ end ++ feed))
row_put out head ending moves lines end feed a b c d first second third fourth =
    ap (λ (l : List ℕ). l ++ (end ++ feed)) (fourth ∙ ap (λ (l : List ℕ). l ++ lines) (third ∙ ap (λ (l : List ℕ). l ++ moves) (second ∙ ap (λ (l : List ℕ). l ++ ending) first)))
    ∙ simp append_assoc

pub first_put : (out counts s l n a b c d e : List ℕ) → a ≡ out ++ codes "# interleavings: " → b ≡ a ++ counts → c ≡ b ++ codes "; moves " ++ s → d ≡ c ++ codes " to " ++ l
    → e ≡ d ++ codes "; endings " ++ n
    → e ++ 10 ∷ [] ≡ out ++ remark (codes "interleavings: " ++ counts ++ codes "; moves " ++ s ++ codes " to " ++ l ++ codes "; endings " ++ n)
first_put out counts s l n a b c d e first second third fourth fifth =
    ap (λ (x : List ℕ). x ++ 10 ∷ []) (fifth ∙ ap (λ (x : List ℕ). x ++ codes "; endings " ++ n) (fourth ∙ ap (λ (x : List ℕ). x ++ codes " to " ++ l)
    (third ∙ ap (λ (x : List ℕ). x ++ codes "; moves " ++ s) (second ∙ ap (λ (x : List ℕ). x ++ counts) first))))
    ∙ simp append_assoc

-- the last call's result is returned as it is
pub if_ok : {T E : Type 0} (r : Result T E) (new a b z : List ℕ) → new ≡ (if is_ok r then a else b) → a ≡ z → IfOk r (λ _. new ≡ z)
if_ok (Ok x) new a b z put same = put ∙ same
if_ok (Err x) new a b z put same = tt
