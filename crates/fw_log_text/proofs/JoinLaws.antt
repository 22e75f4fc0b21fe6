-- Pieces of text, one after another.
use Rattle.std.proofs.Common.{◌≡◌, ◌∙◌, ℕ, List, [], ◌∷◌, ◌++◌, ap, append_assoc}

-- one piece after another
pub then : (before after last a b : List ℕ) → after ≡ before ++ a → last ≡ after ++ b → last ≡ before ++ (a ++ b)
then before after last a b e f = f ∙ ap (λ (t : List ℕ). t ++ b) e ∙ append_assoc before a b

-- a piece of what is the same
pub moved : {X : Type 0} (f : X → List ℕ) (before last : List ℕ) (x y : X) → x ≡ y → last ≡ before ++ f x → last ≡ before ++ f y
moved f before last x y e t = t ∙ ap (λ z. before ++ f z) e

-- two rows, what stands after them, and a line feed
pub line_after : (text prefix word rest : List ℕ) → (((text ++ prefix) ++ word) ++ rest) ++ 10 ∷ [] ≡ text ++ ((prefix ++ (word ++ rest)) ++ 10 ∷ [])
line_after text prefix word rest =
    ap (λ (t : List ℕ). (t ++ rest) ++ 10 ∷ []) (append_assoc text prefix word)
    ∙ ap (λ (t : List ℕ). t ++ 10 ∷ []) (append_assoc text (prefix ++ word) rest ∙ ap (λ (t : List ℕ). text ++ t) (append_assoc prefix word rest))
    ∙ append_assoc text (prefix ++ (word ++ rest)) (10 ∷ [])
