-- Pieces of text, one after another.
use Rattle.std.proofs.Common.{◌≡◌, ap, sym, ◌∙◌, ℕ, List, ◌++◌, append_assoc}

-- one piece after another
pub then : (before after last a b : List ℕ) → after ≡ before ++ a → last ≡ after ++ b → last ≡ before ++ (a ++ b)
then before after last a b e f = f ∙ ap (λ (t : List ℕ). t ++ b) e ∙ append_assoc before a b

-- a piece of what is the same
pub moved : {X : Type 0} (f : X → List ℕ) (before last : List ℕ) (x y : X) → x ≡ y → last ≡ before ++ f x → last ≡ before ++ f y
moved f before last x y e t = t ∙ ap (λ z. before ++ f z) e

-- pieces that are grouped in another way
pub pair_after : (x a b : List ℕ) → x ++ (a ++ b) ≡ (x ++ a) ++ b
pair_after x a b = sym (append_assoc x a b)

pub three_after : (x a b c : List ℕ) → x ++ ((a ++ b) ++ c) ≡ ((x ++ a) ++ b) ++ c
three_after x a b c = simp append_assoc
