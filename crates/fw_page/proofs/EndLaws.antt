-- Three texts, appended in turn.
use Rattle.std.proofs.Common.{◌≡◌, ℕ, List, ◌++◌, ap, sym, ◌∙◌, append_assoc}

pub three : (old a d w one two new : List ℕ) → one ≡ old ++ a → two ≡ one ++ d → new ≡ two ++ w → new ≡ old ++ (a ++ (d ++ w))
three old a d w one two new e f g =
    g ∙ ap (λ (l : List ℕ). l ++ w) (f ∙ ap (λ (l : List ℕ). l ++ d) e) ∙ append_assoc (old ++ a) d w ∙ append_assoc old a (d ++ w)
