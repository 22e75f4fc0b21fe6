-- The line of half steps that a word stands for, by its pieces.
use Rattle.std.proofs.Common.{ℕ, ◌≡◌, List, [], ◌∷◌, ◌++◌, true, false, Some, None, codes, if◌then◌else◌, refl, ap, ◌∙◌}
use Rattle.fw_script_command.specs.Form.{after_first}
use Rattle.fw_explore_movers.specs.Words.{takes_steps, half_step_line}

pub one_piece : (ps : List (List ℕ)) (keyword word : List ℕ) → ps ≡ keyword ∷ [] → half_step_line ps word ≡ Some (codes "step " ++ word ++ codes " 1")
unfolding half_step_line
one_piece ps keyword word e = ap (λ z. half_step_line z word) e

-- of two pieces the first says it
by_keyword : (ps : List (List ℕ)) (keyword name word : List ℕ) → ps ≡ keyword ∷ name ∷ [] → half_step_line ps word ≡ (if takes_steps keyword then Some (word ++ codes " 1") else None)
unfolding half_step_line
by_keyword ps keyword name word e = ap (λ z. half_step_line z word) e

pub two_pieces : (ps : List (List ℕ)) (keyword name word : List ℕ) → ps ≡ keyword ∷ name ∷ [] → takes_steps keyword ≡ true → half_step_line ps word ≡ Some (word ++ codes " 1")
two_pieces ps keyword name word e steps = by_keyword ps keyword name word e ∙ ap (λ b. if b then Some (word ++ codes " 1") else None) steps

pub other_keyword : (ps : List (List ℕ)) (keyword name word : List ℕ) → ps ≡ keyword ∷ name ∷ [] → takes_steps keyword ≡ false → half_step_line ps word ≡ None
other_keyword ps keyword name word e other = by_keyword ps keyword name word e ∙ ap (λ b. if b then Some (word ++ codes " 1") else None) other

-- and more are no half steps
pub more_pieces : (ps : List (List ℕ)) (keyword name third word : List ℕ) (rest : List (List ℕ)) → ps ≡ keyword ∷ name ∷ third ∷ rest → half_step_line ps word ≡ None
unfolding half_step_line
more_pieces ps keyword name third word rest e = ap (λ z. half_step_line z word) e

pub no_pieces : (ps : List (List ℕ)) (word : List ℕ) → ps ≡ [] → half_step_line ps word ≡ None
unfolding half_step_line
no_pieces ps word e = ap (λ z. half_step_line z word) e

-- of what stands after the first piece
pub none_following : (ps rest : List (List ℕ)) (keyword word : List ℕ) → ps ≡ keyword ∷ rest → (rest ≡ [] → ⊥) → (after_first rest ≡ [] → ⊥) → half_step_line ps word ≡ None
none_following ps [] keyword word e some more = absurd (some refl)
none_following ps (name ∷ []) keyword word e some more = absurd (more refl)
none_following ps (name ∷ third ∷ rest) keyword word e some more = more_pieces ps keyword name third word rest e

pub other_after : (ps rest : List (List ℕ)) (keyword word : List ℕ) → ps ≡ keyword ∷ rest → (rest ≡ [] → ⊥) → takes_steps keyword ≡ false → half_step_line ps word ≡ None
other_after ps [] keyword word e some other = absurd (some refl)
other_after ps (name ∷ []) keyword word e some other = other_keyword ps keyword name word e other
other_after ps (name ∷ third ∷ rest) keyword word e some other = more_pieces ps keyword name third word rest e

pub some_after : (ps rest : List (List ℕ)) (keyword word : List ℕ) → ps ≡ keyword ∷ rest → (rest ≡ [] → ⊥) → after_first rest ≡ [] → takes_steps keyword ≡ true
    → half_step_line ps word ≡ Some (word ++ codes " 1")
some_after ps [] keyword word e some end steps = absurd (some refl)
some_after ps (name ∷ rest) keyword word e some end steps = two_pieces ps keyword name word (e ∙ ap (λ (l : List (List ℕ)). keyword ∷ name ∷ l) end) steps
