-- Laws of the paths of steps.
use Rattle.std.proofs.Common.{ℕ, suc, zero, ◌≡◌, ◌+◌, ◌<◌, List, [], ◌∷◌, ◌++◌, length, get_or, refl, sym, ap, subst, ◌∙◌, inl, inr, arith}
use Rattle.std.proofs.lemmas.List.{length_push, get_or_append_left, get_or_push}
use Rattle.std.proofs.lemmas.Bool.{cases_lt}
use Rattle.fw_explore_levels.specs.declared.steps.PathStep.{PathStep}
use Rattle.fw_explore_levels.specs.Steps.{paths_on, paths_of, AreSteps}

abbrev path_on : List (List ℕ) → PathStep → List ℕ
path_on paths s = get_or paths s.before [] ++ s.mover ∷ []

pub length-paths : (paths : List (List ℕ)) (steps : List PathStep) → length (paths_on paths steps) ≡ length paths + length steps
length-paths paths [] = omega arith
length-paths paths (s ∷ steps) = omega (arith, length-paths (paths ++ path_on paths s ∷ []) steps, length_push paths (path_on paths s))

-- those that were there stay
pub paths_stay : (paths : List (List ℕ)) (steps : List PathStep) (k : ℕ) (d : List ℕ) → k < length paths → get_or (paths_on paths steps) k d ≡ get_or paths k d
paths_stay paths [] k d h = refl
paths_stay paths (s ∷ steps) k d h =
    paths_stay (paths ++ path_on paths s ∷ []) steps k d (omega (arith, h, length_push paths (path_on paths s)))
    ∙ get_or_append_left paths (path_on paths s ∷ []) d k h

pub paths_push : (paths : List (List ℕ)) (steps : List PathStep) (s : PathStep) → paths_on paths (steps ++ s ∷ []) ≡ paths_on paths steps ++ path_on (paths_on paths steps) s ∷ []
paths_push paths [] s = refl
paths_push paths (t ∷ steps) s = paths_push (paths ++ path_on paths t ∷ []) steps s

paths_at : (paths : List (List ℕ)) (steps : List PathStep) (k : ℕ) (d : PathStep) → k < length steps → (get_or steps k d).before < length paths + k
    → get_or (paths_on paths steps) (length paths + k) [] ≡ path_on (paths_on paths steps) (get_or steps k d)
paths_at paths [] k d h b = absurd (omega (arith, h))
paths_at paths (s ∷ steps) zero d h b =
    let longer = paths ++ path_on paths s ∷ [] in
    let in' : length paths + 0 < length longer = omega (arith, length_push paths (path_on paths s)) in
    let before : s.before < length longer = omega (arith, b, length_push paths (path_on paths s)) in
    let at0 : length paths + 0 ≡ length paths = omega arith in
    paths_stay longer steps (length paths + 0) [] in'
    ∙ get_or_push paths (path_on paths s) [] (length paths + 0) (sym at0)
    ∙ ap (λ x. x ++ s.mover ∷ []) (sym (paths_stay longer steps s.before [] before ∙ get_or_append_left paths (path_on paths s ∷ []) [] s.before (omega (arith, b))))
paths_at paths (s ∷ steps) (suc k) d h b =
    let longer = paths ++ path_on paths s ∷ [] in
    let one : length longer + k ≡ length paths + suc k = omega (arith, length_push paths (path_on paths s)) in
    ap (λ i. get_or (paths_on longer steps) i []) (sym one) ∙ paths_at longer steps k d (omega (arith, h)) (omega (arith, b, one))

-- the path of a step is that of the one before it, and its move
pub path_at : (steps : List PathStep) (k n : ℕ) (d : PathStep) → AreSteps steps → k < length steps → n ≡ k + 1
    → get_or (paths_of steps) n [] ≡ get_or (paths_of steps) (get_or steps k d).before [] ++ (get_or steps k d).mover ∷ []
path_at steps k n d are h e =
    ap (λ i. get_or (paths_of steps) i []) (e ∙ omega arith) ∙ paths_at ([] ∷ []) steps k d h (omega (arith, are k d h))

pub are_steps_push : (steps : List PathStep) (s : PathStep) → AreSteps steps → s.before < length steps + 1 → AreSteps (steps ++ s ∷ [])
are_steps_push steps s are b k d h =
    elim (cases_lt k (length steps)) [
      | inl less ↦ subst (λ x. x.before < k + 1) (sym (get_or_append_left steps (s ∷ []) d k less)) (are k d less)
      | inr ge ↦
          let here : length steps ≡ k = omega (arith, ge, h, length_push steps s) in
          subst (λ x. x.before < k + 1) (sym (get_or_push steps s d k here)) (omega (arith, b, here))
    ]
