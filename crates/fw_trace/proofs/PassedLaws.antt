-- What a sink was given since a command began, piece by piece.
use Rattle.fw_trace.proofs.Common.{◌≡◌, refl, sym, ap, subst, ◌∙◌, ℕ, List, [], ◌∷◌, ◌++◌, length, take, Bool, true, false, Option, Some, None, arith, length-append, append-nil, Grows-Grows, Grows}
use Rattle.fw_trace.proofs.Common.{AppendsPrefix, GrowsPrefix, WasPassed}
use Rattle.std.proofs.Common.{◌-◌, drop}
use Rattle.std.proofs.lemmas.List.{take-append-drop}
use Rattle.fw_outside.proofs.Parts.{Grows-nothing, then_prefix, prefix_then}
use Rattle.fw_outside.specs.Outside.{Rose}

take_prefix : (xs ys : List ℕ) → take (length xs) (xs ++ ys) ≡ xs
take_prefix [] ys = refl
take_prefix (x ∷ xs) ys = ap (λ (l : List ℕ). x ∷ l) (take_prefix xs ys)

pub prefix_grows : (held held' : Option (List ℕ)) (bytes : List ℕ) → AppendsPrefix held held' bytes → GrowsPrefix held held' bytes
prefix_grows None None bytes x = tt
prefix_grows None (Some ys) bytes x = absurd x.appended
prefix_grows (Some xs) None bytes x = absurd x.appended
prefix_grows (Some xs) (Some ys) bytes x =
    let n : length ys - length xs ≡ length x.prefix = omega (arith, ap length x.appended, length-append xs x.prefix) in
    x.appended ∙ ap (λ (l : List ℕ). xs ++ l) (sym (rw (n, x.parts) (take_prefix x.prefix x.rest)))

pub passes_nothing : (held : Option (List ℕ)) (faults : ℕ) → WasPassed false held held faults faults []
passes_nothing held faults = (Grows-nothing held, refl)

pub passes_more : (held mid held' : Option (List ℕ)) (faults f faults' : ℕ) (given piece : List ℕ) → WasPassed false held mid faults f given → Grows mid held' piece → faults' ≡ f
    → WasPassed false held held' faults faults' (given ++ piece)
passes_more held mid held' faults f faults' given piece x y e = (Grows-Grows held mid held' given piece x.0 y, e ∙ x.1)

pub passes_prefix : (held mid held' : Option (List ℕ)) (faults f faults' : ℕ) (given piece : List ℕ) → WasPassed false held mid faults f given → AppendsPrefix mid held' piece → Rose f faults'
    → WasPassed true held held' faults faults' (given ++ piece)
passes_prefix held mid held' faults f faults' given piece x y e =
    (prefix_grows held held' (given ++ piece) (then_prefix held mid held' given piece x.0 y), let P : ℕ → Type 0 = λ n. Rose n faults' in subst P x.1 e)

-- and back
pub prefix_of : (held held' : Option (List ℕ)) (bytes : List ℕ) → GrowsPrefix held held' bytes → AppendsPrefix held held' bytes
prefix_of None None bytes x = record { prefix = []; rest = bytes; parts = refl; appended = tt }
prefix_of None (Some ys) bytes x = absurd x
prefix_of (Some xs) None bytes x = absurd x
prefix_of (Some xs) (Some ys) bytes x =
    record { prefix = take (length ys - length xs) bytes; rest = drop (length ys - length xs) bytes; parts = sym (take-append-drop (length ys - length xs) bytes); appended = x }

-- a prefix of some is a prefix of more
pub grows_prefix_more : (held held' : Option (List ℕ)) (bytes more whole : List ℕ) → GrowsPrefix held held' bytes → bytes ++ more ≡ whole → GrowsPrefix held held' whole
grows_prefix_more held held' bytes more whole x e =
    subst (GrowsPrefix held held') e (prefix_grows held held' (bytes ++ more) (prefix_then held held' bytes more (prefix_of held held' bytes x)))

-- what was passed on is a prefix of what it was to be
pub passed_prefix : (failed : Bool) (held held' : Option (List ℕ)) (faults faults' : ℕ) (given more whole : List ℕ) → WasPassed failed held held' faults faults' given → given ++ more ≡ whole
    → GrowsPrefix held held' whole
passed_prefix false held held' faults faults' given more whole x e =
    grows_prefix_more held held' given more whole (prefix_grows held held' given (record { prefix = given; rest = []; parts = sym (append-nil given); appended = x.0 })) e
passed_prefix true held held' faults faults' given more whole x e = grows_prefix_more held held' given more whole x.0 e
