-- Lines of what is told of, one after the other.
use Rattle.std.proofs.Common.{ℕ, ◌≡◌, ◌+◌, ◌<◌, ◌≤◌, List, [], ◌∷◌, ◌++◌, cond, Bool, true, false, length, take, get_or, refl, sym, ap, ◌∙◌, arith, append-nil, append_assoc, add-one}
use Rattle.std.specs.List.{filter, flat_map}
use Rattle.std.proofs.lemmas.List.{take_more, length-take-le}
use Rattle.std.proofs.lemmas.List.Concat.{flat_map-append}
use Rattle.std.proofs.lemmas.List.Elements.{filter-append}
use Rattle.fw_log_entry.specs.declared.entry.Entry.{Entry}
use Rattle.fw_explore_told.specs.declared.past.ToldEntry.{ToldEntry}
use Rattle.fw_explore_movers.specs.declared.mover.Mover.{Mover}
use Rattle.fw_explore_told.specs.Telling.{is_of_controller, is_of_candidate}
use Rattle.fw_explore_told.specs.Sayings.{entry_of, said_text, said_by, said_of, unmarked_by, unmarked, unmarked_from}

pub said_append : (test : Entry → Bool) (xs ys : List ToldEntry) → said_by test (xs ++ ys) ≡ said_by test xs ++ said_by test ys
said_append test xs ys =
    ap (flat_map said_text) (filter-append (λ (t : ToldEntry). test (entry_of t)) xs ys)
    ∙ flat_map-append said_text (filter (λ (t : ToldEntry). test (entry_of t)) xs) (filter (λ (t : ToldEntry). test (entry_of t)) ys)

-- one that passes is told, and another is not
pub one_told : (test : Entry → Bool) (t : ToldEntry) → test (entry_of t) ≡ true → said_by test (t ∷ []) ≡ said_text t
one_told test t e = ap (λ b. flat_map said_text (cond b (t ∷ []) [])) e ∙ append-nil (said_text t)

pub none_told : (test : Entry → Bool) (t : ToldEntry) → test (entry_of t) ≡ false → said_by test (t ∷ []) ≡ []
none_told test t e = ap (λ b. flat_map said_text (cond b (t ∷ []) [])) e

-- the first of a list and one more
pub said_more : (test : Entry → Bool) (out : List ℕ) (xs : List ToldEntry) (i : ℕ) (d : ToldEntry) → i < length xs → (now after : List ℕ)
    → now ≡ out ++ said_by test (take i xs) → after ≡ now ++ said_by test (get_or xs i d ∷ [])
    → after ≡ out ++ said_by test (take (i + 1) xs)
said_more test out xs i d h now after e f =
    f ∙ ap (λ z. z ++ said_by test (get_or xs i d ∷ [])) e ∙ append_assoc out (said_by test (take i xs)) (said_by test (get_or xs i d ∷ []))
    ∙ ap (λ z. out ++ z) (sym (said_append test (take i xs) (get_or xs i d ∷ [])) ∙ ap (said_by test) (sym (take_more xs i d h)))

-- ---- device by device

pub none_said : (said : List ToldEntry) → said_of 0 said ≡ []
unfolding said_of
none_said said = refl

pub next_said : (said : List ToldEntry) (d : ℕ) → said_of (d + 1) said ≡ said_of d said ++ said_by (is_of_controller d) said ++ said_by (is_of_candidate d) said
unfolding said_of
next_said said d = rw (add-one d) refl

-- one device more
pub device_more : (said : List ToldEntry) (d : ℕ) (out now after : List ℕ) → now ≡ out ++ said_of d said
    → after ≡ now ++ (said_by (is_of_controller d) said ++ said_by (is_of_candidate d) said) → after ≡ out ++ said_of (d + 1) said
device_more said d out now after e f =
    let a : List ℕ = said_by (is_of_controller d) said in
    let b : List ℕ = said_by (is_of_candidate d) said in
    let next : said_of d said ++ (a ++ b) ≡ said_of (d + 1) said = sym (append_assoc (said_of d said) a b) ∙ sym (next_said said d) in
    f ∙ ap (λ z. z ++ (a ++ b)) e ∙ append_assoc out (said_of d said) (a ++ b) ∙ ap (λ z. out ++ z) next

-- ---- movers that are not marked

pub none_unmarked : (done : List Bool) → unmarked_from done 0 [] ≡ []
unfolding unmarked_from
none_unmarked done = refl

unmarked_push : (done : List Bool) (p : ℕ) (xs : List Mover) (m : Mover) → unmarked_from done p (xs ++ m ∷ []) ≡ unmarked_from done p xs ++ unmarked done (p + length xs) m
unfolding unmarked_from
unmarked_push done p [] m = let here : p ≡ p + 0 = omega arith in append-nil (unmarked done p m) ∙ ap (λ k. unmarked done k m) here
unmarked_push done p (x ∷ xs) m =
    let there : p + 1 + length xs ≡ p + length (x ∷ xs) = omega arith in
    ap (λ z. unmarked done p x ++ z) (unmarked_push done (p + 1) xs m ∙ ap (λ k. unmarked_from done (p + 1) xs ++ unmarked done k m) there)
    ∙ sym (append_assoc (unmarked done p x) (unmarked_from done (p + 1) xs) (unmarked done (p + length (x ∷ xs)) m))

-- one more was looked at
pub unmarked_more : (done : List Bool) (out : List ℕ) (xs : List Mover) (i : ℕ) (m : Mover) (was : Bool) → i < length xs → get_or xs i m ≡ m → get_or done i false ≡ was → (now after : List ℕ)
    → now ≡ out ++ unmarked_from done 0 (take i xs) → after ≡ now ++ unmarked_by was m → after ≡ out ++ unmarked_from done 0 (take (i + 1) xs)
unmarked_more done out xs i m was h at mark now after e f =
    let small : i ≤ length xs = omega (arith, h) in
    let size : 0 + length (take i xs) ≡ i = omega (arith, length-take-le i xs small) in
    let more : unmarked_from done 0 (take (i + 1) xs) ≡ unmarked_from done 0 (take i xs) ++ unmarked_by was m =
    ap (unmarked_from done 0) (take_more xs i m h) ∙ unmarked_push done 0 (take i xs) (get_or xs i m) ∙ ap (λ k. unmarked_from done 0 (take i xs) ++ unmarked done k (get_or xs i m)) size
    ∙ ap (λ b. unmarked_from done 0 (take i xs) ++ unmarked_by b (get_or xs i m)) mark ∙ ap (λ (n : Mover). unmarked_from done 0 (take i xs) ++ unmarked_by was n) at in
    f ∙ ap (λ z. z ++ unmarked_by was m) e ∙ append_assoc out (unmarked_from done 0 (take i xs)) (unmarked_by was m) ∙ ap (λ z. out ++ z) (sym more)
