-- A list without one of its numbers, none of which stands twice.
use Rattle.fw_async.proofs.Common.{◌≡◌, ◌≢◌, ℕ, zero, suc, ◌+◌, ◌-◌, ◌<◌, ◌≤◌, List, [], ◌∷◌, ◌++◌, length, take, drop, get_or, Bool, true, false, eqb, ◌||◌, arith, refl, ap, sym, ◌∙◌, common_steps}
use Rattle.std.proofs.Common.{not}
use Rattle.std.specs.List.{filter, list_any, IsDistinct, AllByRecursion, remove}
use Rattle.std.proofs.lemmas.Bool.{eq-eqb, eqb-true}
use Rattle.std.proofs.lemmas.List.{drop-append-le, drop-take, drop-drop, get_or-drop}

abbrev pub others : ℕ → List ℕ → List ℕ
others q xs = filter (λ x. not (eqb q x)) xs

or_false : (a b : Bool) → (a || b) ≡ false → (a ≡ false) × (b ≡ false)
or_false false b h = (refl, h)
or_false true b h = cc

pub apart : (a b : ℕ) → a ≢ b → eqb a b ≡ false
apart a b n = grind (arith, eqb-true a b)

-- a number that does not stand there takes nothing away
pub none_here : (q : ℕ) (xs : List ℕ) → list_any (eqb q) xs ≡ false → others q xs ≡ xs
none_here q [] h = refl
none_here q (x ∷ xs) h =
    let e = or_false (eqb q x) (list_any (eqb q) xs) h in
    rw e.0 (ap (λ t. x ∷ t) (none_here q xs e.1))

head_apart : (x : ℕ) (xs : List ℕ) → AllByRecursion (λ y. eqb x y ≡ false) xs → list_any (eqb x) xs ≡ false
head_apart x [] h = refl
head_apart x (y ∷ ys) h = rw h.0 (head_apart x ys h.1)

at_apart : (x : ℕ) (xs : List ℕ) (i : ℕ) → AllByRecursion (λ y. eqb x y ≡ false) xs → i < length xs → eqb x (get_or xs i 0) ≡ false
at_apart x [] i h less = let no : ⊥ = omega arith in absurd no
at_apart x (y ∷ ys) zero h less = h.0
at_apart x (y ∷ ys) (suc i) h less = at_apart x ys i h.1 (omega arith)

swap_false : (a b : ℕ) → eqb a b ≡ false → eqb b a ≡ false
swap_false a b h = apart b a (λ e. cc (h, eq-eqb a b (sym e)))

-- the one that stands at a place is the one that is taken away
pub one_gone : (q : ℕ) (xs : List ℕ) (i : ℕ) → IsDistinct eqb xs → i < length xs → get_or xs i 0 ≡ q → others q xs ≡ take i xs ++ drop (suc i) xs
unfolding IsDistinct
one_gone q [] i d less e = let no : ⊥ = omega arith in absurd no
one_gone q (x ∷ xs) zero d less e =
    rw (eq-eqb q x (sym e)) (none_here q xs (rw (sym e) (head_apart x xs d.0)))
one_gone q (x ∷ xs) (suc i) d less e =
    let here : eqb x q ≡ false = ap (eqb x) (sym e) ∙ at_apart x xs i d.0 (omega arith) in
    rw (swap_false x q here) (ap (λ t. x ∷ t) (one_gone q xs i d.1 (omega arith) e))

pub no_member : (q : ℕ) (xs : List ℕ) → ((i : ℕ) → i < length xs → get_or xs i 0 ≢ q) → list_any (eqb q) xs ≡ false
no_member q [] h = refl
no_member q (x ∷ xs) h =
    rw (apart q x (λ e. h 0 (omega arith) (sym e))) (no_member q xs (λ i less. h (suc i) (omega arith)))

-- of a list whose first n have gone: the next goes, a later one goes, or none
pub first_gone : (q : ℕ) (xs : List ℕ) (n : ℕ) → IsDistinct eqb (drop n xs) → n < length xs → get_or xs n 0 ≡ q → drop (n + 1) xs ≡ others q (drop n xs)
first_gone q xs n d less e =
    let sum : n + 0 ≡ n = omega arith in
    let size : 0 < length (drop n xs) = grind (arith, common_steps) in
    let here : get_or (drop n xs) 0 0 ≡ q = get_or-drop n xs 0 0 ∙ ap (λ (t : ℕ). get_or xs t 0) sum ∙ e in
    let all : others q (drop n xs) ≡ drop 1 (drop n xs) = one_gone q (drop n xs) 0 d size here in
    sym (all ∙ drop-drop 1 n xs)

gone_after : (q : ℕ) (xs : List ℕ) (n k : ℕ) → IsDistinct eqb (drop n xs) → n + k < length xs → get_or xs (n + k) 0 ≡ q → drop n (take (n + k) xs ++ drop (suc (n + k)) xs) ≡ others q (drop n xs)
gone_after q xs n k d less e =
    let size : k < length (drop n xs) = grind (arith, common_steps) in
    let here : get_or (drop n xs) k 0 ≡ q = get_or-drop n xs k 0 ∙ e in
    let all : others q (drop n xs) ≡ take k (drop n xs) ++ drop (suc k) (drop n xs) = one_gone q (drop n xs) k d size here in
    let long : n ≤ length (take (n + k) xs) = grind (arith, common_steps) in
    let split : drop n (take (n + k) xs ++ drop (suc (n + k)) xs) ≡ drop n (take (n + k) xs) ++ drop (suc (n + k)) xs = drop-append-le n (take (n + k) xs) (drop (suc (n + k)) xs) long in
    let prefix : drop n (take (n + k) xs) ≡ take k (drop n xs) = drop-take n k xs in
    let sum : n + suc k ≡ suc (n + k) = omega arith in
    let rest : drop (suc k) (drop n xs) ≡ drop (suc (n + k)) xs = drop-drop (suc k) n xs ∙ ap (λ (t : ℕ). drop t xs) sum in
    split ∙ ap (λ t. t ++ drop (suc (n + k)) xs) prefix ∙ ap (λ t. take k (drop n xs) ++ t) (sym rest) ∙ sym all

pub later_gone : (q : ℕ) (xs : List ℕ) (n at : ℕ) → IsDistinct eqb (drop n xs) → n ≤ at → at < length xs → get_or xs at 0 ≡ q → drop n (remove xs at) ≡ others q (drop n xs)
later_gone q xs n at d from less e =
    let k : n + (at - n) ≡ at = omega arith in
    let following = gone_after q xs n (at - n) d (omega arith) (ap (λ (t : ℕ). get_or xs t 0) k ∙ e) in
    ap (λ (t : ℕ). drop n (take t xs ++ drop (suc t) xs)) (sym k) ∙ following

pub none_gone : (q : ℕ) (xs : List ℕ) (n : ℕ) → n ≤ length xs → ((i : ℕ) → n ≤ i → i < length xs → get_or xs i 0 ≢ q) → drop n xs ≡ others q (drop n xs)
none_gone q xs n few h =
    let size : length (drop n xs) ≡ length xs - n = grind (arith, common_steps) in
    let away = λ (i : ℕ) (less : i < length (drop n xs)) (e : get_or (drop n xs) i 0 ≡ q). h (n + i) (omega arith) (omega arith) (sym (get_or-drop n xs i 0) ∙ e) in
    sym (none_here q (drop n xs) (no_member q (drop n xs) away))
