-- Where names stand: a place that is kept is that of the first of its name.
use Rattle.fw_devices.proofs.Common.{◌≡◌, ◌<◌, ◌≤◌, ◌++◌, ◌∷◌, [], ◌∙◌, inl, inr, ℕ, List, Bool, true, Some, None, length, get_or, arith, refl, sym, ap, subst, cases_eq, cases_lt, length_push}
use Rattle.fw_devices.proofs.Common.{same_bytes}
use Rattle.std.proofs.Common.{set, position, not, get_or-set_same, get_or-set_other}
use Rattle.std.specs.List.{position_or_len}
use Rattle.std.proofs.lemmas.Bool.Decides.{nat_tests}
use Rattle.std.proofs.Math.ListN.{replicate}
use Rattle.std.proofs.lemmas.List.{get_or_append_left, get_or_push, get_or-replicate, get_or_past, length-replicate, set_past}
use Rattle.std.proofs.lemmas.List.Folds.{position_or_len_push}
use Rattle.std.proofs.lemmas.List.Sums.{prefix_len-le-length}
use Rattle.fw_devices.specs.Names.{HasPlaces}

-- a name is the same as itself
pub same_self : (xs : List ℕ) → same_bytes xs xs ≡ true
same_self [] = refl
same_self (x ∷ xs) = rw (same_self xs) (grind (arith, nat_tests))

-- and as no other
pub same_is : (xs ys : List ℕ) → same_bytes xs ys ≡ true → xs ≡ ys
same_is [] [] e = refl
same_is [] (y ∷ ys) e = absurd (grind arith)
same_is (x ∷ xs) [] e = absurd (grind arith)
same_is (x ∷ xs) (y ∷ ys) e = grind (arith, nat_tests, same_is xs ys)

-- the place that is kept is the first of its name
pub found : (name : List ℕ) (names : List (List ℕ)) (place : ℕ) → same_bytes name (get_or names place []) ≡ true → place < length names
    → position_or_len (same_bytes (get_or names place [])) names ≡ place → Some place ≡ position (same_bytes name) names
found name names place same low first =
    let e = same_is name (get_or names place []) same in
    let at : position_or_len (same_bytes name) names ≡ place = ap (λ x. position_or_len (same_bytes x) names) e ∙ first in
    rw at (grind (arith, nat_tests))

-- no name was passed
pub nowhere : (test : List ℕ → Bool) (names : List (List ℕ)) → position test names ≡ None → length names ≤ position_or_len test names
nowhere test names none = grind (arith, nat_tests)

-- a list of one number reads as it everywhere
pub always : (n key v : ℕ) → get_or (replicate n v) key v ≡ v
always n key v = elim (cases_lt key n) [ inl low ↦ get_or-replicate n key v v low | inr far ↦ get_or_past (replicate n v) key v (rw length-replicate far) ]

-- the places of one name more: those that are kept stay, and are those of the first of their names
kept_first : (names : List (List ℕ)) (place : ℕ) (x : List ℕ) → place < length names → position_or_len (same_bytes (get_or names place [])) names ≡ place
    → position_or_len (same_bytes (get_or (names ++ x ∷ []) place [])) (names ++ x ∷ []) ≡ place
kept_first names place x low first =
    let same : get_or (names ++ x ∷ []) place [] ≡ get_or names place [] = get_or_append_left names (x ∷ []) [] place low in
    rw (same, position_or_len_push (same_bytes (get_or names place [])) names x) (grind (arith, nat_tests))

-- the place after the names is that of the first of a name that was not there
new_first : (names : List (List ℕ)) (x : List ℕ) → position (same_bytes x) names ≡ None
    → position_or_len (same_bytes (get_or (names ++ x ∷ []) (length names) [])) (names ++ x ∷ []) ≡ length names
new_first names x none =
    let same : get_or (names ++ x ∷ []) (length names) [] ≡ x = get_or_push names x [] (length names) refl in
    let far = nowhere (same_bytes x) names none in
    let most : position_or_len (same_bytes x) names ≤ length names = prefix_len-le-length (λ y. not (same_bytes x y)) names in
    let self = same_self x in
    rw (same, position_or_len_push (same_bytes x) names x, self) (grind (arith, nat_tests))

-- a name more, of which no key is kept
pub one_more : (names : List (List ℕ)) (places : List ℕ) (capacity capacity' : ℕ) (x : List ℕ) → HasPlaces names places capacity → length names < 63 → 63 ≤ capacity'
    → HasPlaces (names ++ x ∷ []) places capacity'
one_more names places capacity capacity' x h few room =
    let size = length_push names x in
    record {
      room = room;
      few = omega arith;
      first = λ k low. elim (cases_lt (get_or places k 255) (length names)) [
        | inl here ↦ kept_first names (get_or places k 255) x here (h.first k here)
        | inr far ↦ absurd (omega (arith, h.none k far))
      ];
      none = λ k far. h.none k (omega arith);
    }

-- what is true of each place, if there is a name more
IsPlace : List (List ℕ) → ℕ → Type 0
IsPlace names p = (p < length names → position_or_len (same_bytes (get_or names p [])) names ≡ p) × (length names ≤ p → p ≡ 255)

-- a name more, whose key is kept if it is the first of its name
pub one_kept : (names : List (List ℕ)) (places : List ℕ) (capacity capacity' : ℕ) (x : List ℕ) (key : ℕ) → HasPlaces names places capacity → length names < 63 → 63 ≤ capacity'
    → position (same_bytes x) names ≡ None → HasPlaces (names ++ x ∷ []) (set places key (length names)) capacity'
unfolding IsPlace
one_kept names places capacity capacity' x key h few room none =
    let more = one_more names places capacity capacity' x h few room in
    let size = length_push names x in
    let new : IsPlace (names ++ x ∷ []) (length names) = ((λ _. new_first names x none), (λ far. absurd (omega arith))) in
    let at : (k : ℕ) → IsPlace (names ++ x ∷ []) (get_or (set places key (length names)) k 255) = λ k. elim (cases_eq k key) [
      | inl same ↦ elim (cases_lt key (length places)) [
        | inl low ↦ subst (IsPlace (names ++ x ∷ [])) (sym (ap (λ i. get_or (set places key (length names)) i 255) same ∙ get_or-set_same places key (length names) 255 low)) new
        | inr far ↦ subst (IsPlace (names ++ x ∷ [])) (sym (ap (λ l. get_or l k 255) (set_past places key (length names) far))) (more.first k, more.none k)
      ]
      | inr other ↦ subst (IsPlace (names ++ x ∷ [])) (sym (get_or-set_other places key k (length names) 255 other)) (more.first k, more.none k)
    ] in
    record { room = room; few = more.few; first = λ k. (at k).0; none = λ k. (at k).1 }
