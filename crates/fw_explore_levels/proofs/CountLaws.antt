-- Laws of counts: of none, of one, of two apart, of those with one move more.
use Rattle.std.proofs.Common.{ℕ, suc, zero, ◌≡◌, ◌+◌, ◌↔◌, ◌⊎◌, min, true, false, List, [], ◌∷◌, ◌++◌, length, map, inl, inr, refl, sym, ap, subst, ◌∙◌, arith, length-append}
use Rattle.std.specs.List.{Contains, IsDistinct}
use Rattle.std.specs.Str.{bytes_eq}
use Rattle.std.proofs.lemmas.List.{length-map, same_from_push, get_or_default}
use Rattle.std.proofs.lemmas.List.Elements.{All-from_recursion, recursion_from_All, All-contains, Contains-append_left, Contains-append_right, Contains-append_cases}
use Rattle.std.proofs.lemmas.Slice.Eq.{bytes_eq-Decides}
use Rattle.std.proofs.lemmas.Bool.{false≢true}
use Rattle.fw_explore_levels.specs.Counting.{most_told, Counts}

-- ---- membership

pub contains_none : (w : List ℕ) → Contains [] w → ⊥
contains_none w h = absurd (omega (arith, h.1))

pub contains_head : (x : List ℕ) (xs : List (List ℕ)) → Contains (x ∷ xs) x
contains_head x xs = (0, omega arith, refl)

pub contains_tail : (x : List ℕ) (xs : List (List ℕ)) (w : List ℕ) → Contains xs w → Contains (x ∷ xs) w
contains_tail x xs w h = (suc h.0, omega (arith, h.1), h.2)

pub contains_cases : (x : List ℕ) (xs : List (List ℕ)) (w : List ℕ) → Contains (x ∷ xs) w → (x ≡ w) ⊎ Contains xs w
contains_cases x xs w (zero, h, e) = inl e
contains_cases x xs w (suc k, h, e) = inr (k, omega (arith, h), e)

-- ---- lists that have each element once

test_false : (x y : List ℕ) → (x ≡ y → ⊥) → bytes_eq x y ≡ false
test_false x y n = elim (bytes_eq x y) as (λ b. (b ≡ true → x ≡ y) → b ≡ false) [ true ↦ λ h. absurd (n (h refl)) | false ↦ λ h. refl ] ((bytes_eq-Decides x y).0)

test_apart : (x y : List ℕ) → bytes_eq x y ≡ false → x ≡ y → ⊥
test_apart x y f e = false≢true (sym f ∙ (bytes_eq-Decides x y).1 e)

pub distinct_cons : (x : List ℕ) (xs : List (List ℕ)) → (Contains xs x → ⊥) → IsDistinct bytes_eq xs → IsDistinct bytes_eq (x ∷ xs)
unfolding IsDistinct
distinct_cons x xs n d = (recursion_from_All _ xs (λ k e h. test_false x _ (λ same. n (k, h, get_or_default xs k x e h ∙ sym same))), d)

pub distinct_head : (x : List ℕ) (xs : List (List ℕ)) → IsDistinct bytes_eq (x ∷ xs) → Contains xs x → ⊥
unfolding IsDistinct
distinct_head x xs d h = test_apart x x (All-contains (λ y. bytes_eq x y ≡ false) xs x (All-from_recursion _ xs d.0) h) refl

pub distinct_tail : (x : List ℕ) (xs : List (List ℕ)) → IsDistinct bytes_eq (x ∷ xs) → IsDistinct bytes_eq xs
unfolding IsDistinct
distinct_tail x xs d = d.1

pub distinct_append : (xs ys : List (List ℕ)) → IsDistinct bytes_eq xs → IsDistinct bytes_eq ys → ((w : List ℕ) → Contains xs w → Contains ys w → ⊥) → IsDistinct bytes_eq (xs ++ ys)
distinct_append [] ys dx dy n = dy
distinct_append (x ∷ xs) ys dx dy n =
    distinct_cons x (xs ++ ys)
    (λ h. elim (Contains-append_cases xs ys x h) [ inl a ↦ distinct_head x xs dx a | inr b ↦ n x (contains_head x xs) b ])
    (distinct_append xs ys (distinct_tail x xs dx) dy (λ w a b. n w (contains_tail x xs w a) b))

distinct_none : IsDistinct bytes_eq []
unfolding IsDistinct
distinct_none = tt

-- ---- with one move more

abbrev pub pushed : ℕ → List (List ℕ) → List (List ℕ)
pushed p xs = map (λ w. w ++ p ∷ []) xs

pub contains_pushed : (p : ℕ) (xs : List (List ℕ)) (w : List ℕ) → Contains xs w → Contains (pushed p xs) (w ++ p ∷ [])
contains_pushed p [] w h = absurd (contains_none w h)
contains_pushed p (x ∷ xs) w h =
    elim (contains_cases x xs w h) [
      | inl e ↦ subst (λ v. Contains (pushed p (x ∷ xs)) (v ++ p ∷ [])) e (contains_head (x ++ p ∷ []) (pushed p xs))
      | inr t ↦ contains_tail (x ++ p ∷ []) (pushed p xs) (w ++ p ∷ []) (contains_pushed p xs w t)
    ]

pub pushed_contains : (p : ℕ) (xs : List (List ℕ)) (v : List ℕ) → Contains (pushed p xs) v → (w : List ℕ) × (v ≡ w ++ p ∷ []) × Contains xs w
pushed_contains p [] v h = absurd (contains_none v h)
pushed_contains p (x ∷ xs) v h =
    elim (contains_cases (x ++ p ∷ []) (pushed p xs) v h) [
      | inl e ↦ (x, sym e, contains_head x xs)
      | inr t ↦ let r = pushed_contains p xs v t in (r.0, r.1, contains_tail x xs r.0 r.2)
    ]

pub distinct_pushed : (p : ℕ) (xs : List (List ℕ)) → IsDistinct bytes_eq xs → IsDistinct bytes_eq (pushed p xs)
unfolding IsDistinct
distinct_pushed p [] d = d
distinct_pushed p (x ∷ xs) d =
    distinct_cons (x ++ p ∷ []) (pushed p xs)
    (λ h. let r = pushed_contains p xs (x ++ p ∷ []) h in distinct_head x xs d (subst (Contains xs) (sym (same_from_push x r.0 p p r.1).0) r.2))
    (distinct_pushed p xs (distinct_tail x xs d))

-- ---- counts

pub counts_none : (IsSo : List ℕ → Type 0) → ((w : List ℕ) → IsSo w → ⊥) → Counts IsSo 0
unfolding IsDistinct
counts_none IsSo n = record { all = []; once = tt; exactly = λ w. (λ h. absurd (contains_none w h), λ h. absurd (n w h)); count = refl }

pub counts_one : (IsSo : List ℕ → Type 0) (one : List ℕ) → IsSo one → ((w : List ℕ) → IsSo w → one ≡ w) → Counts IsSo 1
counts_one IsSo one is only = record {
  all = one ∷ [];
  once = distinct_cons one [] (contains_none one) distinct_none;
  exactly = λ w. (λ h. elim (contains_cases one [] w h) [ inl e ↦ subst IsSo e is | inr t ↦ absurd (contains_none w t) ], λ h. subst (Contains (one ∷ [])) (only w h) (contains_head one []));
  count = refl;
}

pub counts_same : (A B : List ℕ → Type 0) (n : ℕ) → ((w : List ℕ) → A w ↔ B w) → Counts A n → Counts B n
counts_same A B n same c = record {
  all = c.all;
  once = c.once;
  exactly = λ w. (λ h. (same w).0 ((c.exactly w).0 h), λ h. (c.exactly w).1 ((same w).1 h));
  count = c.count;
}

least_sum : (top m n a b : ℕ) → m ≡ min top a → n ≡ min top b → min top (m + n) ≡ min top (a + b)
least_sum top m n a b e f = omega (arith, e, f)

pub counts_both : (A B : List ℕ → Type 0) (m n : ℕ) → ((w : List ℕ) → A w → B w → ⊥) → Counts A m → Counts B n → Counts (λ w. A w ⊎ B w) (min most_told (m + n))
counts_both A B m n apart a b = record {
  all = a.all ++ b.all;
  once = distinct_append a.all b.all a.once b.once (λ w h k. apart w ((a.exactly w).0 h) ((b.exactly w).0 k));
  exactly = λ w. (
    λ h. elim (Contains-append_cases a.all b.all w h) [ inl x ↦ inl ((a.exactly w).0 x) | inr y ↦ inr ((b.exactly w).0 y) ],
    λ h. elim h [ inl x ↦ Contains-append_left a.all b.all w ((a.exactly w).1 x) | inr y ↦ Contains-append_right a.all b.all w ((b.exactly w).1 y) ],
  );
  count = least_sum most_told m n (length a.all) (length b.all) a.count b.count ∙ ap (min most_told) (sym (length-append a.all b.all));
}

-- those that are so, each with the move p after it
pub counts_pushed : (A : List ℕ → Type 0) (n p : ℕ) → Counts A n → Counts (λ v. (w : List ℕ) × (v ≡ w ++ p ∷ []) × A w) n
counts_pushed A n p c = record {
  all = pushed p c.all;
  once = distinct_pushed p c.all c.once;
  exactly = λ v. (
    λ h. let r = pushed_contains p c.all v h in (r.0, r.1, (c.exactly r.0).0 r.2),
    λ h. subst (Contains (pushed p c.all)) (sym h.1) (contains_pushed p c.all h.0 ((c.exactly h.0).1 h.2)),
  );
  count = c.count ∙ ap (min most_told) (sym (length-map c.all (λ w. w ++ p ∷ [])));
}
