-- The pairs of senders, and what is left of them.
use Rattle.fw_async.proofs.Common.{◌≡◌, ◌≢◌, inl, inr, ℕ, ◌<◌, ◌≤◌, List, [], ◌∷◌, ◌++◌, length, take, get_or, replicate, Bool, true, false, eqb, ◌||◌, Some, None, arith, refl, ap, sym, subst, ◌∙◌}
use Rattle.fw_async.proofs.Common.{length-append, cases_lt, common_steps, bytes_from, IsKept}
use Rattle.std.proofs.Common.{◌⊎◌, slice_set, map}
use Rattle.std.proofs.Common.{cond, not, ◌&&◌}
use Rattle.std.specs.List.{filter, list_any, IsDistinct, AllByRecursion}
use Rattle.std.proofs.lemmas.Bool.{eq-eqb, eqb-true, cases_Bool}
use Rattle.std.proofs.Math.ListN.{get_or-eq_default}
use Rattle.std.proofs.lemmas.List.{get_or-set_same, get_or-set_other, get_or-replicate, length-replicate, map-append}
use Rattle.std.proofs.lemmas.List.Folds.{list_any-append}
use Rattle.std.proofs.lemmas.Map.Views.{any-filter_same}
use Rattle.std.proofs.lemmas.Map.Steps.{length-le_from_distinct_below}
use Rattle.fw_async.specs.Wire.{Pairs, without, bytes_at, pairs_at}
use Rattle.fw_async.proofs.SenderLaws.{others, apart, none_here}

-- the pairs of senders by their bytes
abbrev pub pairs_by : (ℕ → List ℕ) → List ℕ → Pairs
pairs_by f senders = map (λ sender. (sender, f sender)) senders

pub look : (q : ℕ) (f : ℕ → List ℕ) (xs : List ℕ) → bytes_from q (pairs_by f xs) ≡ cond (list_any (eqb q) xs) (Some (f q)) None
look q f [] = refl
look q f (x ∷ xs) = by (eqb q x) (λ e. ap f (sym (eqb-true q x e))) (look q f xs)
  where
    by : (b : Bool) → (b ≡ true → f x ≡ f q) → bytes_from q (pairs_by f xs) ≡ cond (list_any (eqb q) xs) (Some (f q)) None
        → cond b (Some (f x)) (bytes_from q (pairs_by f xs)) ≡ cond (b || list_any (eqb q) xs) (Some (f q)) None
    by true h more = ap Some (h refl)
    by false h more = more

pub left : (q : ℕ) (f : ℕ → List ℕ) (xs : List ℕ) → without q (pairs_by f xs) ≡ pairs_by f (others q xs)
left q f [] = refl
left q f (x ∷ xs) = by (not (eqb q x)) (left q f xs)
  where
    by : (b : Bool) → without q (pairs_by f xs) ≡ pairs_by f (others q xs)
        → cond b ((x, f x) ∷ without q (pairs_by f xs)) (without q (pairs_by f xs)) ≡ pairs_by f (cond b (x ∷ others q xs) (others q xs))
    by true more = ap (λ t. (x, f x) ∷ t) more
    by false more = more

or_right : (a b : Bool) → b ≡ true → (a || b) ≡ true
or_right true b h = refl
or_right false b h = h

pub same_by : (f g : ℕ → List ℕ) (xs : List ℕ) → ((s : ℕ) → list_any (eqb s) xs ≡ true → f s ≡ g s) → pairs_by f xs ≡ pairs_by g xs
same_by f g [] h = refl
same_by f g (x ∷ xs) h =
    let here : f x ≡ g x = h x (rw (eq-eqb x x refl) refl) in
    let more : pairs_by f xs ≡ pairs_by g xs = same_by f g xs (λ s m. h s (or_right (eqb s x) (list_any (eqb s) xs) m)) in
    ap (λ t. (x, t) ∷ pairs_by f xs) here ∙ ap (λ t. (x, g x) ∷ t) more

decide : (s q : ℕ) → (s ≡ q) ⊎ (s ≢ q)
decide s q = elim (cases_Bool (eqb s q)) [ inl y ↦ inl (eqb-true s q y) | inr n ↦ inr (λ e. cc (eq-eqb s q e, n)) ]

-- who stands with one more, and with one less
member_more : (s q : ℕ) (xs : List ℕ) → list_any (eqb s) (xs ++ q ∷ []) ≡ (list_any (eqb s) xs || (eqb s q || false))
member_more s q xs = list_any-append (eqb s) xs (q ∷ [])

member_others : (s q : ℕ) (xs : List ℕ) → list_any (eqb s) (others q xs) ≡ (not (eqb q s) && list_any (eqb s) xs)
member_others s q xs = any-filter_same (eqb s) (λ x. not (eqb q x)) (not (eqb q s)) (λ k e. ap (λ (t : ℕ). not (eqb q t)) (sym (eqb-true s k e))) xs

all_more : (x q : ℕ) (xs : List ℕ) → AllByRecursion (λ y. eqb x y ≡ false) xs → eqb x q ≡ false → AllByRecursion (λ y. eqb x y ≡ false) (xs ++ q ∷ [])
all_more x q [] h e = (e, tt)
all_more x q (y ∷ ys) h e = (h.0, all_more x q ys h.1 e)

apart_more : (q : ℕ) (xs : List ℕ) → IsDistinct eqb xs → ((x : ℕ) → list_any (eqb x) xs ≡ true → eqb x q ≡ false) → IsDistinct eqb (xs ++ q ∷ [])
unfolding IsDistinct
apart_more q [] d h = (tt, tt)
apart_more q (x ∷ xs) d h =
    (all_more x q xs d.0 (h x (rw (eq-eqb x x refl) refl)), apart_more q xs d.1 (λ y m. h y (or_right (eqb y x) (list_any (eqb y) xs) m)))

all_less : (x : ℕ) (p : ℕ → Bool) (xs : List ℕ) → AllByRecursion (λ y. eqb x y ≡ false) xs → AllByRecursion (λ y. eqb x y ≡ false) (filter p xs)
all_less x p [] h = tt
all_less x p (y ∷ ys) h = by (p y) (all_less x p ys h.1)
  where
    by : (b : Bool) → AllByRecursion (λ y. eqb x y ≡ false) (filter p ys) → AllByRecursion (λ y. eqb x y ≡ false) (cond b (y ∷ filter p ys) (filter p ys))
    by true more = (h.0, more)
    by false more = more

apart_less : (p : ℕ → Bool) (xs : List ℕ) → IsDistinct eqb xs → IsDistinct eqb (filter p xs)
unfolding IsDistinct
apart_less p [] d = tt
apart_less p (x ∷ xs) d = by (p x) (apart_less p xs d.1)
  where
    by : (b : Bool) → IsDistinct eqb (filter p xs) → IsDistinct eqb (cond b (x ∷ filter p xs) (filter p xs))
    by true more = (all_less x p xs d.0, more)
    by false more = more

stranger : (q x : ℕ) (xs : List ℕ) → list_any (eqb q) xs ≡ false → list_any (eqb x) xs ≡ true → eqb x q ≡ false
stranger q x xs absent m = apart x q (λ e. cc (absent, m, e))

all_zero : (n s : ℕ) → get_or {A = ℕ} (replicate n 0) s 0 ≡ 0
all_zero n s = elim (cases_lt s n) [ inl less ↦ get_or-replicate n s 0 0 less | inr more ↦ get_or-eq_default (replicate n 0) 0 (omega (arith, length-replicate {A = ℕ} n 0)) ]

pub nothing_kept : (senders : List ℕ) → senders ≡ [] → IsKept (replicate 63 0) senders
unfolding IsDistinct
nothing_kept senders e =
    let P : List ℕ → Type 0 = IsKept (replicate 63 0) in
    subst P (sym e) (record { apart = tt; size = refl; whole = λ s. omega (arith, zeros s); standing = λ s m. cc m; free = λ s h. absurd (h (zeros s)) })
  where
    zeros : (s : ℕ) → get_or {A = ℕ} (replicate 63 0) s 0 ≡ 0
    zeros s = all_zero 63 s

-- a sender without a pair may put one
pub room : (lengths senders : List ℕ) (q : ℕ) → IsKept lengths senders → q < 63 → list_any (eqb q) senders ≡ false → length senders < 63
room lengths senders q k less absent =
    let all = apart_more q senders k.apart (λ x m. stranger q x senders absent m) in
    let most : length (senders ++ q ∷ []) ≤ 63 = length-le_from_distinct_below (senders ++ q ∷ []) 63 all (λ s m. within s (sym (member_more s q senders) ∙ m)) in
    omega (arith, length-append senders (q ∷ []))
  where
    by : (s : ℕ) (b : Bool) → b ≡ list_any (eqb s) senders → (b || (eqb s q || false)) ≡ true → s < 63
    by s true e m = (k.standing s (sym e)).0
    by s false e m = elim (decide s q) [ inl same ↦ omega arith | inr other ↦ cc (apart s q other, m) ]

    within : (s : ℕ) → (list_any (eqb s) senders || (eqb s q || false)) ≡ true → s < 63
    within s m = by s (list_any (eqb s) senders) refl m

no_value : (b : Bool) (x : List ℕ) → cond b (Some x) None ≡ None → b ≡ false
no_value true x h = cc
no_value false x h = refl

pub is_absent : (lengths : List ℕ) (rows : List (List ℕ)) (senders : List ℕ) (q : ℕ) → bytes_from q (pairs_at lengths rows senders) ≡ None → list_any (eqb q) senders ≡ false
is_absent lengths rows senders q h = no_value (list_any (eqb q) senders) (bytes_at lengths rows q) (sym (look q (bytes_at lengths rows) senders) ∙ h)

pub found : (lengths : List ℕ) (rows : List (List ℕ)) (senders : List ℕ) (q : ℕ) → IsKept lengths senders → get_or lengths q 0 ≢ 0
    → bytes_from q (pairs_at lengths rows senders) ≡ Some (bytes_at lengths rows q)
found lengths rows senders q k some = look q (bytes_at lengths rows) senders ∙ ap (λ (b : Bool). cond b (Some (bytes_at lengths rows q)) None) (k.free q some)

pub missing : (lengths : List ℕ) (rows : List (List ℕ)) (senders : List ℕ) (q : ℕ) → IsKept lengths senders → get_or lengths q 0 ≡ 0 → bytes_from q (pairs_at lengths rows senders) ≡ None
missing lengths rows senders q k none = look q (bytes_at lengths rows) senders ∙ by (list_any (eqb q) senders) refl
  where
    by : (b : Bool) → b ≡ list_any (eqb q) senders → cond b (Some (bytes_at lengths rows q)) None ≡ None
    by true e = absurd ((k.standing q (sym e)).1 none)
    by false e = refl

slice_set_size : (xs : List ℕ) (i x : ℕ) → length (slice_set xs i x) ≡ length xs
slice_set_size xs i x = grind (arith, common_steps)

pub beyond : (lengths senders : List ℕ) (q : ℕ) → IsKept lengths senders → 63 ≤ q → get_or lengths q 0 ≡ 0
beyond lengths senders q k above = get_or-eq_default lengths 0 (omega (arith, k.size))

-- a pair put, and one taken
pub put_kept : (lengths senders : List ℕ) (q n : ℕ) → IsKept lengths senders → q < 63 → n ≤ 528 → n ≢ 0 → list_any (eqb q) senders ≡ false → IsKept (slice_set lengths q n) (senders ++ q ∷ [])
put_kept lengths senders q n k less few some absent = record {
  size = slice_set_size lengths q n ∙ k.size;
  apart = apart_more q senders k.apart (λ x m. stranger q x senders absent m);
  whole = λ s. elim (decide s q) [ inl same ↦ omega (arith, here s same) | inr other ↦ omega (arith, there s other, k.whole s) ];
  standing = λ s m. by s (list_any (eqb s) senders) refl (sym (member_more s q senders) ∙ m);
  free = λ s h. member_more s q senders ∙ elim (decide s q) [ inl same ↦ last s (list_any (eqb s) senders) same | inr other ↦ first s (k.free s (λ e. h (there s other ∙ e))) ];
}
  where
    here : (s : ℕ) → s ≡ q → get_or (slice_set lengths q n) s 0 ≡ n
    here s same = ap (λ (t : ℕ). get_or (slice_set lengths q n) t 0) same ∙ get_or-set_same lengths q n 0 (omega (arith, k.size))

    there : (s : ℕ) → s ≢ q → get_or (slice_set lengths q n) s 0 ≡ get_or lengths s 0
    there s other = get_or-set_other lengths q s n 0 other

    by : (s : ℕ) (b : Bool) → b ≡ list_any (eqb s) senders → (b || (eqb s q || false)) ≡ true → (s < 63) × (get_or (slice_set lengths q n) s 0 ≢ 0)
    by s true e m =
        let old = k.standing s (sym e) in
        elim (decide s q) [ inl same ↦ cc (absent, e, same) | inr other ↦ (old.0, λ z. old.1 (sym (there s other) ∙ z)) ]
    by s false e m = elim (decide s q) [ inl same ↦ (omega arith, λ z. some (sym (here s same) ∙ z)) | inr other ↦ cc (apart s q other, m) ]

    last : (s : ℕ) (b : Bool) → s ≡ q → (b || (eqb s q || false)) ≡ true
    last s true same = refl
    last s false same = rw (eq-eqb s q same) refl

    first : (s : ℕ) → list_any (eqb s) senders ≡ true → (list_any (eqb s) senders || (eqb s q || false)) ≡ true
    first s m = rw m refl

pub put_pairs : (lengths : List ℕ) (rows : List (List ℕ)) (senders : List ℕ) (q n : ℕ) (row : List ℕ) → q < length lengths → q < length rows → list_any (eqb q) senders ≡ false
    → pairs_at (slice_set lengths q n) (slice_set rows q row) (senders ++ q ∷ []) ≡ pairs_at lengths rows senders ++ (q, take n row) ∷ []
put_pairs lengths rows senders q n row less fits absent =
    let new = bytes_at (slice_set lengths q n) (slice_set rows q row) in
    let here : new q ≡ take n row = ap (λ (t : ℕ). take t (get_or (slice_set rows q row) q [])) (get_or-set_same lengths q n 0 less) ∙ ap (take n) (get_or-set_same rows q row [] fits) in
    let there = λ (s : ℕ) (m : list_any (eqb s) senders ≡ true). elsewhere s (λ e. cc (absent, m, e)) in
    map-append _ senders (q ∷ []) ∙ ap (λ t. t ++ (q, new q) ∷ []) (same_by new (bytes_at lengths rows) senders there) ∙ ap (λ t. pairs_at lengths rows senders ++ (q, t) ∷ []) here
  where
    elsewhere : (s : ℕ) → s ≢ q → bytes_at (slice_set lengths q n) (slice_set rows q row) s ≡ bytes_at lengths rows s
    elsewhere s other = ap (λ (t : ℕ). take t (get_or (slice_set rows q row) s [])) (get_or-set_other lengths q s n 0 other) ∙ ap (take (get_or lengths s 0)) (get_or-set_other rows q s row [] other)

and_both : (a b : Bool) → (a && b) ≡ true → (a ≡ true) × (b ≡ true)
and_both true b h = (refl, h)
and_both false b h = cc

not_same : (q s : ℕ) → not (eqb q s) ≡ true → s ≢ q
not_same q s h e = cc (eq-eqb q s (sym e), h)

pub take_kept : (lengths senders : List ℕ) (q : ℕ) → IsKept lengths senders → q < 63 → IsKept (slice_set lengths q 0) (others q senders)
take_kept lengths senders q k less = record {
  size = slice_set_size lengths q 0 ∙ k.size;
  apart = apart_less (λ x. not (eqb q x)) senders k.apart;
  whole = λ s. elim (decide s q) [ inl same ↦ omega (arith, here s same) | inr other ↦ omega (arith, there s other, k.whole s) ];
  standing = λ s m. stays s (and_both (not (eqb q s)) (list_any (eqb s) senders) (sym (member_others s q senders) ∙ m));
  free = λ s h. elim (decide s q) [
    | inl same ↦ absurd (h (here s same))
    | inr other ↦ member_others s q senders ∙ rw (apart q s (λ e. other (sym e))) (k.free s (λ e. h (there s other ∙ e)))
  ];
}
  where
    here : (s : ℕ) → s ≡ q → get_or (slice_set lengths q 0) s 0 ≡ 0
    here s same = ap (λ (t : ℕ). get_or (slice_set lengths q 0) t 0) same ∙ get_or-set_same lengths q 0 0 (omega (arith, k.size))

    there : (s : ℕ) → s ≢ q → get_or (slice_set lengths q 0) s 0 ≡ get_or lengths s 0
    there s other = get_or-set_other lengths q s 0 0 other

    stays : (s : ℕ) → (not (eqb q s) ≡ true) × (list_any (eqb s) senders ≡ true) → (s < 63) × (get_or (slice_set lengths q 0) s 0 ≢ 0)
    stays s h = let old = k.standing s h.1 in (old.0, λ z. old.1 (sym (there s (not_same q s h.0)) ∙ z))

pub take_pairs : (lengths : List ℕ) (rows : List (List ℕ)) (senders : List ℕ) (q : ℕ) → pairs_at (slice_set lengths q 0) rows (others q senders) ≡ without q (pairs_at lengths rows senders)
take_pairs lengths rows senders q =
    let there = λ (s : ℕ) (m : list_any (eqb s) (others q senders) ≡ true). elsewhere s (not_same q s (and_both (not (eqb q s)) (list_any (eqb s) senders) (sym (member_others s q senders) ∙ m)).0) in
    same_by (bytes_at (slice_set lengths q 0) rows) (bytes_at lengths rows) (others q senders) there ∙ sym (left q (bytes_at lengths rows) senders)
  where
    elsewhere : (s : ℕ) → s ≢ q → bytes_at (slice_set lengths q 0) rows s ≡ bytes_at lengths rows s
    elsewhere s other = ap (λ (t : ℕ). take t (get_or rows s [])) (get_or-set_other lengths q s 0 0 other)

-- nothing changes if no pair of a sender stands
pub none_taken : (lengths : List ℕ) (rows : List (List ℕ)) (senders : List ℕ) (q : ℕ) → IsKept lengths senders → get_or lengths q 0 ≡ 0
    → without q (pairs_at lengths rows senders) ≡ pairs_at lengths rows senders
none_taken lengths rows senders q k none = left q (bytes_at lengths rows) senders ∙ ap (pairs_at lengths rows) (none_here q senders (by (list_any (eqb q) senders) refl))
  where
    by : (b : Bool) → b ≡ list_any (eqb q) senders → list_any (eqb q) senders ≡ false
    by true e = absurd ((k.standing q (sym e)).1 none)
    by false e = sym e

-- nothing stands of one who is no sender
pub none_from : (lengths : List ℕ) (rows : List (List ℕ)) (senders : List ℕ) (q : ℕ) → list_any (eqb q) senders ≡ false → bytes_from q (pairs_at lengths rows senders) ≡ None
none_from lengths rows senders q absent = look q (bytes_at lengths rows) senders ∙ ap (λ (b : Bool). cond b (Some (bytes_at lengths rows q)) None) absent
