-- Tables of controllers by device: one is changed, one is added, and all are changed.
use Rattle.fw_bus_state.proofs.Common.{◌≡◌, ◌≢◌, ◌⊎◌, inl, inr, ℕ, zero, suc, take, drop, ◌+◌, ◌<◌, ◌≤◌}
use Rattle.fw_bus_state.proofs.Common.{List, [], ◌∷◌, ◌++◌, length, map, get_or, replicate, slice_index_or, slice_set, cond, ◌==◌, Bool}
use Rattle.fw_bus_state.proofs.Common.{true, false, refl, ap, sym, subst, ◌∙◌, arith, IsTrue, IsFalse, cases_eq, cases_lt, false≢true, nat_tests, get_or-set_same, get_or-set_other, get_or-replicate}
use Rattle.fw_bus_state.proofs.Common.{length-replicate, length-map, length-append, length-set, get_or_append_left, get_or_push, update, Listening, first_listening, IsAtRest, count_of, states_of}
use Rattle.std.proofs.Common.{set, append_assoc}
use Rattle.std.proofs.lemmas.List.{get_or-map, get_or_past, get_or_read}
use Rattle.std.proofs.lemmas.List.{length-drop, length-take, get_or-take, drop_all, drop_more, map_more, append-nil}
use Rattle.fw_cmp_jobs.specs.declared.connection.Slot.TheVariants.{Free}
use Rattle.fw_cmp_jobs.specs.Slots.{is_restoring}
use Rattle.fw_bus_state.specs.Tables.{AreCalm, AreFresh, AreHearing, AreMarked, ControllerTable, IsTable, dead_of}

-- ---- lists

-- a list with x at d, read at k
set_at : {A : Type 0} (xs : List A) (d : ℕ) (x e : A) (k : ℕ) → d < length xs → get_or (set xs d x) k e ≡ update (λ j. get_or xs j e) d x k
set_at xs d x e k lt = go (cases_eq k d)
  where
    go : (k ≡ d) ⊎ (k ≢ d) → get_or (set xs d x) k e ≡ cond (k == d) x (get_or xs k e)
    go (inl same) =
        let t : (k == d) ≡ true = grind (arith, nat_tests) in
        subst (λ j. get_or (set xs d x) j e ≡ x) (sym same) (get_or-set_same xs d x e lt) ∙ sym (ap (λ b. cond b x (get_or xs k e)) t)
    go (inr other) =
        let t : (k == d) ≡ false = grind (arith, nat_tests) in
        get_or-set_other xs d k x e other ∙ sym (ap (λ b. cond b x (get_or xs k e)) t)

pub set_is_update : {A : Type 0} (xs : List A) (d : ℕ) (x e : A) → d < length xs
    → ◌≡◌ {A = ℕ → A} (λ k. get_or (set xs d x) k e) (update (λ k. get_or xs k e) d x)
set_is_update xs d x e lt = λ i. λ k. set_at xs d x e k lt i

-- a list of which each element is changed, if what is past the end is not
map_at : {A : Type 0} (f : A → A) (xs : List A) (e : A) (k : ℕ) → f e ≡ e → get_or (map f xs) k e ≡ f (get_or xs k e)
map_at f xs e k fixed = go (cases_lt k (length xs))
  where
    go : (k < length xs) ⊎ (length xs ≤ k) → get_or (map f xs) k e ≡ f (get_or xs k e)
    go (inl lt) = get_or-map f xs k e e lt
    go (inr past) =
        let far : length (map f xs) ≤ k = omega (arith, length-map xs f) in
        get_or_past (map f xs) k e far ∙ (sym fixed ∙ ap f (sym (get_or_past xs k e past)))

-- a list with one element more, which is what is past the end
push_at : {A : Type 0} (xs : List A) (e : A) (k : ℕ) → get_or (xs ++ e ∷ []) k e ≡ get_or xs k e
push_at xs e k = go (cases_lt k (length xs))
  where
    go : (k < length xs) ⊎ (length xs ≤ k) → get_or (xs ++ e ∷ []) k e ≡ get_or xs k e
    go (inl lt) = get_or_append_left xs (e ∷ []) e k lt
    go (inr past) = past_end (cases_eq k (length xs))
      where
        past_end : (k ≡ length xs) ⊎ (k ≢ length xs) → get_or (xs ++ e ∷ []) k e ≡ get_or xs k e
        past_end (inl here) = get_or_push xs e e k (sym here) ∙ sym (get_or_past xs k e past)
        past_end (inr beyond) =
            let far : length (xs ++ e ∷ []) ≤ k = omega (arith, length-append xs (e ∷ [])) in
            get_or_past (xs ++ e ∷ []) k e far ∙ sym (get_or_past xs k e past)

-- ---- tables

-- the controller of a device is another one
pub states_set : (t : ControllerTable) (d : ℕ) (x : Listening) → d < count_of t
    → states_of (record t { list = slice_set t.list d x }) ≡ update (states_of t) d x
states_set t d x lt = set_is_update t.list d x first_listening lt

-- the table after a change of one controller, which was found there
pub table_set : (t : ControllerTable) (list : List Listening) (flags : List Bool) (d i : ℕ) (f : Listening → Listening) (x y : Listening)
    → record { list = list; flags = flags } ≡ t → d < count_of t → i ≡ d → x ≡ slice_index_or list i x → y ≡ f x
    → IsTable (record { list = slice_set list i y; flags = flags }) (count_of t) (update (states_of t) d (f (states_of t d))) (dead_of t)
table_set t list flags d i f x y is lt same found changed = subst Goes is (record {
  count_is = length-set list i y;
  states_are = (λ j. states_of (record { list = slice_set list (same j) (changed j); flags = flags }))
      ∙ (states_set u d (f x) within ∙ (λ j. update (states_of u) d (f (there j))));
  dead_are = refl;
})
  where
    u : ControllerTable
    u = record { list = list; flags = flags }

    Goes : ControllerTable → Type 0
    Goes w = IsTable (record { list = slice_set list i y; flags = flags }) (count_of w) (update (states_of w) d (f (states_of w d))) (dead_of w)

    within : d < count_of u
    within = let size : count_of u ≡ count_of t = ap count_of is in omega (arith, size, lt)

    there : x ≡ states_of u d
    there = get_or_read list i x (omega (arith, within, same)) found first_listening ∙ ap (λ k. get_or list k first_listening) same

-- a list of which nothing is true
none_dead : (n k : ℕ) → get_or (replicate n false) k false ≡ false
none_dead n k = go (cases_lt k n)
  where
    go : (k < n) ⊎ (n ≤ k) → get_or (replicate n false) k false ≡ false
    go (inl lt) = get_or-replicate n k false false lt
    go (inr past) = let far : length (replicate n false) ≤ k = omega (arith, length-replicate n false) in get_or_past (replicate n false) k false far

-- ---- controllers that are marked

-- one is changed, and so is its mark
pub marked_set : (says : Listening → Type 0) (marks : List Bool) (list : List Listening) (d : ℕ) (b : Bool) (y : Listening) → AreMarked says marks list → d < length list
    → length list ≤ 63 → (IsTrue b → says y) → AreMarked says (slice_set marks d b) (slice_set list d y)
marked_set says marks list d b y h lt few is = record { size = length-set marks d b ∙ h.size; each = each }
  where
    low : d < length marks
    low = let size = h.size in omega (arith, lt, few, size)

    each : (k : ℕ) → IsTrue (slice_index_or (slice_set marks d b) k false) → says (slice_index_or (slice_set list d y) k first_listening)
    each k marked = go (cases_eq k d)
      where
        go : (k ≡ d) ⊎ (k ≢ d) → says (slice_index_or (slice_set list d y) k first_listening)
        go (inl same) =
            let mark : IsTrue b = sym (get_or-set_same marks d b false low) ∙ subst (λ j. IsTrue (slice_index_or (slice_set marks d b) j false)) same marked in
            subst (λ j. says (slice_index_or (slice_set list d y) j first_listening)) (sym same)
            (subst says (sym (get_or-set_same list d y first_listening lt)) (is mark))
        go (inr other) =
            let mark = sym (get_or-set_other marks d k b false other) ∙ marked in
            subst says (sym (get_or-set_other list d k y first_listening other)) (h.each k mark)

-- the same, if the two places are found to be the device's
pub marked_put : (says : Listening → Type 0) (marks : List Bool) (list : List Listening) (d i j : ℕ) (b : Bool) (y : Listening) → AreMarked says marks list → d < length list
    → length list ≤ 63 → i ≡ d → j ≡ d → (IsTrue b → says y) → AreMarked says (slice_set marks j b) (slice_set list i y)
marked_put says marks list d i j b y h lt few at_list at_mark is = rw (at_list, at_mark) (marked_set says marks list d b y h lt few is)

-- no mark says nothing
pub unmarked : (y : Type 0) → IsTrue false → y
unmarked y h = absurd (false≢true h)

-- there are none yet, and each is marked
pub marked_none : (says : Listening → Type 0) (marks : List Bool) (list : List Listening) → says first_listening → marks ≡ replicate 256 true → list ≡ [] → AreMarked says marks list
marked_none says marks list new is none = subst (λ (ms : List Bool). AreMarked says ms list) (sym is)
    (record { size = length-replicate 256 true; each = λ k marked. subst (λ (xs : List Listening). says (slice_index_or xs k first_listening)) (sym none) new })

-- one more, which is new
pub marked_push : (says : Listening → Type 0) (marks : List Bool) (list : List Listening) → AreMarked says marks list → AreMarked says marks (list ++ first_listening ∷ [])
marked_push says marks list h = record { size = h.size; each = λ k marked. subst says (sym (push_at list first_listening k)) (h.each k marked) }

-- a new one has nothing to do
pub new_rests : IsAtRest first_listening.state
new_rests = record { no_job = record { current = refl; restoring = λ i. free 32 i }; waiting = refl }
  where
    free : (n i : ℕ) → is_restoring (slice_index_or (replicate n Free) i Free) ≡ false
    free zero i = refl
    free (suc n) zero = refl
    free (suc n) (suc i) = free n i

pub fresh_calm : (marks : List Bool) (list : List Listening) → AreFresh marks list → AreCalm marks list
fresh_calm marks list h = record { size = h.size; each = λ k marked. subst (λ (c : Listening). IsAtRest c.state) (sym (h.each k marked)) new_rests }

-- all are changed, which leaves a new one as it is
pub fresh_map : (f : Listening → Listening) (marks : List Bool) (list : List Listening) → f first_listening ≡ first_listening → AreFresh marks list → AreFresh marks (map f list)
fresh_map f marks list fixed h = record { size = h.size; each = λ k marked. map_at f list first_listening k fixed ∙ (ap f (h.each k marked) ∙ fixed) }

-- an element that the change leaves as it is may be left out of it
pub map_skip : {A : Type 0} (f : A → A) (xs ys : List A) (i : ℕ) (e : A) → i < length xs → f (get_or xs i e) ≡ get_or xs i e → ys ≡ map f (take i xs) ++ drop i xs
    → ys ≡ map f (take (i + 1) xs) ++ drop (i + 1) xs
map_skip f xs ys i e lt same is =
    let prefix = map f (take i xs) in
    is ∙ ap (λ l. prefix ++ l) (drop_more xs i e lt) ∙ sym (append_assoc prefix (get_or xs i e ∷ []) (drop (i + 1) xs))
    ∙ ap (λ l. l ++ drop (i + 1) xs) (ap (λ x. prefix ++ x ∷ []) (sym same) ∙ sym (map_more f xs i e lt))

-- a change that leaves a new controller as it is, of all controllers, may leave out those that are marked as new
pub fresh_skip : (f : Listening → Listening) (marks : List Bool) (xs ys : List Listening) (i : ℕ) → f first_listening ≡ first_listening → AreFresh marks xs → i < length xs
    → slice_index_or marks i false ≡ true → ys ≡ map f (take i xs) ++ drop i xs → ys ≡ map f (take (i + 1) xs) ++ drop (i + 1) xs
fresh_skip f marks xs ys i fixed h lt marked is = map_skip f xs ys i first_listening lt (ap f (h.each i marked) ∙ (fixed ∙ sym (h.each i marked))) is

-- ---- a list that is written back

take_few : {A : Type 0} (n : ℕ) (xs : List A) → length (take n xs) ≤ length xs
take_few zero xs = omega arith
take_few (suc n) [] = omega arith
take_few (suc n) (x ∷ xs) = let h = take_few n xs in omega (arith, h)

-- it is no longer than it was
pub few_after : {A : Type 0} (n most : ℕ) (new old : List A) → length new ≡ length old → length old ≤ most
    → length (take n (new ++ drop (length new) old)) ≤ most
few_after n most new old same few =
    let prefix = take_few n (new ++ drop (length new) old) in
    let all = length-append new (drop (length new) old) in
    let rest = length-drop (length new) old in
    omega (arith, prefix, all, rest, same, few)

-- what marks say is so of it, if it is so of what was written
marked_take : (says : Listening → Type 0) (marks : List Bool) (n : ℕ) (list : List Listening) → says first_listening → AreMarked says marks list → AreMarked says marks (take n list)
marked_take says marks n list new h = record { size = h.size; each = λ k marked. go k marked (cases_lt k n) }
  where
    go : (k : ℕ) → IsTrue (slice_index_or marks k false) → (k < n) ⊎ (n ≤ k) → says (slice_index_or (take n list) k first_listening)
    go k marked (inl lt) = subst says (sym (get_or-take n list k first_listening lt)) (h.each k marked)
    go k marked (inr past) = let far : length (take n list) ≤ k = omega (arith, length-take n list, past) in subst says (sym (get_or_past (take n list) k first_listening far)) new

-- a change of all, which leaves a new one as it is, is written back
pub fresh_after : (f : Listening → Listening) (marks : List Bool) (n : ℕ) (new old : List Listening) → f first_listening ≡ first_listening → new ≡ map f old → AreFresh marks old
    → AreFresh marks (take n (new ++ drop (length new) old))
fresh_after f marks n new old fixed is h =
    let size : length new ≡ length old = ap length is ∙ length-map old f in
    let all : new ++ drop (length new) old ≡ new = ap (λ l. new ++ l) (drop_all (length new) old (omega (arith, size))) ∙ append-nil new in
    subst (λ (xs : List Listening). AreFresh marks (take n xs)) (sym all)
    (marked_take (λ c. c ≡ first_listening) marks n new refl (subst (λ (xs : List Listening). AreFresh marks xs) (sym is) (fresh_map f marks old fixed h)))

-- ---- controllers of which none has lost a response

-- one is changed, which was found there, and hears if it heard
pub hearing_put : (deaf : Bool) (list : List Listening) (i : ℕ) (x y : Listening) → AreHearing deaf list → i < length list → x ≡ slice_index_or list i x → (IsFalse x.lost → IsFalse y.lost)
    → AreHearing deaf (slice_set list i y)
hearing_put deaf list i x y h lt found keeps = λ none k. go none k (cases_eq k i)
  where
    heard : IsFalse deaf → IsFalse x.lost
    heard none = ap (λ (z : Listening). z.lost) (get_or_read list i x lt found first_listening) ∙ h none i

    go : IsFalse deaf → (k : ℕ) → (k ≡ i) ⊎ (k ≢ i) → IsFalse (slice_index_or (slice_set list i y) k first_listening).lost
    go none k (inl same) = ap (λ j. (slice_index_or (slice_set list i y) j first_listening).lost) same
        ∙ (ap (λ (z : Listening). z.lost) (get_or-set_same list i y first_listening lt) ∙ keeps (heard none))
    go none k (inr other) = ap (λ (z : Listening). z.lost) (get_or-set_other list i k y first_listening other) ∙ h none k

-- one more, which is new
pub hearing_push : (deaf : Bool) (list : List Listening) → AreHearing deaf list → AreHearing deaf (list ++ first_listening ∷ [])
hearing_push deaf list h = λ none k. ap (λ (z : Listening). z.lost) (push_at list first_listening k) ∙ h none k

-- so is each of a list of none
pub hearing_none : (deaf : Bool) (list : List Listening) → list ≡ [] → AreHearing deaf list
hearing_none deaf list none = λ _ k. ap (λ (xs : List Listening). (slice_index_or xs k first_listening).lost) none

-- all are changed
pub hearing_map : (before after : Bool) (f : Listening → Listening) (list : List Listening) → f first_listening ≡ first_listening
    → ((x : Listening) → IsFalse after → (IsFalse before → IsFalse x.lost) → IsFalse (f x).lost)
    → AreHearing before list → AreHearing after (map f list)
hearing_map before after f list fixed keeps h = λ none k. ap (λ (z : Listening). z.lost) (map_at f list first_listening k fixed)
    ∙ keeps (slice_index_or list k first_listening) none (λ quiet. h quiet k)

-- what was written back is heard if what was written is
hearing_take : (deaf : Bool) (n : ℕ) (list : List Listening) → AreHearing deaf list → AreHearing deaf (take n list)
hearing_take deaf n list h = λ none k. go none k (cases_lt k n)
  where
    go : IsFalse deaf → (k : ℕ) → (k < n) ⊎ (n ≤ k) → IsFalse (slice_index_or (take n list) k first_listening).lost
    go none k (inl lt) = ap (λ (z : Listening). z.lost) (get_or-take n list k first_listening lt) ∙ h none k
    go none k (inr past) = let far : length (take n list) ≤ k = omega (arith, length-take n list, past) in ap (λ (z : Listening). z.lost) (get_or_past (take n list) k first_listening far)

-- a change of all is written back
pub hearing_after : (before after : Bool) (f : Listening → Listening) (n : ℕ) (new old : List Listening) → f first_listening ≡ first_listening → new ≡ map f old
    → ((x : Listening) → IsFalse after → (IsFalse before → IsFalse x.lost) → IsFalse (f x).lost) → AreHearing before old → AreHearing after (take n (new ++ drop (length new) old))
hearing_after before after f n new old fixed is keeps h =
    let size : length new ≡ length old = ap length is ∙ length-map old f in
    let all : new ++ drop (length new) old ≡ new = ap (λ l. new ++ l) (drop_all (length new) old (omega (arith, size))) ∙ append-nil new in
    subst (λ (xs : List Listening). AreHearing after (take n xs)) (sym (all ∙ is)) (hearing_take after n (map f old) (hearing_map before after f old fixed keeps h))

-- ---- no devices

pub table_none : (list : List Listening) (n : ℕ) → list ≡ []
    → IsTable (record { list = list; flags = replicate n false }) 0 (λ d. first_listening) (λ d. false)
table_none list n is = record {
  count_is = ap length is;
  states_are = (λ i. λ k. get_or (is i) k first_listening);
  dead_are = λ i. λ k. none_dead n k i;
}
