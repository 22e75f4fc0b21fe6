-- The output plugs that talk, in order of channel.
use Rattle.fw_model_run.proofs.Common.{◌≡◌, ◌⊎◌, inl, inr, ℕ, zero, suc, ◌+◌, ◌<◌, ◌≤◌, ◌==◌, ◌&&◌, List, [], ◌∷◌}
use Rattle.fw_model_run.proofs.Common.{◌++◌, length, slice_get, Bool, true, false, Option, Some, None, refl, ap, sym, subst, ◌∙◌}
use Rattle.fw_model_run.proofs.Common.{arith, IsTrue, nat_tests, cases_lt, PlugAt, Account, talks, IsSound, State, talkers, IsGood}
use Rattle.fw_terms.specs.Tables.{find_plug}
use Rattle.fw_terms.proofs.Tables.{find_plug_is, IsFirstPlug}
use Rattle.fw_model_account.specs.Sound.{IsConflictFree}
use Rattle.fw_model_account.proofs.Network.{output_in_range}
use Rattle.fw_model_account.proofs.Shared.{is_conflict_free}
use Rattle.fw_model_run.specs.Streams.{talker_on, those, talkers_to}

-- ---- places in two lists

get_back : {A : Type 0} (xs ys : List A) (i : ℕ) (x : A) → slice_get (xs ++ ys) i ≡ Some x → (slice_get xs i ≡ Some x) ⊎ ((j : ℕ) × (i ≡ length xs + j) × (slice_get ys j ≡ Some x))
get_back [] ys i x e = inr (i, omega arith, e)
get_back (y ∷ xs) ys zero x e = inl e
get_back (y ∷ xs) ys (suc i) x e = go (get_back xs ys i x e)
  where
    go : (slice_get xs i ≡ Some x) ⊎ ((j : ℕ) × (i ≡ length xs + j) × (slice_get ys j ≡ Some x))
        → (slice_get (y ∷ xs) (suc i) ≡ Some x) ⊎ ((j : ℕ) × (suc i ≡ length (y ∷ xs) + j) × (slice_get ys j ≡ Some x))
    go (inl f) = inl f
    go (inr f) = inr (f.0, let same = f.1 in omega (arith, same), f.2)

get_prefix : {A : Type 0} (xs ys : List A) (i : ℕ) (x : A) → slice_get xs i ≡ Some x → slice_get (xs ++ ys) i ≡ Some x
get_prefix [] ys i x e = let no : ⊥ = cc e in absurd no
get_prefix (y ∷ xs) ys zero x e = e
get_prefix (y ∷ xs) ys (suc i) x e = get_prefix xs ys i x e

get_after : {A : Type 0} (xs : List A) (x : A) → slice_get (xs ++ x ∷ []) (length xs) ≡ Some x
get_after [] x = refl
get_after (y ∷ xs) x = get_after xs x

get_below : {A : Type 0} (xs : List A) (i : ℕ) (x : A) → slice_get xs i ≡ Some x → i < length xs
get_below [] i x e = let no : ⊥ = cc e in absurd no
get_below (y ∷ xs) zero x e = omega arith
get_below (y ∷ xs) (suc i) x e = let low = get_below xs i x e in omega (arith, low)

-- ---- the one that talks on a channel

abbrev IsTalker : Account → ℕ → PlugAt → Type 0
IsTalker l n p = IsTrue (talks l p) × ((l.settings p).channel ≡ n)

those_at : (o : Option PlugAt) (j : ℕ) (p : PlugAt) → slice_get (those o) j ≡ Some p → (j ≡ 0) × (o ≡ Some p)
those_at None j p e = let no : ⊥ = cc e in absurd no
those_at (Some q) zero p e = (refl, e)
those_at (Some q) (suc j) p e = let no : ⊥ = cc e in absurd no

found_talks : (l : Account) (n : ℕ) (p : PlugAt) → talker_on l n ≡ Some p → IsTalker l n p
found_talks l n p e = go (find_plug test) (find_plug_is test) e
  where
    test : PlugAt → Bool
    test q = talks l q && ((l.settings q).channel == n)

    both : (a : Bool) (k : ℕ) → (a && (k == n)) ≡ true → (a ≡ true) × (k ≡ n)
    both a k f = (grind (arith, f), grind (arith, nat_tests, f))

    go : (o : Option PlugAt) → IsFirstPlug test o → o ≡ Some p → IsTalker l n p
    go None f e = let no : ⊥ = cc e in absurd no
    go (Some q) f e = let same : q ≡ p = cc e in subst (IsTalker l n) same (both (talks l q) (l.settings q).channel f)

-- if no other talks on its channel, a plug that talks is found
talker_found : (l : Account) (p : PlugAt) → IsSound l → IsConflictFree l → IsTrue (talks l p) → talker_on l (l.settings p).channel ≡ Some p
talker_found l p s free on = go (find_plug test) (find_plug_is test)
  where
    test : PlugAt → Bool
    test q = talks l q && ((l.settings q).channel == (l.settings p).channel)

    passes : (a : Bool) (k : ℕ) → a ≡ true → (a && (k == k)) ≡ true
    passes a k f = grind (arith, nat_tests, f)

    both : (a : Bool) (k n : ℕ) → (a && (k == n)) ≡ true → (a ≡ true) × (k ≡ n)
    both a k n f = (grind (arith, f), grind (arith, nat_tests, f))

    go : (o : Option PlugAt) → IsFirstPlug test o → o ≡ Some p
    go None f =
        let low = output_in_range l.latest p s.range (s.there p on) in
        let clash : true ≡ false = sym (passes (talks l p) (l.settings p).channel on) ∙ f p low.0 low.1 in
        absurd (let no : ⊥ = cc clash in no)
    go (Some q) f =
        let h = both (talks l q) (l.settings q).channel (l.settings p).channel f in
        ap (λ x. Some x) (free.one_talker q p h.0 on h.1)

-- ---- all of them

pub member_talks : (n : ℕ) (l : Account) (i : ℕ) (p : PlugAt) → slice_get (talkers_to n l) i ≡ Some p → IsTrue (talks l p) × ((l.settings p).channel < n)
unfolding talkers_to
member_talks zero l i p e = let no : ⊥ = cc e in absurd no
member_talks (suc n) l i p e = go (member_talks n l i p) (get_back (talkers_to n l) (those (talker_on l n)) i p e)
  where
    go : (slice_get (talkers_to n l) i ≡ Some p → IsTrue (talks l p) × ((l.settings p).channel < n))
        → (slice_get (talkers_to n l) i ≡ Some p) ⊎ ((j : ℕ) × (i ≡ length (talkers_to n l) + j) × (slice_get (those (talker_on l n)) j ≡ Some p))
        → IsTrue (talks l p) × ((l.settings p).channel < suc n)
    go before (inl f) = let h = before f in (h.0, let low = h.1 in omega (arith, low))
    go before (inr f) = let h = found_talks l n p (those_at (talker_on l n) f.0 p f.2).1 in (h.0, let at = h.1 in omega (arith, at))

pub in_order : (n : ℕ) (l : Account) (i j : ℕ) (p q : PlugAt) → i < j → slice_get (talkers_to n l) i ≡ Some p → slice_get (talkers_to n l) j ≡ Some q
    → (l.settings p).channel < (l.settings q).channel
unfolding talkers_to
in_order zero l i j p q lt e f = let no : ⊥ = cc e in absurd no
in_order (suc n) l i j p q lt e f = go (in_order n l i j p q lt) (get_back (talkers_to n l) (those (talker_on l n)) i p e) (get_back (talkers_to n l) (those (talker_on l n)) j q f)
  where
    Place : ℕ → PlugAt → Type 0
    Place k x = (slice_get (talkers_to n l) k ≡ Some x) ⊎ ((m : ℕ) × (k ≡ length (talkers_to n l) + m) × (slice_get (those (talker_on l n)) m ≡ Some x))

    Before : Type 0
    Before = slice_get (talkers_to n l) i ≡ Some p → slice_get (talkers_to n l) j ≡ Some q → (l.settings p).channel < (l.settings q).channel

    go : Before → Place i p → Place j q → (l.settings p).channel < (l.settings q).channel
    go before (inl a) (inl b) = before a b
    go before (inl a) (inr b) =
        let low = (member_talks n l i p a).1 in
        let at = (found_talks l n q (those_at (talker_on l n) b.0 q b.2).1).1 in
        omega (arith, low, at)
    go before (inr a) (inl b) = let below = get_below (talkers_to n l) j q b in let at = a.1 in absurd (omega (arith, below, at, lt))
    go before (inr a) (inr b) =
        let x = (those_at (talker_on l n) a.0 p a.2).0 in
        let y = (those_at (talker_on l n) b.0 q b.2).0 in
        let at = a.1 in
        let place = b.1 in
        absurd (omega (arith, x, y, at, place, lt))

pub has_place : (n : ℕ) (l : Account) (p : PlugAt) → IsSound l → IsConflictFree l → IsTrue (talks l p) → (l.settings p).channel < n
    → (i : ℕ) × (slice_get (talkers_to n l) i ≡ Some p)
unfolding talkers_to
has_place zero l p s free on low = absurd (omega (arith, low))
has_place (suc n) l p s free on low = go (has_place n l p s free on) (cases_lt (l.settings p).channel n)
  where
    last : (o : Option PlugAt) → o ≡ Some p → slice_get (talkers_to n l ++ those o) (length (talkers_to n l)) ≡ Some p
    last o e = subst (λ o. slice_get (talkers_to n l ++ those o) (length (talkers_to n l)) ≡ Some p) (sym e) (get_after (talkers_to n l) p)

    go : ((l.settings p).channel < n → (i : ℕ) × (slice_get (talkers_to n l) i ≡ Some p)) → ((l.settings p).channel < n) ⊎ (n ≤ (l.settings p).channel)
        → (i : ℕ) × (slice_get (talkers_to n l ++ those (talker_on l n)) i ≡ Some p)
    go before (inl less) = let h = before less in (h.0, get_prefix (talkers_to n l) (those (talker_on l n)) h.0 p h.1)
    go before (inr more) =
        let same : (l.settings p).channel ≡ n = omega (arith, low, more) in
        (length (talkers_to n l), last (talker_on l n) (ap (talker_on l) (sym same) ∙ talker_found l p s free on))

-- in a good state
pub talker_place : (s : State) (p : PlugAt) → IsGood s → IsTrue (talks s.account p) → (i : ℕ) × (slice_get (talkers s.account) i ≡ Some p)
talker_place s p g on =
    let sound = g.reclaims.step.sound in
    has_place 64 s.account p sound (is_conflict_free s.account sound) on (sound.settings_fit p (sound.there p on)).channel
