-- Laws of the keys that a walk gives: one more is given, and all others stay.
use Rattle.std.proofs.Common.{ℕ, ◌≡◌, ◌+◌, ◌≤◌, ◌&&◌, Bool, true, false, cond, Option, Some, None, List, [], ◌∷◌, ◌++◌, length, take, refl, sym, ap, ◌∙◌, arith}
use Rattle.std.specs.Str.{bytes_eq}
use Rattle.std.proofs.lemmas.List.{length_push, length-take, take_at, take_all}
use Rattle.std.proofs.lemmas.Slice.Eq.{bytes_eq-Decides}
use Rattle.std.proofs.lemmas.Bool.{false≢true}
use Rattle.fw_explore_levels.specs.Whole.{Keyed}
use Rattle.fw_explore_levels.proofs.TableLaws.{HasOneKey}

pub same_some : (k l : List ℕ) → Some k ≡ Some l → k ≡ l
same_some k l e = cc

both_true : (a b : Bool) → a ≡ true → b ≡ true → (a && b) ≡ true
both_true a b e f = ap (λ x. x && b) e ∙ f

true_both : (a b : Bool) → (a && b) ≡ true → (a ≡ true) × (b ≡ true)
true_both true b e = (refl, e)
true_both false b e = absurd (false≢true e)

-- a list has one key
pub keyed_once : (keys : List ℕ → Option (List ℕ)) → HasOneKey (Keyed keys)
keyed_once keys = record { one = λ w k l e f. same_some k l (sym e ∙ f) }

-- ---- a key more

-- the key is this one
abbrev is_key : List ℕ → Option (List ℕ) → Bool
is_key from None = false
is_key from (Some k) = bytes_eq k from

is_key_of : (from : List ℕ) (o : Option (List ℕ)) → is_key from o ≡ true → o ≡ Some from
is_key_of from None e = absurd (false≢true e)
is_key_of from (Some k) e = ap Some ((bytes_eq-Decides k from).0 e)

is_key_at : (from : List ℕ) → is_key from (Some from) ≡ true
is_key_at from = (bytes_eq-Decides from from).1 refl

-- the list is one of n moves with this key, and the move p
abbrev is_with : (List ℕ → Option (List ℕ)) → ℕ → List ℕ → ℕ → List ℕ → Bool
is_with keys n from p v = bytes_eq v (take n v ++ p ∷ []) && is_key from (keys (take n v))

-- such lists have the key `to`
abbrev pub with_key : (List ℕ → Option (List ℕ)) → ℕ → List ℕ → ℕ → List ℕ → List ℕ → Option (List ℕ)
with_key keys n from p to v = cond (is_with keys n from p v) (Some to) (keys v)

module _ (keys : List ℕ → Option (List ℕ)) (n : ℕ) (from : List ℕ) (p : ℕ) (to : List ℕ) where
  pub record IsWith (v : List ℕ) : Type 0 where
    pub before : List ℕ
    pub is : v ≡ before ++ p ∷ []
    pub size : length before ≡ n
    pub key : keys before ≡ Some from

  with_test : (v : List ℕ) → IsWith v → is_with keys n from p v ≡ true
  with_test v h =
      let prefix : take n v ≡ h.before = ap (take n) h.is ∙ take_at h.before (p ∷ []) n h.size in
      both_true (bytes_eq v (take n v ++ p ∷ [])) (is_key from (keys (take n v)))
      ((bytes_eq-Decides v (take n v ++ p ∷ [])).1 (h.is ∙ ap (λ x. x ++ p ∷ []) (sym prefix)))
      (ap (is_key from) (ap keys prefix ∙ h.key) ∙ is_key_at from)

  test_with : (v : List ℕ) → is_with keys n from p v ≡ true → length v ≡ n + 1 → IsWith v
  test_with v e size =
      let parts = true_both (bytes_eq v (take n v ++ p ∷ [])) (is_key from (keys (take n v))) e in
      record {
        before = take n v;
        is = (bytes_eq-Decides v (take n v ++ p ∷ [])).0 parts.0;
        size = omega (arith, length-take n v, size);
        key = is_key_of from (keys (take n v)) parts.1;
      }

  -- a list that passes the test is longer than n
  test_long : (v : List ℕ) → is_with keys n from p v ≡ true → length v ≤ n → ⊥
  test_long v e short =
      let parts = true_both (bytes_eq v (take n v ++ p ∷ [])) (is_key from (keys (take n v))) e in
      let same = (bytes_eq-Decides v (take n v ++ p ∷ [])).0 parts.0 in
      omega (arith, ap length same, length_push (take n v) p, ap length (take_all n v short))

  pub key_with : (v : List ℕ) → IsWith v → with_key keys n from p to v ≡ Some to
  key_with v h = ap (λ b. cond b (Some to) (keys v)) (with_test v h)

  cond_false : (b : Bool) (v : List ℕ) → (b ≡ true → ⊥) → cond b (Some to) (keys v) ≡ keys v
  cond_false true v h = absurd (h refl)
  cond_false false v h = refl

  pub key_short : (v : List ℕ) → length v ≤ n → with_key keys n from p to v ≡ keys v
  key_short v h = cond_false (is_with keys n from p v) v (λ e. test_long v e h)

  pub key_other : (v : List ℕ) → length v ≡ n + 1 → (IsWith v → ⊥) → with_key keys n from p to v ≡ keys v
  key_other v size h = cond_false (is_with keys n from p v) v (λ e. h (test_with v e size))
