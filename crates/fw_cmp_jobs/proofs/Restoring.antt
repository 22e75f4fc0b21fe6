-- That no slot is to be restored, if it is known, stays so as a slot changes.
use Rattle.fw_cmp_jobs.proofs.Common.{◌≡◌, ◌≢◌, ◌⊎◌, inl, inr, ℕ, ◌<◌, Bool, true, false, IsTrue, IsFalse, Option, Some, None, List, length, refl, ap, sym, subst, ◌∙◌, cases_eq, false≢true, find_to}
use Rattle.fw_cmp_jobs.proofs.Common.{find_to_is, IsFirst, Slot, Free, Making, Established, Restoring, Gone, is_restoring, IsMaking}
use Rattle.fw_cmp_jobs.proofs.Common.{◌≤◌, get_or, arith}
use Rattle.std.proofs.lemmas.Bool.{cases_lt}
use Rattle.std.proofs.Common.{slice_index_or, slice_set}
use Rattle.std.specs.Prelude.{is_some, not}
use Rattle.std.proofs.lemmas.List.{get_or-set_same, get_or-set_other, get_or_past}
use Rattle.fw_cmp_jobs.specs.Known.{NoneToRestore}

pub none_to_restore : (ss : List Slot) → length ss ≡ 32 → IsFirst 32 (λ i. is_restoring (get_or ss i Free)) None → (i : ℕ) → is_restoring (get_or ss i Free) ≡ false
none_to_restore ss len first i = go (cases_lt i 32)
  where
    go : (i < 32) ⊎ (32 ≤ i) → is_restoring (get_or ss i Free) ≡ false
    go (inl lt) = first i lt
    go (inr le) = ap is_restoring (get_or_past ss i Free (omega (arith, len)))

abbrev restores_at : List Slot → ℕ → Bool
restores_at ss i = is_restoring (slice_index_or ss i Free)

none_of : (n : ℕ) (test : ℕ → Bool) (o : Option ℕ) → IsFirst n test o → ((i : ℕ) → test i ≡ false) → o ≡ None
none_of n test None first h = refl
none_of n test (Some k) first h = absurd (false≢true (sym (h k) ∙ first.1))

-- if it is known that none is, none is found
pub none_found : (ss : List Slot) → NoneToRestore true ss → None ≡ find_to 32 (restores_at ss)
none_found ss h = sym (none_of 32 (restores_at ss) (find_to 32 (restores_at ss)) (find_to_is 32 (restores_at ss)) (h refl))

-- if none is found, none is
pub found_none : (b : Bool) (ss : List Slot) (o : Option ℕ) → length ss ≡ 32 → o ≡ find_to 32 (restores_at ss) → is_some o ≡ not b → NoneToRestore b ss
found_none b ss None len e is = λ on. none_to_restore ss len (first None e)
  where
    first : (o : Option ℕ) → o ≡ find_to 32 (restores_at ss) → IsFirst 32 (restores_at ss) o
    first o e = subst (IsFirst 32 (restores_at ss)) (sym e) (find_to_is 32 (restores_at ss))
found_none b ss (Some k) len e is = λ on. absurd (false≢true (sym (is ∙ ap not on)))

-- a slot is set to what is not to be restored
pub none_set : (b : Bool) (ss : List Slot) (i : ℕ) (s : Slot) → i < length ss → IsFalse (is_restoring s) → NoneToRestore b ss → NoneToRestore b (slice_set ss i s)
none_set b ss i s lt rests h = λ on k. go on k (cases_eq k i)
  where
    go : IsTrue b → (k : ℕ) → (k ≡ i) ⊎ (k ≢ i) → IsFalse (is_restoring (slice_index_or (slice_set ss i s) k Free))
    go on k (inl same) = ap (λ n. is_restoring (slice_index_or (slice_set ss i s) n Free)) same ∙ (ap is_restoring (get_or-set_same ss i s Free lt) ∙ rests)
    go on k (inr other) = ap is_restoring (get_or-set_other ss i k s Free other) ∙ h on k

pub making_rests : (s : Slot) → IsMaking s → IsFalse (is_restoring s)
making_rests Free m = refl
making_rests (Making conn asked overhead) m = refl
making_rests (Established conn f) m = refl
making_rests (Restoring conn f over) m = absurd m
making_rests (Gone conn) m = refl
