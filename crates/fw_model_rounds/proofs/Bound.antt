-- Eight rounds make progress while a slot is to be restored, so all is restored within eight times what is still to come.
use Rattle.fw_model_rounds.proofs.Common.{◌≡◌, ◌≢◌, ℕ, zero, suc, ◌+◌, ◌<◌, ◌≤◌, Bool, true, false, List, [], ◌∷◌}
use Rattle.fw_model_rounds.proofs.Common.{eqb, refl, sym, subst, arith, ◌⊎◌, inl, inr, cond, nat_tests, cases_eq, flag, Directory}
use Rattle.fw_model_rounds.proofs.Common.{ControllerState, after_half_step, progresses, IsWithin, Situation, TakeHalfSteps, times, all_to_come, AllRestore}
use Rattle.fw_model_rounds.proofs.Rounds.{Leaves, turns_leave, all_leaves, all_restore}

-- ---- a controller within n half steps of progress, in a list in which it stands n times

-- another's half step, or its own, that makes no progress
within_stays : (n : ℕ) (now : ℕ) (d : Directory) (s m : Situation) (k : ℕ) (c : ControllerState) → m.words ≡ s.words → m.at k ≡ c → IsWithin n s.words now d c → IsWithin n m.words now d (m.at k)
within_stays n now d s m k c w e i = rw (w, e) i

own_step : (n : ℕ) (now : ℕ) (d : Directory) (s : Situation) (k : ℕ) → progresses s.words now d (s.at k) ≡ false → IsWithin (suc n) s.words now d (s.at k)
    → IsWithin n s.words now d (after_half_step s.words now d (s.at k))
unfolding IsWithin
own_step n now d s k no_progress (inl e) = absurd (grind arith)
own_step n now d s k no_progress (inr i) = i

none_within : (now : ℕ) (d : Directory) (s : Situation) (k : ℕ) → IsWithin 0 s.words now d (s.at k) → ⊥
unfolding IsWithin
none_within now d s k i = i

-- ---- how often a device stands in a list

none_times : (k n : ℕ) → suc n ≤ times k [] → ⊥
unfolding times
none_times k n le = omega arith

after_own : (n k e : ℕ) (ks : List ℕ) → suc n ≤ times k (e ∷ ks) → n ≤ times k ks
unfolding times
after_own n k e ks le = go (eqb e k) le
  where
    go : (b : Bool) → suc n ≤ cond b 1 0 + times k ks → n ≤ times k ks
    go true le = omega arith
    go false le = omega arith

after_other : (n k e : ℕ) (ks : List ℕ) → e ≢ k → n ≤ times k (e ∷ ks) → n ≤ times k ks
unfolding times
after_other n k e ks ne le = go (eqb e k) (grind (arith, nat_tests)) le
  where
    go : (b : Bool) → b ≡ false → n ≤ cond b 1 0 + times k ks → n ≤ times k ks
    go true e le = grind arith
    go false e le = omega arith

pub run_progress : (now : ℕ) (d : Directory) (ks : List ℕ) (n k : ℕ) (s t : Situation) → now < d.over_at → AllRestore s → IsWithin n s.words now d (s.at k) → n ≤ times k ks
    → TakeHalfSteps now d ks s t → all_to_come t + 1 ≤ all_to_come s
unfolding TakeHalfSteps
run_progress now d ks zero k s t lt r i le h = absurd (none_within now d s k i)
run_progress now d [] (suc n) k s t lt r i le h = absurd (none_times k n le)
run_progress now d (e ∷ ks) (suc n) k s t lt r i le h = go (progresses s.words now d (s.at e)) refl (cases_eq e k) (run_progress now d ks)
  where
    m : Situation
    m = h.2.0

    rest : Leaves m t
    rest = turns_leave now d ks m t lt (all_restore now d e s m lt r h.0 h.2.1) h.2.2

    first : all_to_come m + flag (progresses s.words now d (s.at e)) ≤ all_to_come s
    first = all_leaves now d e s m lt h.0 (r e h.0) h.1 h.2.1

    More : Type 0
    More = (n k : ℕ) (s t : Situation) → now < d.over_at → AllRestore s → IsWithin n s.words now d (s.at k) → n ≤ times k ks → TakeHalfSteps now d ks s t → all_to_come t + 1 ≤ all_to_come s

    own : e ≡ k → progresses s.words now d (s.at e) ≡ false → More → all_to_come t + 1 ≤ all_to_come m
    own same p more = more n k m t lt (all_restore now d e s m lt r h.0 h.2.1)
        (within_stays n now d s m k (after_half_step s.words now d (s.at k)) (h.2.1.still p) (subst (λ (x : ℕ). m.at x ≡ after_half_step s.words now d (s.at x)) same h.2.1.own)
        (own_step n now d s k (subst (λ (x : ℕ). progresses s.words now d (s.at x) ≡ false) same p) i)) (after_own n k e ks le) h.2.2

    other : e ≢ k → progresses s.words now d (s.at e) ≡ false → More → all_to_come t + 1 ≤ all_to_come m
    other ne p more = more (suc n) k m t lt (all_restore now d e s m lt r h.0 h.2.1) (within_stays (suc n) now d s m k (s.at k) (h.2.1.still p) (h.2.1.others k (λ x. ne (sym x))) i)
        (after_other (suc n) k e ks ne le) h.2.2

    go : (b : Bool) → progresses s.words now d (s.at e) ≡ b → (e ≡ k) ⊎ (e ≢ k) → More → all_to_come t + 1 ≤ all_to_come s
    go true p c more = let one : flag (progresses s.words now d (s.at e)) ≡ 1 = rw p refl in omega (arith, first, rest.all, one)
    go false p (inl same) more = omega (arith, first, own same p more)
    go false p (inr ne) more = omega (arith, first, other ne p more)
