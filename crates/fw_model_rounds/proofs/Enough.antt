-- Eight rounds for each success that is still to come are enough.
use Rattle.fw_model_rounds.proofs.Common.{◌≡◌, ◌≢◌, ℕ, zero, suc, ◌+◌, ◌<◌, ◌≤◌, Bool, true, false, List, [], ◌∷◌, refl, ap, sym, subst, ◌∙◌, arith, ◌⊎◌, inl, inr, cases_eq, Current, Nothing, Asking}
use Rattle.fw_model_rounds.proofs.Common.{Hearing, Overtaken, Directory, ControllerState, slot_at, is_restoring, to_come, of_slot, Situation, AccountSays, TakeHalfSteps, times, IsRound, all_to_come}
use Rattle.fw_model_rounds.proofs.Common.{AllRestore}
use Rattle.std.proofs.Common.{◌-◌, ◌*◌, ◌++◌, append_assoc}
use Rattle.fw_terms.proofs.Tables.{sum_to_at, sum_to_some}
use Rattle.fw_model_rounds.specs.HalfSteps.{of_current}
use Rattle.fw_model_rounds.specs.Rounds.{rounds, NoneToRestore, AllReset, WasReset, connections_to_restore}
use Rattle.fw_model_rounds.proofs.Resets.{AfterReset, reset_is, few_of_all}
use Rattle.fw_model_rounds.proofs.EightRounds.{eight_rounds, rounds_plus, Cut, cut}
use Rattle.fw_model_rounds.proofs.Rounds.{Leaves, turns_leave}
use Rattle.fw_model_rounds.proofs.ToCome.{of_job_some}

-- n times eight rounds
eights : ℕ → List ℕ → List ℕ
eights zero ks = []
eights (suc n) ks = rounds 8 ks ++ eights n ks

eights_rounds : (n m : ℕ) (ks : List ℕ) → rounds (8 * n + m) ks ≡ eights n ks ++ rounds m ks
unfolding eights
eights_rounds zero m ks = let e : 8 * 0 + m ≡ m = omega arith in rw e refl
eights_rounds (suc n) m ks =
    let e : 8 * suc n + m ≡ 8 + (8 * n + m) = omega arith in
    rw e (rounds_plus 8 (8 * n + m) ks ∙ ap (λ (x : List ℕ). rounds 8 ks ++ x) (eights_rounds n m ks) ∙ sym (append_assoc (rounds 8 ks) (eights n ks) (rounds m ks)))

-- ---- what the account says before the first half step

first_known : (now : ℕ) (d : Directory) (ks rest : List ℕ) (k : ℕ) (s t : Situation) → 0 < times k ks → TakeHalfSteps now d (ks ++ rest) s t → AccountSays s
unfolding TakeHalfSteps times
first_known now d [] rest k s t some h = absurd (omega arith)
first_known now d (e ∷ ks) rest k s t some h = h.1

known : (now : ℕ) (d : Directory) (ks : List ℕ) (s t : Situation) → IsRound ks s → all_to_come s ≢ 0 → TakeHalfSteps now d (rounds 8 ks) s t → AccountSays s
unfolding rounds
known now d ks s t round some h = found (sum_to_some 63 (λ k. to_come (s.at k)) some)
  where
    found : (k : ℕ) × (k < 63) × (to_come (s.at k) ≢ 0) → AccountSays s
    found f = first_known now d ks (rounds 7 ks) f.0 s t (round f.0 f.1 (omega (arith, f.2))) h

-- ---- the bound

eights_done : (n : ℕ) (now : ℕ) (d : Directory) (ks : List ℕ) (s t : Situation) → now < d.over_at → AllRestore s → IsRound ks s → all_to_come s ≤ n → TakeHalfSteps now d (eights n ks) s t
    → all_to_come t ≡ 0
unfolding eights
eights_done zero now d ks s t lt r round le h = let rest = turns_leave now d [] s t lt r h in omega (arith, rest.all)
eights_done (suc n) now d ks s t lt r round le h = go (cases_eq (all_to_come s) 0) (eights_done n now d ks)
  where
    c : Cut now d (rounds 8 ks) (eights n ks) s t
    c = cut now d (rounds 8 ks) (eights n ks) s t h

    whole : Leaves s t
    whole = turns_leave now d (rounds 8 ks ++ eights n ks) s t lt r h

    eight : Leaves s c.middle
    eight = turns_leave now d (rounds 8 ks) s c.middle lt r c.first

    More : Type 0
    More = (s t : Situation) → now < d.over_at → AllRestore s → IsRound ks s → all_to_come s ≤ n → TakeHalfSteps now d (eights n ks) s t → all_to_come t ≡ 0

    go : (all_to_come s ≡ 0) ⊎ (all_to_come s ≢ 0) → More → all_to_come t ≡ 0
    go (inl none) more = omega (arith, whole.all)
    go (inr some) more = more c.middle t lt eight.restore (λ k below x. round k below (omega (arith, eight.each k)))
        (omega (arith, eight_rounds now d ks s c.middle lt r (known now d ks s c.middle round some c.first) round some c.first)) c.second

-- a controller with nothing to come has no slot to be restored
none_left : (c : ControllerState) (current : Current) (i : ℕ) → to_come (record c { current = current }) ≡ 0 → i < 32 → is_restoring (slot_at c i) ≡ false
none_left c current i none lt = go (is_restoring (slot_at c i)) refl (of_current_some current)
  where
    of_current_some : (current : Current) → 1 ≤ of_current current i
    of_current_some Nothing = omega arith
    of_current_some (Asking j s) = of_job_some j s i
    of_current_some (Hearing j s) = of_job_some j s i
    of_current_some (Overtaken k o) = omega arith

    go : (b : Bool) → is_restoring (slot_at c i) ≡ b → 1 ≤ of_current current i → is_restoring (slot_at c i) ≡ false
    go true e some =
        let at : of_slot current i (slot_at c i) ≡ of_current current i = rw e refl in
        absurd (omega (arith, at, sum_to_at 32 i (λ k. of_slot current k (slot_at c k)) lt))
    go false e some = e

none_to_restore : (s : Situation) → all_to_come s ≡ 0 → NoneToRestore s
none_to_restore s none k i below lt = none_left (s.at k) (s.at k).current i (omega (arith, sum_to_at 63 k (λ e. to_come (s.at e)) below)) lt

pub enough : (n : ℕ) (now : ℕ) (d : Directory) (ks : List ℕ) (s t : Situation) → now < d.over_at → AllRestore s → IsRound ks s → 8 * all_to_come s ≤ n → TakeHalfSteps now d (rounds n ks) s t
    → NoneToRestore t
enough n now d ks s t lt r round le h = none_to_restore t (omega (arith, done, rest.all))
  where
    p : ℕ
    p = all_to_come s

    all : TakeHalfSteps now d (eights p ks ++ rounds (n - 8 * p) ks) s t
    all = let e : n ≡ 8 * p + (n - 8 * p) = omega arith in subst (λ (xs : List ℕ). TakeHalfSteps now d xs s t) (ap (λ (m : ℕ). rounds m ks) e ∙ eights_rounds p (n - 8 * p) ks) h

    c : Cut now d (eights p ks) (rounds (n - 8 * p) ks) s t
    c = cut now d (eights p ks) (rounds (n - 8 * p) ks) s t all

    done : all_to_come c.middle ≡ 0
    done = eights_done p now d ks s c.middle lt r round (omega arith) c.first

    middle : Leaves s c.middle
    middle = turns_leave now d (eights p ks) s c.middle lt r c.first

    rest : Leaves c.middle t
    rest = turns_leave now d (rounds (n - 8 * p) ks) c.middle t lt middle.restore c.second

-- ---- right after a bus reset

after_reset : (c : ControllerState) → WasReset c → AfterReset c
after_reset c w = subst (λ (x : ControllerState). AfterReset x) (sym w.is) (reset_is w.epoch w.lost w.before w.no_break w.fits.current w.stands)

pub enough_after_reset : (n : ℕ) (now : ℕ) (d : Directory) (ks : List ℕ) (s t : Situation) → now < d.over_at → AllReset s → IsRound ks s → 64 * (connections_to_restore s + 1) ≤ n
    → TakeHalfSteps now d (rounds n ks) s t → NoneToRestore t
enough_after_reset n now d ks s t lt reset round le h =
    let few = few_of_all s.at (λ k below. after_reset (s.at k) (reset k below)) in
    enough n now d ks s t lt (λ k below. (after_reset (s.at k) (reset k below)).restores) round (omega (arith, few)) h

pub all_restore_after_reset : (s : Situation) → AllReset s → AllRestore s
all_restore_after_reset s reset k below = (after_reset (s.at k) (reset k below)).restores
