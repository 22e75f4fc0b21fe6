-- After a bus reset a controller only restores, and at most seven successes are to come of each of its slots.
use Rattle.fw_model_rounds.proofs.Common.{◌≡◌, ℕ, zero, suc, ◌<◌, ◌≤◌, Bool, true, false, Some, None, is_none, eqb}
use Rattle.fw_model_rounds.proofs.Common.{refl, sym, subst, arith, inl, inr, cond, ◌&&◌, slice_index_or, sum_to, flag, Slot, Free}
use Rattle.fw_model_rounds.proofs.Common.{Making, Established, Restoring, Gone, Current, Nothing, Asking, Hearing, Overtaken, Job}
use Rattle.fw_model_rounds.proofs.Common.{Purpose, Make, Restore, Break, Stage, Begin, Made, Ended, ControllerState}
use Rattle.fw_model_rounds.proofs.Common.{slot_at, is_restoring, CurrentFits, restores, target_of, waiting_break, is_over, remaining, to_come, of_slot, IsRestoringOf, CurrentRestores}
use Rattle.std.proofs.Common.{◌*◌}
use Rattle.std.specs.Prelude.{List, [], ◌∷◌, map}
use Rattle.fw_cmp_jobs.specs.declared.outcome.Outcome.TheVariants.{Reset}
use Rattle.fw_cmp.specs.Controllers.{with_slot, Fits, first_state}
use Rattle.fw_cmp_jobs.specs.Slots.{job_for}
use Rattle.fw_cmp.specs.Resets.{state_reset, current_reset, lost_reset, overtaken, interrupted, decided, slots_reset}
use Rattle.fw_cmp_jobs.specs.Slots.{slot_reset}
use Rattle.fw_model_rounds.specs.HalfSteps.{of_current, of_job, OnlyRestores, AsksWhatStands}
use Rattle.fw_model_rounds.specs.Rounds.{to_restore_of, WasReset}

-- ---- slots

slot_after_reset : (c : ControllerState) (i : ℕ) → slot_at (slots_reset c) i ≡ slot_reset (slot_at c i)
slot_after_reset c i = go c.slots i
  where
    go : (xs : List Slot) (i : ℕ) → slice_index_or (map slot_reset xs) i Free ≡ slot_reset (slice_index_or xs i Free)
    go [] i = refl
    go (x ∷ xs) zero = refl
    go (x ∷ xs) (suc i) = go xs i

-- ---- a restoring begins again

restores_again : (slot : Slot) (j : Job) → job_for j.slot slot ≡ Some j → j.purpose ≡ Restore → IsRestoringOf (slot_reset slot) j Begin
restores_again Free j e p = absurd (grind arith)
restores_again (Making conn asked overhead) j e p = absurd (grind arith)
restores_again (Established conn f) j e p = absurd (grind arith)
restores_again (Restoring conn f over) j e p = (grind arith, (λ b. absurd (grind arith)))
restores_again (Gone conn) j e p = absurd (grind arith)

-- ---- the current job

-- a controller that only restores once its slots are reset
pub record IsReset (c : ControllerState) : Type 0 where
  pub no_break : waiting_break c ≡ None
  pub current : CurrentRestores (slots_reset c) c.current
  pub few : (i : ℕ) → of_current c.current i ≤ 7

few_of : (j : Job) (s : Stage) (i : ℕ) → remaining s ≤ 7 → of_job j s i ≤ 7
few_of j s i le = go (restores j && eqb j.slot i)
  where
    go : (b : Bool) → cond b (remaining s) 7 ≤ 7
    go true = le
    go false = omega arith

interrupted_is : (epoch : ℕ) (c : ControllerState) (j : Job) → waiting_break c ≡ None → job_for j.slot (slot_at c j.slot) ≡ Some j → IsReset (interrupted epoch c j)
interrupted_is epoch c j none own = go j.purpose refl
  where
    freed : IsReset (with_slot (record c { current = Overtaken j.slot (Reset epoch) }) j.slot Free)
    freed = record { no_break = none; current = tt; few = λ i. omega arith }

    again : j.purpose ≡ Restore → IsReset (record c { current = Asking j Begin })
    again p = record {
      no_break = none;
      current = inr (subst (λ (x : Slot). IsRestoringOf x j Begin) (sym (slot_after_reset c j.slot)) (restores_again (slot_at c j.slot) j own p));
      few = λ i. few_of j Begin i (omega arith);
    }

    go : (p : Purpose) → j.purpose ≡ p → IsReset (elim p [
      | Make ↦ with_slot (record c { current = Overtaken j.slot (Reset epoch) }) j.slot Free
      | Restore ↦ record c { current = Asking j Begin }
      | Break ↦ with_slot (record c { current = Overtaken j.slot (Reset epoch) }) j.slot Free
    ])
    go Make e = freed
    go Restore e = again e
    go Break e = freed

-- a job that is decided has its outcome still to be written
decided_is : (c : ControllerState) (j : Job) → waiting_break c ≡ None → ((x : ControllerState) → CurrentRestores x c.current) → ((i : ℕ) → of_current c.current i ≤ 7) → IsReset (decided c j)
decided_is c j none over few = go j.purpose
  where
    stays : IsReset c
    stays = record { no_break = none; current = over (slots_reset c); few = few }

    gone : IsReset (with_slot c j.slot (Gone j.connection))
    gone = record { no_break = none; current = over (slots_reset (with_slot c j.slot (Gone j.connection))); few = few }

    go : (p : Purpose) → IsReset (elim p [ Make ↦ c | Restore ↦ c | Break ↦ with_slot c j.slot (Gone j.connection) ])
    go Make = stays
    go Restore = stays
    go Break = gone

overtaken_is : (epoch : ℕ) (c : ControllerState) (j : Job) (s : Stage) → waiting_break c ≡ None → job_for j.slot (slot_at c j.slot) ≡ Some j
    → (is_over j s ≡ true → (x : ControllerState) → CurrentRestores x c.current) → ((i : ℕ) → remaining s ≤ 7 → of_current c.current i ≤ 7) → IsReset (overtaken epoch c j s)
overtaken_is epoch c j (Made f) none own over few = record { no_break = none; current = tt; few = λ i. omega arith }
overtaken_is epoch c j (Ended e) none own over few = decided_is c j none (over refl) (λ i. few i (omega arith))
overtaken_is epoch c j s none own over few = interrupted_is epoch c j none own

-- no request stands of a job that is over
not_over : (j : Job) (s : Stage) → is_none (target_of j s) ≡ false → is_over j s ≡ true → ⊥
not_over j s some over = grind arith

current_is : (epoch : ℕ) (c : ControllerState) (current : Current) → waiting_break c ≡ None → CurrentFits c current → AsksWhatStands current
    → IsReset (current_reset epoch (record c { current = current }) current)
current_is epoch c Nothing none own stands = record { no_break = none; current = tt; few = λ i. omega arith }
current_is epoch c (Asking j s) none own stands = overtaken_is epoch (record c { current = Asking j s }) j s none own.of_slot (λ over x. inl over) (λ i le. few_of j s i le)
current_is epoch c (Hearing j s) none own stands = overtaken_is epoch (record c { current = Hearing j s }) j s none own.of_slot (λ over x. absurd (not_over j s stands over)) (λ i le. few_of j s i le)
current_is epoch c (Overtaken k o) none own stands = record { no_break = none; current = tt; few = λ i. omega arith }

-- ---- after the reset

seven_times : (n : ℕ) (f g : ℕ → ℕ) → ((i : ℕ) → i < n → f i ≤ 7 * g i) → sum_to n f ≤ 7 * sum_to n g
unfolding sum_to
seven_times zero f g le = omega arith
seven_times (suc n) f g le = omega (arith, seven_times n f g (λ i lt. le i (omega arith)), le n (omega arith))

seven_each : (c : ControllerState) → ((i : ℕ) → of_current c.current i ≤ 7) → to_come c ≤ 7 * to_restore_of c
seven_each c few = seven_times 32 (λ i. of_slot c.current i (slot_at c i)) (λ i. flag (is_restoring (slot_at c i))) (λ i lt. go i (is_restoring (slot_at c i)))
  where
    go : (i : ℕ) (b : Bool) → cond b (of_current c.current i) 0 ≤ 7 * flag b
    go i true = omega (arith, few i)
    go i false = omega arith

pub record AfterReset (c : ControllerState) : Type 0 where
  pub restores : OnlyRestores c
  pub few : to_come c ≤ 7 * to_restore_of c

-- the same if the response to its request was lost
lost_is : (epoch : ℕ) (c : ControllerState) (current : Current) → waiting_break c ≡ None → CurrentFits c current → IsReset (lost_reset epoch (record c { current = current }) current)
lost_is epoch c Nothing none own = record { no_break = none; current = tt; few = λ i. omega arith }
lost_is epoch c (Asking j s) none own = interrupted_is epoch (record c { current = Asking j s }) j none own.of_slot
lost_is epoch c (Hearing j s) none own = interrupted_is epoch (record c { current = Hearing j s }) j none own.of_slot
lost_is epoch c (Overtaken k o) none own = record { no_break = none; current = tt; few = λ i. omega arith }

slots_done : (x : ControllerState) → IsReset x → AfterReset (slots_reset x)
slots_done x r = record { restores = record { no_break = r.no_break; current = r.current }; few = seven_each (slots_reset x) r.few }

pub reset_is : (epoch : ℕ) (lost : Bool) (c : ControllerState) → waiting_break c ≡ None → CurrentFits c c.current → AsksWhatStands c.current → AfterReset (state_reset epoch lost c)
reset_is epoch true c none own stands = slots_done (lost_reset epoch c c.current) (lost_is epoch c c.current none own)
reset_is epoch false c none own stands = slots_done (current_reset epoch c c.current) (current_is epoch c c.current none own stands)

-- ---- all controllers

-- a controller that has just started has nothing to restore, and a bus reset leaves it so
pub first_has_none : to_come first_state ≡ 0
unfolding sum_to
first_has_none = refl

pub first_was_reset : (epoch : ℕ) → Fits first_state → WasReset first_state
first_was_reset epoch f = record { epoch = epoch; lost = false; before = first_state; fits = f; no_break = refl; stands = tt; is = refl }

pub few_of_all : (at : ℕ → ControllerState) → ((k : ℕ) → k < 63 → AfterReset (at k)) → sum_to 63 (λ k. to_come (at k)) ≤ 7 * sum_to 63 (λ k. to_restore_of (at k))
few_of_all at r = seven_times 63 (λ k. to_come (at k)) (λ k. to_restore_of (at k)) (λ k lt. (r k lt).few)
