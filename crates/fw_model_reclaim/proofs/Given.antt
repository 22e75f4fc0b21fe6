-- The slot that a new connection takes.
use Rattle.fw_model_reclaim.proofs.Common.{◌≡◌, ℕ, ◌<◌, Bool, true, false, Option, Some, None, refl, subst, arith, cond, Ok, Slot, Free, Making, Established, Restoring, Gone, ControllerState, slot_at}
use Rattle.fw_model_reclaim.proofs.Common.{is_making}
use Rattle.std.specs.Prelude.{Err}
use Rattle.fw_terms.proofs.Tables.{IsFirst, find_to_is}
use Rattle.fw_cmp.specs.declared.outcome.StartFault.TheVariants.{Busy}
use Rattle.fw_cmp_jobs.specs.Slots.{is_free}
use Rattle.fw_cmp.specs.Starts.{free_slot, is_crowded, start_at, start}
use Rattle.fw_cmp_jobs.specs.Slots.{IsMaking}

pub making_is : (x : Slot) → IsMaking x → is_making x ≡ true
making_is (Making conn asked overhead) m = refl
making_is Free m = absurd m
making_is (Established conn f) m = absurd m
making_is (Restoring conn f over) m = absurd m
making_is (Gone conn) m = absurd m

free_is : (x : Slot) → is_free x ≡ true → x ≡ Free
free_is Free e = refl
free_is _ e = absurd (grind (arith, e))

taken : (b : Bool) (k i : ℕ) → cond b (Err Busy) (Ok k) ≡ Ok i → k ≡ i
taken true k i e = absurd (grind (arith, e))
taken false k i e = grind (arith, e)

-- it was free
pub takes_free : (c : ControllerState) (i : ℕ) → start c ≡ Ok i → (i < 32) × (slot_at c i ≡ Free)
takes_free c i e = go (free_slot c) refl e
  where
    go : (o : Option ℕ) → free_slot c ≡ o → start_at o c ≡ Ok i → (i < 32) × (slot_at c i ≡ Free)
    go None f e = absurd (grind (arith, e))
    go (Some k) f e =
        let first = subst (λ o. IsFirst 32 (λ n. is_free (slot_at c n)) o) f (find_to_is 32 (λ n. is_free (slot_at c n))) in
        let at : k ≡ i = taken (is_crowded c) k i e in
        (subst (λ n. n < 32) at first.0, subst (λ n. slot_at c n ≡ Free) at (free_is (slot_at c k) first.1))
