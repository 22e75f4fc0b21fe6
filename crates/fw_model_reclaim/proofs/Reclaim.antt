-- The reclaim theorem.
use Rattle.fw_model_reclaim.proofs.Common.{◌≡◌, ◌≢◌, ◌⊎◌, inl, inr, ℕ, Bool, true, false, Option, Some, None, List, [], ◌∷◌, sym, ap, subst, ◌∙◌, arith, Ok, cases_eq, nat_tests, ResetEntry, Account}
use Rattle.fw_model_reclaim.proofs.Common.{Connection, Flow, Slot, Free, Established, Restoring, StartFault, ControllerState}
use Rattle.fw_model_reclaim.proofs.Common.{first_state, slot_at, with_slot, breaks_slot, is_current_slot, after_hear, started}
use Rattle.fw_model_reclaim.proofs.Common.{break_started, break_fault, with_task, after_next, Becomes, Restores, IsComplete, Stands, IsUnbroken, World, CanReclaim, Change, Turn, Answer, BusReset}
use Rattle.fw_model_reclaim.proofs.Common.{SecondOver, Death, NewConnection, BreakOf, Withholding, Elsewhere, Happens}
use Rattle.std.proofs.lemmas.List.Folds.{list_any-append}
use Rattle.fw_cmp_jobs.specs.Slots.{is_restoring}
use Rattle.fw_model_reclaim.specs.Whole.{HasFinished, IsHarmless, AreHarmless, Reclaims, is_unheard}
use Rattle.fw_model_reclaim.specs.Worlds.{IsReset, Path}
use Rattle.fw_model_reclaim.proofs.AfterReset.{begun_in_second}
use Rattle.fw_model_reclaim.proofs.Given.{takes_free}
use Rattle.fw_model_reclaim.proofs.Living.{turn_agrees, ended_agrees, answer_leaves, carried, facts_in, turn_meets}
use Rattle.fw_model_reclaim.proofs.Safe.{IsSafe, safe_turn, safe_heard}
use Rattle.fw_model_reclaim.proofs.SafeResets.{safe_reset, whole_reset, stands_idle}
use Rattle.fw_model_reclaim.proofs.Slots.{slot_set_other}
use Rattle.fw_model_reclaim.proofs.Complete.{complete_of, whole_of}
use Rattle.fw_model_reclaim.proofs.Together.{goes_on_reclaiming}
use Rattle.fw_model_reclaim.proofs.Wholes.{whole_connected}

-- ---- what is asked for

safe_new : (c : ControllerState) (k : ℕ) (x : Slot) (i : ℕ) (conn : Connection) (f : Flow) → slot_at c k ≡ Free → IsSafe c i conn f → IsSafe (started (Ok k) x c) i conn f
safe_new c k x i conn f free safe = record {
  slot = go safe.slot;
  unbroken = record { waits = list_any-append (breaks_slot i) c.waiting (record { slot = k; breaks = false } ∷ []) ∙ grind (arith, safe.unbroken.waits); runs = safe.unbroken.runs };
}
  where
    other : (y : Slot) → slot_at c i ≡ y → y ≢ Free → slot_at (with_slot c k x) i ≡ y
    other y e used = slot_set_other c k i x (λ at. used (sym e ∙ (ap (slot_at c) at ∙ free))) ∙ e

    go : (slot_at c i ≡ Established conn f) ⊎ (slot_at c i ≡ Restoring conn f false) → (slot_at (with_slot c k x) i ≡ Established conn f) ⊎ (slot_at (with_slot c k x) i ≡ Restoring conn f false)
    go (inl e) = inl (other (Established conn f) e (λ z. grind (arith, z)))
    go (inr e) = inr (other (Restoring conn f false) e (λ z. grind (arith, z)))

-- a break of another slot
safe_break : (c : ControllerState) (k i : ℕ) (conn : Connection) (f : Flow) → k ≢ i → IsSafe c i conn f → IsSafe (break_started c k) i conn f
safe_break c k i conn f ne safe = go (break_fault c k)
  where
    go : (o : Option StartFault) → IsSafe (elim o as (λ x. ControllerState) [ None ↦ with_task c (record { slot = k; breaks = true }) | Some fault ↦ c ]) i conn f
    go None = record {
      slot = safe.slot;
      unbroken = record {
        waits = list_any-append (breaks_slot i) c.waiting (record { slot = k; breaks = true } ∷ [])
            ∙ grind (arith, nat_tests, safe.unbroken.waits, ne);
        runs = safe.unbroken.runs;
      };
    }
    go (Some fault) = safe

-- ---- each change

-- the second goes on
runs_on : (w v : World) (x : Change) (c i : ℕ) → CanReclaim w → Happens w x v → IsHarmless c i x → w.account.reclaiming ≡ true → v.account.reclaiming ≡ true
runs_on w v (Turn d now) c i h t ok runs = (turn_agrees w d now v.account t.turn.says).reclaiming ∙ runs
runs_on w v (Answer d r) c i h t ok runs = (ended_agrees (carried w d r v t) v.account d t.account).reclaiming ∙ ((answer_leaves w v d r h t).reclaiming ∙ runs)
runs_on w v (BusReset entry epoch lost) c i h t ok runs = ap (λ (a : Account). a.reclaiming) t.account ∙ begun_in_second w.account h.step.sound runs
runs_on w v SecondOver c i h t ok runs = absurd ok
runs_on w v (Death d) c i h t ok runs = ap (λ (a : Account). a.reclaiming) t.account ∙ runs
runs_on w v (NewConnection d k slot) c i h t ok runs = ap (λ (a : Account). a.reclaiming) t.account ∙ runs
runs_on w v (BreakOf d k) c i h t ok runs = ap (λ (a : Account). a.reclaiming) t.account ∙ runs
runs_on w v Withholding c i h t ok runs = ap (λ (a : Account). a.reclaiming) t.account ∙ runs
runs_on w v Elsewhere c i h t ok runs = ap (λ (y : World). y.account.reclaiming) t ∙ runs

-- the controller that changes, or another
changed : (w v : World) (d c i : ℕ) (after : ControllerState) (conn : Connection) (f : Flow) → Becomes w.controllers d after v.controllers
    → (d ≡ c → IsSafe (w.controllers d) i conn f → IsSafe after i conn f) → IsSafe (w.controllers c) i conn f → IsSafe (v.controllers c) i conn f
changed w v d c i after conn f b keeps safe = go (cases_eq c d)
  where
    go : (c ≡ d) ⊎ (c ≢ d) → IsSafe (v.controllers c) i conn f
    go (inl e) = subst (λ z. IsSafe z i conn f) (sym (ap v.controllers e ∙ b.new)) (keeps (sym e) (subst (λ k. IsSafe (w.controllers k) i conn f) e safe))
    go (inr ne) = subst (λ z. IsSafe z i conn f) (sym (b.others c ne)) safe

safe_after : (w v : World) (x : Change) (c i : ℕ) (conn : Connection) (f : Flow) → CanReclaim w → w.account.reclaiming ≡ true → Happens w x v → IsHarmless c i x → IsSafe (w.controllers c) i conn f
    → IsSafe (v.controllers c) i conn f
safe_after w v (Turn d now) c i conn f h runs t ok safe = changed w v d c i (after_next now w.directory (w.controllers d)) conn f t.turn.becomes
    (λ e s. safe_turn w.account now w.directory (w.controllers d) i conn f (record { runs = runs; meets = turn_meets w v d now h t; stage = (facts_in w d h).stage }) s) safe
safe_after w v (Answer d r) c i conn f h runs t ok safe = changed w v d c i (after_hear (w.controllers d) r) conn f t.becomes (λ e s. safe_heard (w.controllers d) r i conn f s) safe
safe_after w v (BusReset entry epoch lost) c i conn f h runs t ok safe =
    subst (λ z. IsSafe z i conn f) (sym (t.each c)) (safe_reset epoch (lost c) w.account (w.controllers c) i conn f (h.each c) (facts_in w c h).slots (facts_in w c h).at_slot safe)
safe_after w v SecondOver c i conn f h runs t ok safe = absurd ok
safe_after w v (Death d) c i conn f h runs t ok safe = changed w v d c i first_state conn f t.becomes (λ e s. absurd (ok e)) safe
safe_after w v (NewConnection d k slot) c i conn f h runs t ok safe =
    changed w v d c i (started (Ok k) slot (w.controllers d)) conn f t.becomes (λ e s. safe_new (w.controllers d) k slot i conn f (takes_free (w.controllers d) k t.starts).1 s) safe
safe_after w v (BreakOf d k) c i conn f h runs t ok safe = changed w v d c i (break_started (w.controllers d) k) conn f t.becomes (λ e s. go ok e s) safe
  where
    go : (d ≢ c) ⊎ (k ≢ i) → d ≡ c → IsSafe (w.controllers d) i conn f → IsSafe (break_started (w.controllers d) k) i conn f
    go (inl other) e s = absurd (other e)
    go (inr ne) e s = safe_break (w.controllers d) k i conn f ne s
safe_after w v Withholding c i conn f h runs t ok safe = subst (λ z. IsSafe z i conn f) (sym (t.each c)) safe
safe_after w v Elsewhere c i conn f h runs t ok safe = subst (λ y. IsSafe (y.controllers c) i conn f) (sym t) safe

-- ---- up to the end of the second

-- where it leads
pub record LeadsTo (v : World) (c i : ℕ) (conn : Connection) (f : Flow) : Type 0 where
  pub can : CanReclaim v
  pub safe : IsSafe (v.controllers c) i conn f

safe_path : (w : World) (changes : List Change) (v : World) (c i : ℕ) (conn : Connection) (f : Flow) → CanReclaim w → w.account.reclaiming ≡ true → Path w changes v → AreHarmless c i changes
    → IsSafe (w.controllers c) i conn f → LeadsTo v c i conn f
safe_path w [] v c i conn f h runs p ok safe = subst (λ y. LeadsTo y c i conn f) (sym p) (record { can = h; safe = safe })
safe_path w (x ∷ changes) v c i conn f h runs p ok safe = safe_path p.0 changes v c i conn f (goes_on_reclaiming w p.0 x h p.1) (runs_on w p.0 x c i h p.1 ok.0 runs) p.2 ok.1
    (safe_after w p.0 x c i conn f h runs p.1 ok.0 safe)

-- a connection that is not to be restored any more stands
pub record StandsAlone (c : ControllerState) (i : ℕ) (conn : Connection) (f : Flow) : Type 0 where
  pub slot : slot_at c i ≡ Established conn f
  pub idle : is_current_slot c.current i ≡ false

whole_again : (l : Account) (c : ControllerState) (i : ℕ) (conn : Connection) (f : Flow) → Restores l c → HasFinished c → IsSafe c i conn f → StandsAlone c i conn f
whole_again l c i conn f r done safe = go safe.slot
  where
    go : (slot_at c i ≡ Established conn f) ⊎ (slot_at c i ≡ Restoring conn f false) → StandsAlone c i conn f
    go (inl e) = record { slot = e; idle = stands_idle c i conn f r.matches safe.unbroken.runs e }
    go (inr e) = let still : is_restoring (slot_at c i) ≡ true = ap is_restoring e in absurd (grind (arith, still, done i))

-- the second runs if a connection is safe that is to be restored
second_of : (u : World) (c i : ℕ) (conn : Connection) (f : Flow) → CanReclaim u → slot_at (u.controllers c) i ≡ Restoring conn f false → u.account.reclaiming ≡ true
second_of u c i conn f h own = ((h.each c).restoring i conn f own).second

-- the end of the second
pub record EndsWhole (v : World) (c i : ℕ) (conn : Connection) (f : Flow) : Type 0 where
  pub can : CanReclaim v
  pub stands : StandsAlone (v.controllers c) i conn f
  pub unbroken : IsUnbroken (v.controllers c) i

-- what was complete before the reset is complete at the end, as it was
completes : (w u v : World) (entry : ResetEntry) (epoch : ℕ) (lost : ℕ → Bool) (changes : List Change) (c i : ℕ) (conn : Connection) (f : Flow) → CanReclaim w → IsReset w entry epoch lost u
    → Path u changes v → IsComplete (w.controllers c) i conn f → IsUnbroken (w.controllers c) i → is_unheard (lost c) (w.controllers c) i ≡ false → AreHarmless c i changes
    → HasFinished (v.controllers c) → EndsWhole v c i conn f
completes w u v entry epoch lost changes c i conn f h t p complete unbroken heard ok done =
    let after = goes_on_reclaiming w u (BusReset entry epoch lost) h t in
    let begun = whole_reset epoch (lost c) (w.controllers c) i conn f (facts_in w c h).slots (facts_in w c h).at_slot unbroken heard complete in
    let own : slot_at (u.controllers c) i ≡ Restoring conn f false = ap (λ z. slot_at z i) (t.each c) ∙ begun.slot in
    let start : IsSafe (u.controllers c) i conn f = record { slot = inr own; unbroken = subst (λ z. IsUnbroken z i) (sym (t.each c)) begun.unbroken } in
    let end = safe_path u changes v c i conn f after (second_of u c i conn f after own) p ok start in
    record { can = end.can; stands = whole_again v.account (v.controllers c) i conn f (end.can.each c) done end.safe; unbroken = end.safe.unbroken }

pub reclaims : (w u v : World) (entry : ResetEntry) (epoch : ℕ) (lost : ℕ → Bool) (changes : List Change) → CanReclaim w → IsReset w entry epoch lost u → Path u changes v → Reclaims w lost changes v
reclaims w u v entry epoch lost changes h t p c i conn f whole unbroken heard ok done =
    let before = complete_of w c i conn f h unbroken whole in
    let end = completes w u v entry epoch lost changes c i conn before.flow h t p before.complete unbroken heard ok done in
    let again = whole_of v c i conn f before.flow end.can (Stands end.stands.slot end.stands.idle) before.agrees in
    (again, whole_connected v c i conn f end.can end.unbroken again, end.stands.idle)
