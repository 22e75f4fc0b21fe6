-- A controller that is given a job stays in step, and keeps what it keeps at all times.
use Rattle.fw_model_controllers.proofs.Common.{◌≡◌, ℕ, ◌<◌, Bool, true, false, Option, Some, None, [], ◌∷◌, length, cond}
use Rattle.fw_model_controllers.proofs.Common.{refl, ap, subst, sym, ◌∙◌, arith, nat_tests, find_to_is, IsFirst, Account, asked, Slot}
use Rattle.fw_model_controllers.proofs.Common.{Free, Making, Established, Restoring, Gone, ControllerState, slot_at, Fits, CanGoOn, Directory, ControllerInStep}
use Rattle.std.proofs.Common.{Ok, Err, ◌++◌}
use Rattle.fw_cmp.specs.declared.outcome.StartFault.{StartFault}
use Rattle.fw_cmp.specs.declared.outcome.StartFault.TheVariants.{Busy, NoSuchConnection}
use Rattle.fw_cmp_jobs.specs.Slots.{is_free}
use Rattle.fw_cmp.specs.Starts.{free_slot, is_crowded, with_task, start_at, start, started, can_break, break_fault, break_started}
use Rattle.fw_cmp_jobs.specs.Slots.{IsMaking}
use Rattle.fw_cmp.proofs.Fitting.{is_free-true, start_fits, can_break_fits}
use Rattle.fw_cmp.proofs.Jobs.{breaking_task}
use Rattle.fw_cmp.proofs.GoingOn.{connection_goes_on, break_goes_on}
use Rattle.fw_model_controllers.specs.Together.{IsGiven, connection, break}
use Rattle.fw_model_controllers.proofs.Seconds.{made_in_step, waiting_in_step}

-- ---- a job that is given

-- the slot that a new connection takes
start_is : (c : ControllerState) (i : ℕ) (o : Option ℕ) → start_at o c ≡ Ok i → (o ≡ Some i) × (is_crowded c ≡ false)
start_is c i None e = absurd (grind arith)
start_is c i (Some k) e = go (is_crowded c) refl e
  where
    go : (b : Bool) → is_crowded c ≡ b → cond b (Err Busy) (Ok k) ≡ Ok i → (Some k ≡ Some i) × (is_crowded c ≡ false)
    go true f g = absurd (grind arith)
    go false f g = (grind arith, f)

room : (c : ControllerState) → is_crowded c ≡ false → length c.waiting < 8
room c e = grind (arith, nat_tests)

pub slot_taken : (c : ControllerState) (i : ℕ) → start c ≡ Ok i → (i < 32) × (is_free (slot_at c i) ≡ true) × (length c.waiting < 8)
slot_taken c i e =
    let is = start_is c i (free_slot c) e in
    let first = subst (IsFirst 32 (λ k. is_free (slot_at c k))) is.0 (find_to_is 32 (λ k. is_free (slot_at c k))) in
    (first.0, first.1, room c is.1)

making_in_step : (l : Account) (d : ℕ) (c : ControllerState) (i : ℕ) (s : Slot) → Fits c → i < 32 → is_free (slot_at c i) ≡ true → IsMaking s → ControllerInStep l d c
    → ControllerInStep l d (started (Ok i) s c)
making_in_step l d c i (Making conn asked overhead) fits lt free h x = made_in_step l d c i conn asked overhead _ fits.slots lt (is_free-true (slot_at c i) free) x
making_in_step l d c i Free fits lt free h x = absurd h
making_in_step l d c i (Established conn f) fits lt free h x = absurd h
making_in_step l d c i (Restoring conn f over) fits lt free h x = absurd h
making_in_step l d c i (Gone conn) fits lt free h x = absurd h

-- the tests of a break that may wait
break_is : (c : ControllerState) (i : ℕ) → break_fault c i ≡ None → (can_break c i ≡ true) × (length c.waiting < 8)
break_is c i e = go (can_break c i) refl (is_crowded c) refl e
  where
    go : (b : Bool) → can_break c i ≡ b → (k : Bool) → is_crowded c ≡ k → cond b (cond k (Some Busy) None) (Some NoSuchConnection) ≡ None → (can_break c i ≡ true) × (length c.waiting < 8)
    go true f true g h = absurd (grind arith)
    go true f false g h = (f, room c g)
    go false f k g h = absurd (grind arith)

pub break_is_task : (c : ControllerState) (i : ℕ) → break_fault c i ≡ None → break_started c i ≡ with_task c (breaking_task i)
break_is_task c i e = ap (λ (o : Option StartFault). elim o as (λ _. ControllerState) [ None ↦ with_task c (breaking_task i) | Some fault ↦ c ]) e

pub given_fits : (c e : ControllerState) → Fits c → IsGiven c e → Fits e
given_fits c e f (connection i s start_ok making fits is) = let t = slot_taken c i start_ok in subst Fits (sym is) (start_fits c i s f t.0 t.1 t.2 fits making)
given_fits c e f (break i none is) = let t = break_is c i none in subst Fits (sym (is ∙ break_is_task c i none)) (can_break_fits c i f t.0 t.1)

pub given_in_step : (l : Account) (d : ℕ) (c e : ControllerState) → Fits c → ControllerInStep l d c → IsGiven c e → ControllerInStep l d e
given_in_step l d c e f x (connection i s start_ok making fits is) = let t = slot_taken c i start_ok in subst (ControllerInStep l d) (sym is) (making_in_step l d c i s f t.0 t.1 making x)
given_in_step l d c e f x (break i none is) = subst (ControllerInStep l d) (sym (is ∙ break_is_task c i none)) (waiting_in_step l d c (c.waiting ++ breaking_task i ∷ []) x)

pub given_goes_on : (dir : Directory) (c e : ControllerState) → Fits c → IsGiven c e → CanGoOn dir c → CanGoOn dir e
given_goes_on dir c e f (connection i s start_ok making fits is) x = subst (CanGoOn dir) (sym is) (subst (λ r. CanGoOn dir (started r s c)) start_ok (connection_goes_on dir c s f making x))
given_goes_on dir c e f (break i none is) x = subst (CanGoOn dir) (sym is) (break_goes_on dir c i x)
