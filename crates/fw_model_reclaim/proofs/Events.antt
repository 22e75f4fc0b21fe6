-- A controller at the end of a reclaim second, at its start, and if a job is asked for.
use Rattle.fw_model_reclaim.proofs.Common.{◌≡◌, ◌≢◌, ◌⊎◌, inl, inr, ℕ, ◌<◌, ◌≤◌, get_or, Bool, true, false, Option}
use Rattle.fw_model_reclaim.proofs.Common.{Some, None, length, refl, sym, ap, subst, ◌∙◌, arith, Ok, cases_eq, cases_lt, Account}
use Rattle.fw_model_reclaim.proofs.Common.{Connection, Flow, Slot, Free, Making, Established, Restoring, Gone, Current, Nothing}
use Rattle.fw_model_reclaim.proofs.Common.{Asking, Hearing, Overtaken, Job, Purpose, Make, Restore, Break, ControllerState}
use Rattle.fw_model_reclaim.proofs.Common.{first_state, slot_at, with_slot, is_making, is_current_slot, started, break_started, break_fault, with_task, StartFault, KeepsFlow, IsRestorable, Restores}
use Rattle.fw_model_reclaim.proofs.Common.{MatchesFor, CourseFor, CurrentMatches, CurrentCourse}
use Rattle.std.proofs.Common.{replicate}
use Rattle.std.proofs.lemmas.List.{get_or-replicate, get_or_past}
use Rattle.fw_model_account.specs.Events.{after_second as account_second}
use Rattle.fw_cmp.specs.Resets.{after_second}
use Rattle.fw_cmp_jobs.specs.Slots.{slot_over}
use Rattle.fw_model_reclaim.proofs.Nexts.{used}
use Rattle.fw_model_reclaim.proofs.Slots.{slot_set_same, slot_set_other, slot_mapped}

-- ---- the end of a reclaim second

over_standing : (x : Slot) (conn : Connection) (f : Flow) → slot_over x ≡ Established conn f → x ≡ Established conn f
over_standing Free conn f e = absurd (grind arith)
over_standing (Making k a o) conn f e = absurd (grind arith)
over_standing (Established k g) conn f e = e
over_standing (Restoring k g o) conn f e = absurd (grind arith)
over_standing (Gone k) conn f e = absurd (grind arith)

over_restoring : (x : Slot) (conn : Connection) (f : Flow) → slot_over x ≡ Restoring conn f false → ⊥
over_restoring Free conn f e = grind arith
over_restoring (Making k a o) conn f e = grind arith
over_restoring (Established k g) conn f e = grind arith
over_restoring (Restoring k g o) conn f e = grind arith
over_restoring (Gone k) conn f e = grind arith

over_matches : (why : Purpose) (j : Job) (x : Slot) → MatchesFor why j x → MatchesFor why j (slot_over x)
over_matches Make j x m = ap slot_over m
over_matches Restore j x m = (m.0, true, ap slot_over m.2, m.3)
over_matches Break j x (inl m) = inl (m.0, ap slot_over m.1)
over_matches Break j x (inr m) = inr (ap slot_over m)

same_flow : (l : Account) (conn : Connection) (f : Flow) → KeepsFlow l conn f → KeepsFlow (account_second l) conn f
same_flow l conn f k = record { output = k.output; input = k.input; manager = k.manager }

pub restores_second : (l : Account) (c : ControllerState) → Restores l c → Restores (account_second l) (after_second c)
restores_second l c r = record {
  matches = matches c.current r.matches;
  standing = λ i conn f e idle. same_flow l conn f (r.standing i conn f (over_standing (slot_at c i) conn f (sym (slot_mapped c slot_over i refl) ∙ e)) idle);
  restoring = λ i conn f e. absurd (over_restoring (slot_at c i) conn f (sym (slot_mapped c slot_over i refl) ∙ e));
  course = λ runs. absurd (grind (arith, runs));
}
  where
    at : (j : Job) → MatchesFor j.purpose j (slot_at c j.slot) → MatchesFor j.purpose j (slot_at (after_second c) j.slot)
    at j m = subst (λ x. MatchesFor j.purpose j x) (sym (slot_mapped c slot_over j.slot refl)) (over_matches j.purpose j (slot_at c j.slot) m)

    matches : (x : Current) → CurrentMatches c x → CurrentMatches (after_second c) x
    matches Nothing m = tt
    matches (Asking j s) m = at j m
    matches (Hearing j s) m = at j m
    matches (Overtaken k o) m = tt

-- ---- a new connection is asked for

unlike_making : (x : Slot) → is_making x ≡ true → (((conn : Connection) (f : Flow) → x ≡ Established conn f → ⊥) × ((conn : Connection) (f : Flow) (over : Bool) → x ≡ Restoring conn f over → ⊥))
unlike_making (Making conn asked overhead) e = (λ k f is. grind (arith, is), λ k f o is. grind (arith, is))
unlike_making _ e = absurd (grind arith)

-- a slot that was free gets the connection that is to be made
pub restores_started : (l : Account) (c : ControllerState) (i : ℕ) (x : Slot) → length c.slots ≡ 32 → i < 32 → slot_at c i ≡ Free → is_making x ≡ true → Restores l c → Restores l (started (Ok i) x c)
restores_started l c i x few lt free making r = record {
  matches = matches c.current r.matches;
  standing = λ k conn f e idle. standing k conn f e idle (cases_eq k i);
  restoring = λ k conn f e. restoring k conn f e (cases_eq k i);
  course = λ runs. course c.current r.matches (r.course runs);
}
  where
    own : (k : ℕ) → k ≡ i → slot_at (with_slot c i x) k ≡ x
    own k e = ap (slot_at (with_slot c i x)) e ∙ slot_set_same c i x (omega arith)

    standing : (k : ℕ) (conn : Connection) (f : Flow) → slot_at (with_slot c i x) k ≡ Established conn f → is_current_slot c.current k ≡ false → (k ≡ i) ⊎ (k ≢ i) → KeepsFlow l conn f
    standing k conn f e idle (inl is) = absurd ((unlike_making x making).0 conn f (sym (own k is) ∙ e))
    standing k conn f e idle (inr ne) = r.standing k conn f (sym (slot_set_other c i k x ne) ∙ e) idle

    restoring : (k : ℕ) (conn : Connection) (f : Flow) → slot_at (with_slot c i x) k ≡ Restoring conn f false → (k ≡ i) ⊎ (k ≢ i) → IsRestorable l conn f
    restoring k conn f e (inl is) = absurd ((unlike_making x making).1 conn f false (sym (own k is) ∙ e))
    restoring k conn f e (inr ne) = r.restoring k conn f (sym (slot_set_other c i k x ne) ∙ e)

    -- the current job's slot is another
    other : (j : Job) → MatchesFor j.purpose j (slot_at c j.slot) → slot_at (with_slot c i x) j.slot ≡ slot_at c j.slot
    other j m = slot_set_other c i j.slot x (λ e. used j.purpose j (slot_at c j.slot) m (ap (slot_at c) e ∙ free))

    matches : (y : Current) → CurrentMatches c y → CurrentMatches (with_slot c i x) y
    matches Nothing m = tt
    matches (Asking j s) m = subst (λ z. MatchesFor j.purpose j z) (sym (other j m)) m
    matches (Hearing j s) m = subst (λ z. MatchesFor j.purpose j z) (sym (other j m)) m
    matches (Overtaken k o) m = tt

    course : (y : Current) → CurrentMatches c y → CurrentCourse c y → CurrentCourse (with_slot c i x) y
    course Nothing m o = tt
    course (Asking j s) m o = subst (λ z. CourseFor j.purpose z s) (sym (other j m)) o
    course (Hearing j s) m o = subst (λ z. CourseFor j.purpose z s) (sym (other j m)) o
    course (Overtaken k o') m o = tt

-- ---- a controller that starts

pub free_slots : (i : ℕ) → slot_at first_state i ≡ Free
free_slots i = go (cases_lt i 32)
  where
    go : (i < 32) ⊎ (32 ≤ i) → get_or (replicate 32 Free) i Free ≡ Free
    go (inl lt) = get_or-replicate 32 i Free Free lt
    go (inr le) = get_or_past (replicate 32 Free) i Free le

pub restores_first : (l : Account) → Restores l first_state
restores_first l = record {
  matches = tt;
  standing = λ i conn f e idle. let no_slot : Free ≡ Established conn f = sym (free_slots i) ∙ e in absurd (grind (arith, no_slot));
  restoring = λ i conn f e. let no_slot : Free ≡ Restoring conn f false = sym (free_slots i) ∙ e in absurd (grind (arith, no_slot));
  course = λ runs. tt;
}

-- ---- a break is asked for

-- a waiting job more changes no slot and no current job
pub restores_break : (l : Account) (c : ControllerState) (i : ℕ) → Restores l c → Restores l (break_started c i)
restores_break l c i r = go (break_fault c i)
  where
    go : (o : Option StartFault) → Restores l (elim o as (λ x. ControllerState) [ None ↦ with_task c (record { slot = i; breaks = true }) | Some fault ↦ c ])
    go None = record { matches = matches c.current r.matches; standing = r.standing; restoring = r.restoring; course = λ runs. course c.current (r.course runs) }
      where
        matches : (x : Current) → CurrentMatches c x → CurrentMatches (with_task c (record { slot = i; breaks = true })) x
        matches Nothing m = m
        matches (Asking j s) m = m
        matches (Hearing j s) m = m
        matches (Overtaken k o) m = m

        course : (x : Current) → CurrentCourse c x → CurrentCourse (with_task c (record { slot = i; breaks = true })) x
        course Nothing m = m
        course (Asking j s) m = m
        course (Hearing j s) m = m
        course (Overtaken k o) m = m
    go (Some fault) = r
