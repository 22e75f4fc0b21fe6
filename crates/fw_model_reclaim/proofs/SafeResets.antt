-- A connection that no break is asked of is not lost at a bus reset.
use Rattle.fw_model_reclaim.proofs.Common.{◌≡◌, ◌≢◌, ◌⊎◌, inl, inr, ℕ, ◌<◌, Bool, true, false, length, refl, sym}
use Rattle.fw_model_reclaim.proofs.Common.{ap, subst, ◌∙◌, arith, eqb, cases_eq, nat_tests, Account, Connection, Flow, Slot, Established}
use Rattle.fw_model_reclaim.proofs.Common.{Restoring, Current, Nothing, Asking, Hearing, Overtaken, Job, Purpose, Make, Restore, Break, Stage, Made, Ended, ControllerState, slot_at, breaks_slot}
use Rattle.fw_model_reclaim.proofs.Common.{restoring_job, is_current_slot, overtaken, current_reset, lost_reset, slot_reset, after_reset, after_lost_reset, state_reset, IsAtSlot, Restores, MatchesFor}
use Rattle.fw_model_reclaim.proofs.Common.{CourseFor, IsOnCourse, CurrentMatches, CurrentCourse, IsUnbroken, IsComplete, Stands, IsAtWork}
use Rattle.std.specs.List.{list_any}
use Rattle.fw_cmp.specs.Controllers.{break_runs}
use Rattle.fw_cmp_jobs.specs.Slots.{is_break_at}
use Rattle.fw_cmp.specs.Resets.{interrupted}
use Rattle.fw_model_reclaim.specs.Whole.{IsMade, is_unheard}
use Rattle.fw_model_reclaim.proofs.AfterReset.{interrupted_for, decided_for, decided_current}
use Rattle.fw_model_reclaim.proofs.ResetSlots.{interrupted_other, overtaken_other}
use Rattle.fw_model_reclaim.proofs.Safe.{IsSafe, stands_broken, safe_restores, on_course, breaks_is}
use Rattle.fw_model_reclaim.proofs.Slots.{slot_set_same, slot_mapped}

-- ---- the slot

-- a slot that is not the current job's stays as it is, up to what the reset makes of each
idle_slot : (epoch : ℕ) (c : ControllerState) (x : Current) (i : ℕ) → is_current_slot x i ≡ false → slot_at (current_reset epoch c x) i ≡ slot_at c i
idle_slot epoch c Nothing i e = refl
idle_slot epoch c (Asking j s) i e = overtaken_other epoch c j s i (λ at. grind (arith, nat_tests, e, at))
idle_slot epoch c (Hearing j s) i e = overtaken_other epoch c j s i (λ at. grind (arith, nat_tests, e, at))
idle_slot epoch c (Overtaken k o) i e = refl

after_slot : (epoch : ℕ) (c : ControllerState) (i : ℕ) (x y : Slot) → slot_at (current_reset epoch c c.current) i ≡ x → slot_reset x ≡ y → slot_at (after_reset epoch c) i ≡ y
after_slot epoch c i x y e r = slot_mapped (current_reset epoch c c.current) slot_reset i refl ∙ (ap slot_reset e ∙ r)

interrupted_stays : (epoch : ℕ) (c : ControllerState) (j : Job) → j.purpose ≡ Restore → slot_at (interrupted epoch c j) j.slot ≡ slot_at c j.slot
interrupted_stays epoch c j e = ap (λ w. slot_at (interrupted_for w epoch c j) j.slot) e

-- the slot of a restoring on its course
own_stays : (epoch : ℕ) (c : ControllerState) (j : Job) (s : Stage) (conn : Connection) (f : Flow) → j.slot < length c.slots → j ≡ restoring_job j.slot conn f
    → slot_at c j.slot ≡ Restoring conn f false → IsOnCourse f s → slot_at (overtaken epoch c j s) j.slot ≡ Restoring conn f false
own_stays epoch c j (Made g) conn f lt is own on = slot_set_same c j.slot (Restoring j.connection g false) lt
    ∙ (ap (λ (k : Job). Restoring k.connection g false) is ∙ ap (λ x. Restoring conn x false) on)
own_stays epoch c j (Ended e) conn f lt is own on = absurd on
own_stays epoch c j s conn f lt is own on = interrupted_stays epoch c j (ap (λ (k : Job). k.purpose) is) ∙ own

-- ---- breaks

interrupted_waits : (epoch : ℕ) (c : ControllerState) (j : Job) (why : Purpose) → (interrupted_for why epoch c j).waiting ≡ c.waiting
interrupted_waits epoch c j Make = refl
interrupted_waits epoch c j Restore = refl
interrupted_waits epoch c j Break = refl

decided_waits : (c : ControllerState) (j : Job) (why : Purpose) → (decided_for why c j).waiting ≡ c.waiting
decided_waits c j Make = refl
decided_waits c j Restore = refl
decided_waits c j Break = refl

overtaken_waits : (epoch : ℕ) (c : ControllerState) (j : Job) (s : Stage) → (overtaken epoch c j s).waiting ≡ c.waiting
overtaken_waits epoch c j (Made f) = refl
overtaken_waits epoch c j (Ended e) = decided_waits c j j.purpose
overtaken_waits epoch c j _ = interrupted_waits epoch c j j.purpose

reset_waits : (epoch : ℕ) (c : ControllerState) (x : Current) → (current_reset epoch c x).waiting ≡ c.waiting
reset_waits epoch c Nothing = refl
reset_waits epoch c (Asking j s) = overtaken_waits epoch c j s
reset_waits epoch c (Hearing j s) = overtaken_waits epoch c j s
reset_waits epoch c (Overtaken k o) = refl

interrupted_runs : (epoch : ℕ) (c : ControllerState) (j : Job) (why : Purpose) (i : ℕ) → is_break_at j i ≡ false → break_runs (interrupted_for why epoch c j).current i ≡ false
interrupted_runs epoch c j Make i e = refl
interrupted_runs epoch c j Restore i e = e
interrupted_runs epoch c j Break i e = refl

overtaken_runs : (epoch : ℕ) (c : ControllerState) (j : Job) (s : Stage) (i : ℕ) → break_runs c.current i ≡ false → is_break_at j i ≡ false → break_runs (overtaken epoch c j s).current i ≡ false
overtaken_runs epoch c j (Made f) i e b = refl
overtaken_runs epoch c j (Ended n) i e b = ap (λ x. break_runs x i) (decided_current c j j.purpose) ∙ e
overtaken_runs epoch c j s i e b = interrupted_runs epoch c j j.purpose i b

reset_runs : (epoch : ℕ) (c : ControllerState) (i : ℕ) → break_runs c.current i ≡ false → break_runs (current_reset epoch c c.current).current i ≡ false
reset_runs epoch c i e = go c.current e
  where
    go : (x : Current) → break_runs x i ≡ false → break_runs (current_reset epoch c x).current i ≡ false
    go Nothing b = e
    go (Asking j s) b = overtaken_runs epoch c j s i e b
    go (Hearing j s) b = overtaken_runs epoch c j s i e b
    go (Overtaken k o) b = e

unbroken_after : (epoch : ℕ) (c : ControllerState) (i : ℕ) → IsUnbroken c i → IsUnbroken (after_reset epoch c) i
unbroken_after epoch c i u = record {
  waits = ap (λ w. list_any (breaks_slot i) w) (reset_waits epoch c c.current) ∙ u.waits;
  runs = reset_runs epoch c i u.runs;
}

-- ---- a controller

-- no job is at a slot that stands and is not being broken
pub stands_idle : (c : ControllerState) (i : ℕ) (conn : Connection) (f : Flow) → CurrentMatches c c.current → break_runs c.current i ≡ false → slot_at c i ≡ Established conn f
    → is_current_slot c.current i ≡ false
stands_idle c i conn f m unbroken e = go c.current m unbroken
  where
    other : (j : Job) → MatchesFor j.purpose j (slot_at c j.slot) → is_break_at j i ≡ false → eqb j.slot i ≡ false
    other j m b = by (cases_eq j.slot i)
      where
        by : (j.slot ≡ i) ⊎ (j.slot ≢ i) → eqb j.slot i ≡ false
        by (inl at) = let why = stands_broken j j.purpose (slot_at c j.slot) conn f m (ap (slot_at c) at ∙ e) in sym (breaks_is j i Break why) ∙ b
        by (inr ne) = grind (arith, nat_tests)

    go : (x : Current) → CurrentMatches c x → break_runs x i ≡ false → is_current_slot x i ≡ false
    go Nothing m b = refl
    go (Asking j s) m b = other j m b
    go (Hearing j s) m b = other j m b
    go (Overtaken k o) m b = refl

-- a connection that is to be restored stays so
own_reset : (epoch : ℕ) (l : Account) (c : ControllerState) (i : ℕ) (conn : Connection) (f : Flow) → Restores l c → length c.slots ≡ 32 → IsAtSlot c.current → break_runs c.current i ≡ false
    → slot_at c i ≡ Restoring conn f false → slot_at (current_reset epoch c c.current) i ≡ Restoring conn f false
own_reset epoch l c i conn f r few at unbroken own = go c.current at unbroken r.matches (r.course (r.restoring i conn f own).second)
  where
    work : (j : Job) (s : Stage) → j.slot < 32 → is_break_at j i ≡ false → MatchesFor j.purpose j (slot_at c j.slot) → CourseFor j.purpose (slot_at c j.slot) s
        → slot_at (overtaken epoch c j s) i ≡ Restoring conn f false
    work j s lt b m course = by (cases_eq i j.slot)
      where
        by : (i ≡ j.slot) ⊎ (i ≢ j.slot) → slot_at (overtaken epoch c j s) i ≡ Restoring conn f false
        by (inl e) =
            let is = safe_restores c j i conn f (inr own) (sym e) b m in
            ap (slot_at (overtaken epoch c j s)) e ∙ own_stays epoch c j s conn f (omega (arith, few)) is.1 is.0 (on_course j j.slot (slot_at c j.slot) conn f s is.1 is.0 course)
        by (inr ne) = overtaken_other epoch c j s i ne ∙ own

    go : (x : Current) → IsAtSlot x → break_runs x i ≡ false → CurrentMatches c x → CurrentCourse c x → slot_at (current_reset epoch c x) i ≡ Restoring conn f false
    go Nothing at b m o = own
    go (Asking j s) at b m o = work j s at b m o
    go (Hearing j s) at b m o = work j s at b m o
    go (Overtaken k o') at b m o = own

heard_safe : (epoch : ℕ) (l : Account) (c : ControllerState) (i : ℕ) (conn : Connection) (f : Flow) → Restores l c → length c.slots ≡ 32 → IsAtSlot c.current → IsSafe c i conn f
    → IsSafe (after_reset epoch c) i conn f
heard_safe epoch l c i conn f r few at safe = record { slot = inr (go safe.slot); unbroken = unbroken_after epoch c i safe.unbroken }
  where
    go : (slot_at c i ≡ Established conn f) ⊎ (slot_at c i ≡ Restoring conn f false) → slot_at (after_reset epoch c) i ≡ Restoring conn f false
    go (inl e) = after_slot epoch c i (Established conn f) (Restoring conn f false) (idle_slot epoch c c.current i (stands_idle c i conn f r.matches safe.unbroken.runs e) ∙ e) refl
    go (inr e) = after_slot epoch c i (Restoring conn f false) (Restoring conn f false) (own_reset epoch l c i conn f r few at safe.unbroken.runs e) refl

-- ---- a connection that was whole

made_reset : (epoch : ℕ) (c : ControllerState) (j : Job) (f : Flow) → length c.slots ≡ 32 → IsAtSlot c.current → IsAtWork c.current j (Made f)
    → slot_at (current_reset epoch c c.current) j.slot ≡ Restoring j.connection f false
made_reset epoch c j f few at (inl e) = ap (λ x. slot_at (current_reset epoch c x) j.slot) e
    ∙ slot_set_same c j.slot (Restoring j.connection f false) (let lt : j.slot < 32 = subst (λ x. IsAtSlot x) e at in omega (arith, few))
made_reset epoch c j f few at (inr e) = ap (λ x. slot_at (current_reset epoch c x) j.slot) e
    ∙ slot_set_same c j.slot (Restoring j.connection f false) (let lt : j.slot < 32 = subst (λ x. IsAtSlot x) e at in omega (arith, few))

-- the connection of a slot is to be restored in its own second, and no break of it is asked for
pub record IsOwn (c : ControllerState) (i : ℕ) (conn : Connection) (f : Flow) : Type 0 where
  pub slot : slot_at c i ≡ Restoring conn f false
  pub unbroken : IsUnbroken c i

heard_whole : (epoch : ℕ) (c : ControllerState) (i : ℕ) (conn : Connection) (f : Flow) → length c.slots ≡ 32 → IsAtSlot c.current → IsUnbroken c i → IsComplete c i conn f
    → IsOwn (after_reset epoch c) i conn f
heard_whole epoch c i conn f few at u (Stands e idle) = record {
  slot = after_slot epoch c i (Established conn f) (Restoring conn f false) (idle_slot epoch c c.current i idle ∙ e) refl;
  unbroken = unbroken_after epoch c i u;
}
heard_whole epoch c i conn f few at u (IsMade j work slot same) = record {
  slot = after_slot epoch c i (Restoring conn f false) (Restoring conn f false)
      (subst (λ k. slot_at (current_reset epoch c c.current) k ≡ Restoring conn f false) slot (made_reset epoch c j f few at work ∙ ap (λ x. Restoring x f false) same)) refl;
  unbroken = unbroken_after epoch c i u;
}

-- ---- the same if the response to the request was lost

lost_idle : (epoch : ℕ) (c : ControllerState) (x : Current) (i : ℕ) → is_current_slot x i ≡ false → slot_at (lost_reset epoch c x) i ≡ slot_at c i
lost_idle epoch c Nothing i e = refl
lost_idle epoch c (Asking j s) i e = interrupted_other epoch c j j.purpose i refl (λ at. grind (arith, nat_tests, e, at))
lost_idle epoch c (Hearing j s) i e = interrupted_other epoch c j j.purpose i refl (λ at. grind (arith, nat_tests, e, at))
lost_idle epoch c (Overtaken k o) i e = refl

lost_slot : (epoch : ℕ) (c : ControllerState) (i : ℕ) (x y : Slot) → slot_at (lost_reset epoch c c.current) i ≡ x → slot_reset x ≡ y → slot_at (after_lost_reset epoch c) i ≡ y
lost_slot epoch c i x y e r = slot_mapped (lost_reset epoch c c.current) slot_reset i refl ∙ (ap slot_reset e ∙ r)

lost_waits : (epoch : ℕ) (c : ControllerState) (x : Current) → (lost_reset epoch c x).waiting ≡ c.waiting
lost_waits epoch c Nothing = refl
lost_waits epoch c (Asking j s) = interrupted_waits epoch c j j.purpose
lost_waits epoch c (Hearing j s) = interrupted_waits epoch c j j.purpose
lost_waits epoch c (Overtaken k o) = refl

lost_runs : (epoch : ℕ) (c : ControllerState) (i : ℕ) → break_runs c.current i ≡ false → break_runs (lost_reset epoch c c.current).current i ≡ false
lost_runs epoch c i e = go c.current e
  where
    go : (x : Current) → break_runs x i ≡ false → break_runs (lost_reset epoch c x).current i ≡ false
    go Nothing b = e
    go (Asking j s) b = interrupted_runs epoch c j j.purpose i b
    go (Hearing j s) b = interrupted_runs epoch c j j.purpose i b
    go (Overtaken k o) b = e

lost_unbroken : (epoch : ℕ) (c : ControllerState) (i : ℕ) → IsUnbroken c i → IsUnbroken (after_lost_reset epoch c) i
lost_unbroken epoch c i u = record {
  waits = ap (λ w. list_any (breaks_slot i) w) (lost_waits epoch c c.current) ∙ u.waits;
  runs = lost_runs epoch c i u.runs;
}

-- a connection that is to be restored stays so
lost_own : (epoch : ℕ) (l : Account) (c : ControllerState) (i : ℕ) (conn : Connection) (f : Flow) → Restores l c → break_runs c.current i ≡ false → slot_at c i ≡ Restoring conn f false
    → slot_at (lost_reset epoch c c.current) i ≡ Restoring conn f false
lost_own epoch l c i conn f r unbroken own = go c.current unbroken r.matches
  where
    work : (j : Job) → is_break_at j i ≡ false → MatchesFor j.purpose j (slot_at c j.slot) → slot_at (interrupted epoch c j) i ≡ Restoring conn f false
    work j b m = by (cases_eq i j.slot)
      where
        by : (i ≡ j.slot) ⊎ (i ≢ j.slot) → slot_at (interrupted epoch c j) i ≡ Restoring conn f false
        by (inl e) =
            let is = safe_restores c j i conn f (inr own) (sym e) b m in
            ap (slot_at (interrupted epoch c j)) e ∙ (interrupted_stays epoch c j (ap (λ (k : Job). k.purpose) is.1) ∙ is.0)
        by (inr ne) = interrupted_other epoch c j j.purpose i refl ne ∙ own

    go : (x : Current) → break_runs x i ≡ false → CurrentMatches c x → slot_at (lost_reset epoch c x) i ≡ Restoring conn f false
    go Nothing b m = own
    go (Asking j s) b m = work j b m
    go (Hearing j s) b m = work j b m
    go (Overtaken k o') b m = own

lost_safe : (epoch : ℕ) (l : Account) (c : ControllerState) (i : ℕ) (conn : Connection) (f : Flow) → Restores l c → IsSafe c i conn f → IsSafe (after_lost_reset epoch c) i conn f
lost_safe epoch l c i conn f r safe = record { slot = inr (go safe.slot); unbroken = lost_unbroken epoch c i safe.unbroken }
  where
    go : (slot_at c i ≡ Established conn f) ⊎ (slot_at c i ≡ Restoring conn f false) → slot_at (after_lost_reset epoch c) i ≡ Restoring conn f false
    go (inl e) = lost_slot epoch c i (Established conn f) (Restoring conn f false) (lost_idle epoch c c.current i (stands_idle c i conn f r.matches safe.unbroken.runs e) ∙ e) refl
    go (inr e) = lost_slot epoch c i (Restoring conn f false) (Restoring conn f false) (lost_own epoch l c i conn f r safe.unbroken.runs e) refl

pub safe_reset : (epoch : ℕ) (lost : Bool) (l : Account) (c : ControllerState) (i : ℕ) (conn : Connection) (f : Flow) → Restores l c → length c.slots ≡ 32 → IsAtSlot c.current → IsSafe c i conn f
    → IsSafe (state_reset epoch lost c) i conn f
safe_reset epoch true l c i conn f r few at safe = lost_safe epoch l c i conn f r safe
safe_reset epoch false l c i conn f r few at safe = heard_safe epoch l c i conn f r few at safe

-- a connection that was whole as far as its controller had heard: no job was at its slot
lost_whole : (epoch : ℕ) (c : ControllerState) (i : ℕ) (conn : Connection) (f : Flow) → is_current_slot c.current i ≡ false → IsUnbroken c i → IsComplete c i conn f
    → IsOwn (after_lost_reset epoch c) i conn f
lost_whole epoch c i conn f idle u (Stands e _) = record {
  slot = lost_slot epoch c i (Established conn f) (Restoring conn f false) (lost_idle epoch c c.current i idle ∙ e) refl;
  unbroken = lost_unbroken epoch c i u;
}
lost_whole epoch c i conn f idle u (IsMade j (inl work) slot same) = absurd (grind (arith, nat_tests, sym (ap (λ x. is_current_slot x i) work) ∙ idle, slot))
lost_whole epoch c i conn f idle u (IsMade j (inr work) slot same) = absurd (grind (arith, nat_tests, sym (ap (λ x. is_current_slot x i) work) ∙ idle, slot))

pub whole_reset : (epoch : ℕ) (lost : Bool) (c : ControllerState) (i : ℕ) (conn : Connection) (f : Flow) → length c.slots ≡ 32 → IsAtSlot c.current → IsUnbroken c i → is_unheard lost c i ≡ false
    → IsComplete c i conn f → IsOwn (state_reset epoch lost c) i conn f
whole_reset epoch true c i conn f few at u heard complete = lost_whole epoch c i conn f heard u complete
whole_reset epoch false c i conn f few at u heard complete = heard_whole epoch c i conn f few at u complete
