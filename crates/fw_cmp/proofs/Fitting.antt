-- What a controller keeps at all times, as its calls change it.
use Rattle.fw_cmp.proofs.Common.{◌≡◌, ◌≢◌, ℕ, ◌<◌, ◌≤◌, Bool, true, false, not, ◌&&◌, ◌||◌, List, [], ◌∷◌, ◌++◌, length, get_or, refl, ap, sym, subst, ◌∙◌, arith, Some, None, ◌⊎◌, inl, inr, cases_eq}
use Rattle.fw_cmp.proofs.Common.{Slot, Free, Making, Established, Restoring, Gone, Current, Nothing, Asking, Hearing, Overtaken, WaitingJob, Job, Stage, ControllerState, slot_at, with_slot, is_free}
use Rattle.fw_cmp.proofs.Common.{break_runs, job_for, SlotHasJobs, CurrentFits, RunsFitting, Fits, IsMaking, SlotFits}
use Rattle.std.proofs.Common.{length-append}
use Rattle.std.specs.Prelude.{All}
use Rattle.std.specs.List.{list_any}
use Rattle.std.proofs.lemmas.Bool.{cases_lt}
use Rattle.std.proofs.lemmas.List.{get_or-set_same, get_or-set_other, length-set, get_or_past, get_or-replicate, length-replicate}
use Rattle.std.proofs.lemmas.List.Elements.{All-append, All-set}
use Rattle.fw_cmp.specs.Controllers.{first_state, breaks_slot}
use Rattle.fw_cmp_jobs.specs.Slots.{is_breakable}
use Rattle.fw_cmp.specs.Starts.{with_task, can_break}
use Rattle.fw_cmp.proofs.Jobs.{making_task, breaking_task, made_here, made_elsewhere, broken_here, broken_elsewhere}

-- ---- one slot is set

pub slot_here : (c : ControllerState) (i : ℕ) (s : Slot) → i < length c.slots → slot_at (with_slot c i s) i ≡ s
slot_here c i s lt = get_or-set_same c.slots i s Free lt

pub slot_elsewhere : (c : ControllerState) (i k : ℕ) (s : Slot) → k ≢ i → slot_at (with_slot c i s) k ≡ slot_at c k
slot_elsewhere c i k s ne = get_or-set_other c.slots i k s Free ne

pub is_free-true : (s : Slot) → is_free s ≡ true → s ≡ Free
is_free-true Free e = refl
is_free-true (Making conn asked overhead) e = cc
is_free-true (Established conn f) e = cc
is_free-true (Restoring conn f over) e = cc
is_free-true (Gone conn) e = cc

-- a current job has another slot than one that is free
pub job_elsewhere : (c : ControllerState) (i : ℕ) (j : Job) → slot_at c i ≡ Free → job_for j.slot (slot_at c j.slot) ≡ Some j → j.slot ≢ i
job_elsewhere c i j free of_slot same = let e : job_for j.slot (slot_at c j.slot) ≡ None = rw same (rw free refl) in cc

runs_on : (c : ControllerState) (i : ℕ) (s : Slot) (j : Job) (t : Stage) → slot_at c i ≡ Free → RunsFitting c j t → RunsFitting (with_slot c i s) j t
runs_on c i s j t free h = record {
  of_slot = rw (slot_elsewhere c i j.slot s (job_elsewhere c i j free h.of_slot)) h.of_slot;
  job = h.job;
  stage = h.stage;
}

pub current_on : (c : ControllerState) (i : ℕ) (s : Slot) (now : Current) → slot_at c i ≡ Free → CurrentFits c now → CurrentFits (with_slot c i s) now
current_on c i s Nothing free h = h
current_on c i s (Asking j t) free h = runs_on c i s j t free h
current_on c i s (Hearing j t) free h = runs_on c i s j t free h
current_on c i s (Overtaken k o) free h = h

-- the slots alone decide whether a current job is of its slot
pub current_slots : (c d : ControllerState) (now : Current) → c.slots ≡ d.slots → CurrentFits c now → CurrentFits d now
current_slots c d Nothing e h = h
current_slots c d (Asking j t) e h = record { of_slot = subst (λ (ss : List Slot). job_for j.slot (get_or ss j.slot Free) ≡ Some j) e h.of_slot; job = h.job; stage = h.stage }
current_slots c d (Hearing j t) e h = record { of_slot = subst (λ (ss : List Slot). job_for j.slot (get_or ss j.slot Free) ≡ Some j) e h.of_slot; job = h.job; stage = h.stage }
current_slots c d (Overtaken k o) e h = h

-- ---- starts

within_one : (t : WaitingJob) → t.slot < 32 → All (λ (u : WaitingJob). u.slot < 32) (t ∷ [])
within_one t lt k d k_lt = let e : k ≡ 0 = omega arith in rw e lt

jobs_started : (c : ControllerState) (i k : ℕ) (s : Slot) → i < length c.slots → slot_at c i ≡ Free → IsMaking s → SlotHasJobs c.waiting c.current k (slot_at c k) → (k ≡ i) ⊎ (k ≢ i) →
    SlotHasJobs (c.waiting ++ making_task i ∷ []) c.current k (slot_at (with_slot c i s) k)
jobs_started c i k s lt free making h (inl e) = rw e (rw (slot_here c i s lt) (made_here c.waiting c.current i s making (rw free at (rw e at h))))
jobs_started c i k s lt free making h (inr ne) = rw (slot_elsewhere c i k s ne) (made_elsewhere c.waiting c.current i k (slot_at c k) (λ e. ne (sym e)) h)

-- a new connection takes a free slot, and waits
pub start_fits : (c : ControllerState) (i : ℕ) (s : Slot) → Fits c → i < 32 → is_free (slot_at c i) ≡ true → length c.waiting < 8 → SlotFits s → IsMaking s
    → Fits (with_task (with_slot c i s) (making_task i))
start_fits c i s h lt free room fits making =
    let is : slot_at c i ≡ Free = is_free-true (slot_at c i) free in
    let within : i < length c.slots = omega (arith, h.slots) in
    record {
      slots = length-set c.slots i s ∙ h.slots;
      each = All-set SlotFits c.slots i s fits h.each;
      waiting = All-append (λ (t : WaitingJob). t.slot < 32) c.waiting (making_task i ∷ []) h.waiting (within_one (making_task i) lt);
      few = omega (arith, length-append c.waiting (making_task i ∷ []), room);
      current = current_slots (with_slot c i s) (with_task (with_slot c i s) (making_task i)) c.current refl (current_on c i s c.current is h.current);
      jobs = λ k. jobs_started c i k s within is making (h.jobs k) (cases_eq k i);
    }

jobs_broken : (c : ControllerState) (i k : ℕ) → is_breakable (slot_at c i) ≡ true → list_any (breaks_slot i) c.waiting ≡ false → break_runs c.current i ≡ false
    → SlotHasJobs c.waiting c.current k (slot_at c k) → (k ≡ i) ⊎ (k ≢ i) →
    SlotHasJobs (c.waiting ++ breaking_task i ∷ []) c.current k (slot_at c k)
jobs_broken c i k b none idle h (inl e) = rw e (broken_here c.waiting c.current i (slot_at c i) b none idle (rw e at h))
jobs_broken c i k b none idle h (inr ne) = broken_elsewhere c.waiting c.current i k (slot_at c k) (λ e. ne (sym e)) h

-- a break waits
pub break_fits : (c : ControllerState) (i : ℕ) → Fits c → i < 32 → is_breakable (slot_at c i) ≡ true → list_any (breaks_slot i) c.waiting ≡ false → break_runs c.current i ≡ false
    → length c.waiting < 8 → Fits (with_task c (breaking_task i))
break_fits c i h lt b none idle room = record {
  slots = h.slots;
  each = h.each;
  waiting = All-append (λ (t : WaitingJob). t.slot < 32) c.waiting (breaking_task i ∷ []) h.waiting (within_one (breaking_task i) lt);
  few = omega (arith, length-append c.waiting (breaking_task i ∷ []), room);
  current = current_slots c (with_task c (breaking_task i)) c.current refl h.current;
  jobs = λ k. jobs_broken c i k b none idle (h.jobs k) (cases_eq k i);
}

slot_past : (c : ControllerState) (i : ℕ) → length c.slots ≤ i → is_breakable (slot_at c i) ≡ false
slot_past c i le = ap is_breakable (get_or_past c.slots i Free le)

can_parts : (a b d : Bool) → a && not (b || d) ≡ true → (a ≡ true) × (b ≡ false) × (d ≡ false)
can_parts true false false e = (refl, refl, refl)
can_parts true false true e = cc
can_parts true true d e = cc
can_parts false b d e = cc

within_slots : (c : ControllerState) (i : ℕ) → Fits c → is_breakable (slot_at c i) ≡ true → (i < 32) ⊎ (32 ≤ i) → i < 32
within_slots c i h b (inr le) = let e : is_breakable (slot_at c i) ≡ false = slot_past c i (omega (arith, h.slots)) in cc
within_slots c i h b (inl lt) = lt

pub can_break_fits : (c : ControllerState) (i : ℕ) → Fits c → can_break c i ≡ true → length c.waiting < 8 → Fits (with_task c (breaking_task i))
can_break_fits c i h can room =
    let parts = can_parts (is_breakable (slot_at c i)) (list_any (breaks_slot i) c.waiting) (break_runs c.current i) can in
    break_fits c i h (within_slots c i h parts.0 (cases_lt i 32)) parts.0 parts.1 parts.2 room

-- ---- the first state

slot_of_first : (i : ℕ) → (i < 32) ⊎ (32 ≤ i) → slot_at first_state i ≡ Free
slot_of_first i (inl lt) = get_or-replicate 32 i Free Free lt
slot_of_first i (inr le) = get_or_past first_state.slots i Free (omega (arith, length-replicate 32 Free))

each_of_first : (i : ℕ) (d : Slot) → i < length first_state.slots → SlotFits (get_or first_state.slots i d)
each_of_first i d lt = rw get_or-replicate tt

pub first_fits : Fits first_state
first_fits = record {
  slots = refl;
  each = each_of_first;
  waiting = λ k d lt. absurd (omega arith);
  few = omega arith;
  current = tt;
  jobs = λ i. rw (slot_of_first i (cases_lt i 32)) (record { makes = refl; breaks = omega arith; gone = omega arith });
}
