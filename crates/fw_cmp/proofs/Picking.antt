-- Which job becomes current keeps what a controller keeps at all times.
use Rattle.fw_cmp.proofs.Common.{◌≡◌, ℕ, ◌+◌, ◌<◌, ◌≤◌, Bool, true, false, List, [], ◌∷◌, length, get_or, take, refl, ap, sym, ◌∙◌, arith, Option, Some, None, ⊤, if◌then◌else◌}
use Rattle.fw_cmp.proofs.Common.{find_to_is, IsFirst, Slot, Free, Making, Established, Restoring, Gone, Current, Nothing, Asking, Hearing, Overtaken, WaitingJob, Directory, ControllerState, slot_at}
use Rattle.fw_cmp.proofs.Common.{is_restoring, count_of, breaks_waiting, job_for, SlotHasJobs, CurrentFits, Fits, SlotFits, CurrentReached, CanGoOn, current_for, is_empty, picked}
use Rattle.std.proofs.Common.{drop, suc}
use Rattle.std.specs.Prelude.{All, slice_get, nat_lt, position}
use Rattle.std.specs.List.{remove}
use Rattle.std.proofs.lemmas.List.Elements.{All-get_or, All-append, All-take, All-drop}
use Rattle.std.proofs.lemmas.List.Edits.{length-remove}
use Rattle.std.proofs.lemmas.List.Quantifiers.{position-Some}
use Rattle.std.proofs.lemmas.Option.{slice_get-get_or}
use Rattle.fw_cmp.specs.Controllers.{makes_slot, breaks_slot, makes_waiting}
use Rattle.fw_cmp_jobs.proofs.Restoring.{none_to_restore}
use Rattle.fw_cmp.specs.Jobs.{takes_slot, takes_task, slot_of_task, to_restore, waiting_break, is_break, takes_making, takes_waiting, takes_next}
use Rattle.fw_cmp.proofs.Jobs.{makes_removed, breaks_removed, same_count}

-- a slot has what a task of it is for
abbrev pub Suits : Bool → Slot → Type 0
Suits false (Making conn asked overhead) = ⊤
Suits true (Established conn f) = ⊤
Suits true (Gone conn) = ⊤
Suits _ _ = ⊥

abbrev pub task_of : ℕ → Bool → WaitingJob
task_of i b = record { slot = i; breaks = b }

-- a slot of which a job waits has what that is for
pub suits : (b : Bool) (i : ℕ) (ts : List WaitingJob) (s : Slot) → count_of (makes_slot i (task_of i b)) ≤ makes_waiting ts i → count_of (breaks_slot i (task_of i b)) ≤ breaks_waiting ts i
    → is_restoring s ≡ false → SlotHasJobs ts Nothing i s → Suits b s
suits false i ts (Making conn asked overhead) m b r h = tt
suits false i ts Free m b r h = absurd (omega (arith, same_count i, h.makes))
suits false i ts (Established conn f) m b r h = absurd (omega (arith, same_count i, h.makes))
suits false i ts (Restoring conn f over) m b r h = absurd (omega (arith, same_count i, h.makes))
suits false i ts (Gone conn) m b r h = absurd (omega (arith, same_count i, h.makes))
suits true i ts (Making conn asked overhead) m b r h = absurd (omega (arith, same_count i, h.breaks))
suits true i ts Free m b r h = absurd (omega (arith, same_count i, h.breaks))
suits true i ts (Established conn f) m b r h = tt
suits true i ts (Restoring conn f over) m b r h = cc
suits true i ts (Gone conn) m b r h = tt

-- the job of a task that was taken is current
pub task_taken : (b : Bool) (i k : ℕ) (ts us : List WaitingJob) (s sk : Slot) → makes_waiting us k + count_of (makes_slot k (task_of i b)) ≡ makes_waiting ts k
    → breaks_waiting us k + count_of (breaks_slot k (task_of i b)) ≡ breaks_waiting ts k → Suits b s → SlotHasJobs ts Nothing k sk → SlotHasJobs us (current_for i s) k sk
task_taken false i k ts us (Making conn asked overhead) sk m b h old = record { makes = omega (arith, old.makes); breaks = omega (arith, old.breaks); gone = omega (arith, old.gone) }
task_taken true i k ts us (Established conn f) sk m b h old = record { makes = omega (arith, old.makes); breaks = omega (arith, old.breaks); gone = omega (arith, old.gone) }
task_taken true i k ts us (Gone conn) sk m b h old = record { makes = omega (arith, old.makes); breaks = omega (arith, old.breaks); gone = omega (arith, old.gone) }
task_taken false i k ts us Free sk m b h old = absurd h
task_taken false i k ts us (Established conn f) sk m b h old = absurd h
task_taken false i k ts us (Restoring conn f over) sk m b h old = absurd h
task_taken false i k ts us (Gone conn) sk m b h old = absurd h
task_taken true i k ts us Free sk m b h old = absurd h
task_taken true i k ts us (Making conn asked overhead) sk m b h old = absurd h
task_taken true i k ts us (Restoring conn f over) sk m b h old = absurd h

-- a restoring takes no task
pub restoring_taken : (i k : ℕ) (ts : List WaitingJob) (s sk : Slot) → is_restoring s ≡ true → SlotHasJobs ts Nothing k sk → SlotHasJobs ts (current_for i s) k sk
restoring_taken i k ts (Restoring conn f over) sk e h = record { makes = h.makes; breaks = h.breaks; gone = h.gone }
restoring_taken i k ts Free sk e h = cc
restoring_taken i k ts (Making conn asked overhead) sk e h = cc
restoring_taken i k ts (Established conn f) sk e h = cc
restoring_taken i k ts (Gone conn) sk e h = cc

-- the job for what a slot holds is of that slot
pub current_fits : (c : ControllerState) (i : ℕ) (s : Slot) → i < 32 → slot_at c i ≡ s → SlotFits s → CurrentFits c (current_for i s)
current_fits c i Free lt e h = tt
current_fits c i (Making conn asked overhead) lt e h = record { of_slot = ap (job_for i) e; job = record { slot = lt; connection = h.0; asked = h.1; overhead = h.2; units = tt }; stage = tt }
current_fits c i (Established conn f) lt e h = record { of_slot = ap (job_for i) e; job = record { slot = lt; connection = h.0; asked = tt; overhead = omega arith; units = tt }; stage = tt }
current_fits c i (Restoring conn f over) lt e h = record {
  of_slot = ap (job_for i) e;
  job = record { slot = lt; connection = h.0; asked = h.1.channel; overhead = h.1.overhead; units = h.1.units };
  stage = tt;
}
current_fits c i (Gone conn) lt e h = record { of_slot = ap (job_for i) e; job = record { slot = lt; connection = h; asked = tt; overhead = omega arith; units = tt }; stage = tt }

-- ---- the next job

abbrev pub at_rest : List Slot → List WaitingJob → ControllerState
at_rest ss ts = record { slots = ss; waiting = ts; current = Nothing }

abbrev pub NoneToRestore : List Slot → Type 0
NoneToRestore ss = (i : ℕ) → is_restoring (get_or ss i Free) ≡ false

within_removed : (ts : List WaitingJob) (p : ℕ) → All (λ (t : WaitingJob). t.slot < 32) ts → All (λ (t : WaitingJob). t.slot < 32) (remove ts p)
within_removed ts p h = All-append (λ (t : WaitingJob). t.slot < 32) (take p ts) (drop (suc p) ts) (All-take (λ (t : WaitingJob). t.slot < 32) p ts h)
    (All-drop (λ (t : WaitingJob). t.slot < 32) (suc p) ts h)

slot_fits_at : (c : ControllerState) (i : ℕ) → Fits c → i < 32 → SlotFits (slot_at c i)
slot_fits_at c i h lt = All-get_or SlotFits c.slots i Free (omega (arith, h.slots)) h.each

-- the controller after a slot's job became current
abbrev with_job : List Slot → List WaitingJob → ℕ → ControllerState
with_job ss us i = takes_slot (at_rest ss us) i

slot_taken_fits : (ss : List Slot) (ts : List WaitingJob) (i : ℕ) → Fits (at_rest ss ts) → i < 32 → is_restoring (get_or ss i Free) ≡ true → Fits (with_job ss ts i)
slot_taken_fits ss ts i h lt e = record {
  slots = h.slots;
  each = h.each;
  waiting = h.waiting;
  few = h.few;
  current = current_fits (with_job ss ts i) i (get_or ss i Free) lt refl (slot_fits_at (at_rest ss ts) i h lt);
  jobs = λ k. restoring_taken i k ts (get_or ss i Free) (get_or ss k Free) e (h.jobs k);
}

task_taken_fits : (ss : List Slot) (ts : List WaitingJob) (p : ℕ) → Fits (at_rest ss ts) → p < length ts → NoneToRestore ss → Fits (takes_task (at_rest ss ts) p)
task_taken_fits ss ts p h lt none =
    let d : WaitingJob = task_of 0 false in
    let t : WaitingJob = get_or ts p d in
    let is : slot_of_task (slice_get ts p) ≡ t.slot = ap slot_of_task (slice_get-get_or ts p d lt) in
    let within : t.slot < 32 = All-get_or (λ (u : WaitingJob). u.slot < 32) ts p d lt h.waiting in
    let s : Slot = get_or ss t.slot Free in
    let fit : Suits t.breaks s = suits t.breaks t.slot ts s (omega (arith, makes_removed ts p t.slot d lt)) (omega (arith, breaks_removed ts p t.slot d lt)) (none t.slot) (h.jobs t.slot) in
    rw is (record {
      slots = h.slots;
      each = h.each;
      waiting = within_removed ts p h.waiting;
      few = omega (arith, length-remove ts p lt, h.few);
      current = current_fits (with_job ss (remove ts p) t.slot) t.slot s within refl (slot_fits_at (at_rest ss ts) t.slot h within);
      jobs = λ k. task_taken t.breaks t.slot k ts (remove ts p) s (get_or ss k Free) (makes_removed ts p k d lt) (breaks_removed ts p k d lt) fit (h.jobs k);
    })

making_taken_fits : (now : ℕ) (d : Directory) (ss : List Slot) (ts : List WaitingJob) → Fits (at_rest ss ts) → NoneToRestore ss → Fits (takes_making now d (at_rest ss ts))
making_taken_fits now d ss [] h none = h
making_taken_fits now d ss (t ∷ ts) h none = go (nat_lt now d.over_at)
  where
    go : (b : Bool) → Fits (if b then at_rest ss (t ∷ ts) else takes_task (at_rest ss (t ∷ ts)) 0)
    go true = h
    go false = task_taken_fits ss (t ∷ ts) 0 h (omega arith) none

waiting_taken_fits : (now : ℕ) (d : Directory) (ss : List Slot) (ts : List WaitingJob) (o : Option ℕ) → position is_break ts ≡ o → Fits (at_rest ss ts) → NoneToRestore ss
    → Fits (takes_waiting o now d (at_rest ss ts))
waiting_taken_fits now d ss ts (Some k) e h none = task_taken_fits ss ts k h (position-Some is_break ts k (task_of 0 false) e).0 none
waiting_taken_fits now d ss ts None e h none = making_taken_fits now d ss ts h none

next_taken_fits : (now : ℕ) (d : Directory) (ss : List Slot) (ts : List WaitingJob) (o : Option ℕ) → IsFirst 32 (λ i. is_restoring (get_or ss i Free)) o → Fits (at_rest ss ts)
    → Fits (takes_next o now d (at_rest ss ts))
next_taken_fits now d ss ts (Some i) first h = slot_taken_fits ss ts i h first.0 first.1
next_taken_fits now d ss ts None first h = waiting_taken_fits now d ss ts (position is_break ts) refl h (none_to_restore ss h.slots first)

picked_from : (now : ℕ) (d : Directory) (ss : List Slot) (ts : List WaitingJob) (cur : Current) → Fits (record { slots = ss; waiting = ts; current = cur })
    → Fits (picked now d (record { slots = ss; waiting = ts; current = cur }))
picked_from now d ss ts Nothing h = next_taken_fits now d ss ts (to_restore (at_rest ss ts)) (find_to_is 32 (λ i. is_restoring (get_or ss i Free))) h
picked_from now d ss ts (Asking j s) h = h
picked_from now d ss ts (Hearing j s) h = h
picked_from now d ss ts (Overtaken i o) h = h

pub picked_fits : (now : ℕ) (d : Directory) (c : ControllerState) → Fits c → Fits (picked now d c)
picked_fits now d c h = picked_from now d c.slots c.waiting c.current h

-- ---- the slots stay

waiting_taken_slots : (o : Option ℕ) (now : ℕ) (d : Directory) (c : ControllerState) → (takes_waiting o now d c).slots ≡ c.slots
waiting_taken_slots (Some k) now d c = refl
waiting_taken_slots None now d c = go (is_empty c.waiting) (nat_lt now d.over_at)
  where
    go : (a b : Bool) → (if a then c else (if b then c else takes_task c 0)).slots ≡ c.slots
    go true b = refl
    go false true = refl
    go false false = refl

next_taken_slots : (o : Option ℕ) (now : ℕ) (d : Directory) (c : ControllerState) → (takes_next o now d c).slots ≡ c.slots
next_taken_slots (Some i) now d c = refl
next_taken_slots None now d c = waiting_taken_slots (waiting_break c) now d c

picked_slots_from : (now : ℕ) (d : Directory) (ss : List Slot) (ts : List WaitingJob) (cur : Current) → (picked now d (record { slots = ss; waiting = ts; current = cur })).slots ≡ ss
picked_slots_from now d ss ts Nothing = next_taken_slots (to_restore (at_rest ss ts)) now d (at_rest ss ts)
picked_slots_from now d ss ts (Asking j s) = refl
picked_slots_from now d ss ts (Hearing j s) = refl
picked_slots_from now d ss ts (Overtaken i o) = refl

pub picked_slots : (now : ℕ) (d : Directory) (c : ControllerState) → (picked now d c).slots ≡ c.slots
picked_slots now d c = picked_slots_from now d c.slots c.waiting c.current

-- ---- where requests go

-- what holds of the job of each slot, and of what a controller is at, holds of what it is at after the pick
waiting_taken_holds : (P : Current → Type 0) → ((i : ℕ) (s : Slot) → P (current_for i s)) → (o : Option ℕ) (now : ℕ) (d : Directory) (ss : List Slot) (ts : List WaitingJob) → P Nothing
    → P (takes_waiting o now d (at_rest ss ts)).current
waiting_taken_holds P each (Some k) now d ss ts h = each (slot_of_task (slice_get ts k)) (get_or ss (slot_of_task (slice_get ts k)) Free)
waiting_taken_holds P each None now d ss ts h = go (is_empty ts) (nat_lt now d.over_at)
  where
    go : (a b : Bool) → P (if a then at_rest ss ts else (if b then at_rest ss ts else takes_task (at_rest ss ts) 0)).current
    go true b = h
    go false true = h
    go false false = each (slot_of_task (slice_get ts 0)) (get_or ss (slot_of_task (slice_get ts 0)) Free)

next_taken_holds : (P : Current → Type 0) → ((i : ℕ) (s : Slot) → P (current_for i s)) → (o : Option ℕ) (now : ℕ) (d : Directory) (ss : List Slot) (ts : List WaitingJob) → P Nothing
    → P (takes_next o now d (at_rest ss ts)).current
next_taken_holds P each (Some i) now d ss ts h = each i (get_or ss i Free)
next_taken_holds P each None now d ss ts h = waiting_taken_holds P each (position is_break ts) now d ss ts h

pub picked_holds : (P : Current → Type 0) → ((i : ℕ) (s : Slot) → P (current_for i s)) → (now : ℕ) (d : Directory) (ss : List Slot) (ts : List WaitingJob) (cur : Current) → P cur
    → P (picked now d (record { slots = ss; waiting = ts; current = cur })).current
picked_holds P each now d ss ts Nothing h = next_taken_holds P each (to_restore (at_rest ss ts)) now d ss ts h
picked_holds P each now d ss ts (Asking j s) h = h
picked_holds P each now d ss ts (Hearing j s) h = h
picked_holds P each now d ss ts (Overtaken i o) h = h

for_reached : (d : Directory) (i : ℕ) (s : Slot) → CurrentReached d (current_for i s)
for_reached d i Free = tt
for_reached d i (Making conn asked overhead) = tt
for_reached d i (Established conn f) = tt
for_reached d i (Restoring conn f over) = tt
for_reached d i (Gone conn) = tt

pub picked_goes_on : (now : ℕ) (d : Directory) (c : ControllerState) → CanGoOn d c → CanGoOn d (picked now d c)
picked_goes_on now d c h = record {
  standing = λ i conn f e. h.standing i conn f (ap (λ (ss : List Slot). get_or ss i Free) (sym (picked_slots now d c)) ∙ e);
  current = picked_holds (CurrentReached d) (for_reached d) now d c.slots c.waiting c.current h.current;
}
