-- A controller is busy exactly if it has a current job, or one is to be had.
use Rattle.fw_cmp.proofs.Common.{◌≡◌, ℕ, ◌<◌, Bool, true, false, not, ◌&&◌, ◌||◌, List, [], ◌∷◌, length, get_or, refl, ap, ◌∙◌, arith, Option, Some, None, if◌then◌else◌, find_to_is, IsFirst, Slot}
use Rattle.fw_cmp.proofs.Common.{
  Free,
  Making,
  Established,
  Restoring,
  Gone,
  Current,
  Nothing,
  Asking,
  Hearing,
  Overtaken,
  WaitingJob,
  Directory,
  Job,
  Access,
  Stage,
  ControllerState,
  is_restoring,
  IsHeard,
}
use Rattle.fw_cmp.proofs.Common.{Fits, access_of, rests, answer_of, next, current_for, is_empty, picked, going, resumed}
use Rattle.std.proofs.Common.{is_some}
use Rattle.std.specs.Prelude.{slice_get, nat_lt, position}
use Rattle.std.proofs.lemmas.List.Quantifiers.{position-Some}
use Rattle.std.proofs.lemmas.Option.{slice_get-get_or}
use Rattle.fw_cmp_jobs.specs.Requests.{addressee_of}
use Rattle.fw_cmp.specs.Turns.{sending, asks_or_ends, is_busy}
use Rattle.fw_cmp.specs.Jobs.{takes_task, slot_of_task, to_restore, is_break, takes_making, takes_waiting, takes_next, can_pick}
use Rattle.fw_cmp.proofs.Jobs.{makes_removed, breaks_removed}
use Rattle.fw_cmp.proofs.Picking.{Suits, suits, task_of, at_rest}
use Rattle.fw_cmp_jobs.proofs.Restoring.{none_to_restore}

-- a job is current
abbrev pub has_job : Current → Bool
has_job Nothing = false
has_job (Asking j s) = true
has_job (Hearing j s) = false
has_job (Overtaken i o) = true

sends : (o : Option ℕ) (a : Access) → is_busy (sending o a) ≡ true
sends None a = refl
sends (Some to) a = refl

asks : (now : ℕ) (d : Directory) (j : Job) (s : Stage) (o : Option Access) → is_busy (asks_or_ends now d j s o) ≡ true
asks now d j s None = refl
asks now d j s (Some a) = sends (addressee_of d a.target) a

idle : (d : Directory) (ts : List WaitingJob) → is_busy (rests d ts) ≡ false
idle d [] = refl
idle d (t ∷ ts) = refl

going_busy_from : (now : ℕ) (d : Directory) (ss : List Slot) (ts : List WaitingJob) (cur : Current)
    → is_busy (answer_of now d (going d (record { slots = ss; waiting = ts; current = cur }))) ≡ has_job cur
going_busy_from now d ss ts Nothing = idle d ts
going_busy_from now d ss ts (Asking j s) = let r : Stage = resumed d (get_or ss j.slot Free) j s in asks now d j r (access_of j r)
going_busy_from now d ss ts (Hearing j s) = refl
going_busy_from now d ss ts (Overtaken i o) = refl

going_busy : (now : ℕ) (d : Directory) (c : ControllerState) → is_busy (answer_of now d (going d c)) ≡ has_job c.current
going_busy now d c = going_busy_from now d c.slots c.waiting c.current

restoring_job : (i : ℕ) (s : Slot) → is_restoring s ≡ true → has_job (current_for i s) ≡ true
restoring_job i (Restoring conn f over) e = refl
restoring_job i Free e = cc
restoring_job i (Making conn asked overhead) e = cc
restoring_job i (Established conn f) e = cc
restoring_job i (Gone conn) e = cc

suited_job : (b : Bool) (i : ℕ) (s : Slot) → Suits b s → has_job (current_for i s) ≡ true
suited_job b i Free h = absurd (nothing b h)
  where
    nothing : (b : Bool) → Suits b Free → ⊥
    nothing true h = h
    nothing false h = h
suited_job b i (Making conn asked overhead) h = refl
suited_job b i (Established conn f) h = refl
suited_job b i (Restoring conn f over) h = refl
suited_job b i (Gone conn) h = refl

task_job : (ss : List Slot) (ts : List WaitingJob) (p : ℕ) → Fits (at_rest ss ts) → p < length ts → ((i : ℕ) → is_restoring (get_or ss i Free) ≡ false)
    → has_job (takes_task (at_rest ss ts) p).current ≡ true
task_job ss ts p h lt none =
    let d : WaitingJob = task_of 0 false in
    let t : WaitingJob = get_or ts p d in
    let is : slot_of_task (slice_get ts p) ≡ t.slot = ap slot_of_task (slice_get-get_or ts p d lt) in
    let fit : Suits t.breaks (get_or ss t.slot Free) = suits t.breaks t.slot ts (get_or ss t.slot Free) (omega (arith, makes_removed ts p t.slot d lt)) (omega (arith, breaks_removed ts p t.slot d lt))
    (none t.slot) (h.jobs t.slot) in
    rw is (suited_job t.breaks t.slot (get_or ss t.slot Free) fit)

making_job : (now : ℕ) (d : Directory) (ss : List Slot) (ts : List WaitingJob) → Fits (at_rest ss ts) → ((i : ℕ) → is_restoring (get_or ss i Free) ≡ false)
    → has_job (takes_making now d (at_rest ss ts)).current ≡ (not (is_empty ts) && not (nat_lt now d.over_at))
making_job now d ss [] h none = refl
making_job now d ss (t ∷ ts) h none = go (nat_lt now d.over_at)
  where
    go : (b : Bool) → has_job (if b then at_rest ss (t ∷ ts) else takes_task (at_rest ss (t ∷ ts)) 0).current ≡ not b
    go true = refl
    go false = task_job ss (t ∷ ts) 0 h (omega arith) none

waiting_job : (now : ℕ) (d : Directory) (ss : List Slot) (ts : List WaitingJob) (o : Option ℕ) → position is_break ts ≡ o → Fits (at_rest ss ts) → ((i : ℕ) → is_restoring (get_or ss i Free) ≡ false)
    → has_job (takes_waiting o now d (at_rest ss ts)).current ≡ (is_some o || (not (is_empty ts) && not (nat_lt now d.over_at)))
waiting_job now d ss ts (Some k) e h none = task_job ss ts k h (position-Some is_break ts k (task_of 0 false) e).0 none
waiting_job now d ss ts None e h none = making_job now d ss ts h none

next_job : (now : ℕ) (d : Directory) (ss : List Slot) (ts : List WaitingJob) (o : Option ℕ) → IsFirst 32 (λ i. is_restoring (get_or ss i Free)) o → Fits (at_rest ss ts)
    → has_job (takes_next o now d (at_rest ss ts)).current ≡ (is_some o || is_some (position is_break ts) || (not (is_empty ts) && not (nat_lt now d.over_at)))
next_job now d ss ts (Some i) first h = restoring_job i (get_or ss i Free) first.1
next_job now d ss ts None first h = waiting_job now d ss ts (position is_break ts) refl h (none_to_restore ss h.slots first)

-- without a current job
pub rest_busy : (now : ℕ) (d : Directory) (ss : List Slot) (ts : List WaitingJob) → Fits (at_rest ss ts) → is_busy (next now d (at_rest ss ts)) ≡ can_pick now d ss ts
rest_busy now d ss ts h = going_busy now d (picked now d (at_rest ss ts)) ∙ next_job now d ss ts (to_restore (at_rest ss ts)) (find_to_is 32 (λ i. is_restoring (get_or ss i Free))) h

-- with a current job
pub job_busy : (now : ℕ) (d : Directory) (ss : List Slot) (ts : List WaitingJob) (cur : Current) → (cur ≡ Nothing → ⊥) → IsHeard cur
    → is_busy (next now d (record { slots = ss; waiting = ts; current = cur })) ≡ true
job_busy now d ss ts Nothing ne h = absurd (ne refl)
job_busy now d ss ts (Asking j s) ne h = going_busy now d (record { slots = ss; waiting = ts; current = Asking j s })
job_busy now d ss ts (Hearing j s) ne h = absurd h
job_busy now d ss ts (Overtaken i o) ne h = going_busy now d (record { slots = ss; waiting = ts; current = Overtaken i o })
