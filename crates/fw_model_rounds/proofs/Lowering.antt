-- Each half step of a controller leaves at most what was still to come, and less if it makes progress.
use Rattle.fw_model_rounds.proofs.Common.{◌≡◌, ℕ, ◌+◌, ◌<◌, ◌≤◌, Bool, true, false, None, eqb, refl, ap, sym, subst}
use Rattle.fw_model_rounds.proofs.Common.{arith, ◌⊎◌, inl, inr, cond, ◌&&◌, sum_to, flag, Slot, Free, Making, Established, Restoring}
use Rattle.fw_model_rounds.proofs.Common.{Gone, Current, Nothing, Asking, Hearing, Overtaken, Directory, Job, Target, Stage, Begin, ControllerState, slot_at, is_restoring, CurrentFits, restoring_job}
use Rattle.fw_model_rounds.proofs.Common.{restores, target_of, hear, after_answer, resumed, ready, waiting_break, answer_of, succeeds, remaining, after_half_step, progresses, to_come, IsRestoringOf}
use Rattle.fw_model_rounds.proofs.Common.{CurrentRestores}
use Rattle.fw_terms.proofs.Tables.{sum_to_le}
use Rattle.fw_model_rounds.specs.Remaining.{most_remaining}
use Rattle.fw_model_rounds.specs.HalfSteps.{ends_restoring, CurrentKnows}
use Rattle.fw_model_rounds.proofs.Lowers.{lowers}
use Rattle.fw_model_rounds.proofs.Slots.{picks, Picks, Rests, idle}
use Rattle.fw_model_rounds.proofs.ToCome.{at_slot, lowered, asked_leaves, resumed_leaves}

-- the slot of a job that restores it
pub restores_slot : (slot : Slot) (j : Job) (s : Stage) → IsRestoringOf slot j s → (restores j ≡ true) × (is_restoring slot ≡ true)
restores_slot Free j s i = absurd i
restores_slot (Making conn asked overhead) j s i = absurd i
restores_slot (Established conn f) j s i = absurd i
restores_slot (Restoring conn f over) j s i = (ap restores i.0, refl)
restores_slot (Gone conn) j s i = absurd i

-- a job that has not begun leaves all to come
begin_leaves : (c : ControllerState) (j : Job) → sum_to 32 (at_slot c j Begin) ≤ to_come (idle c)
begin_leaves c j = sum_to_le 32 (at_slot c j Begin) _ (λ i lt. go (is_restoring (slot_at c i)) (restores j && eqb j.slot i))
  where
    go : (b e : Bool) → cond b (cond e (remaining Begin) most_remaining) 0 ≤ cond b most_remaining 0
    go true true = omega arith
    go true false = omega arith
    go false e = omega arith

-- what the half step of a controller that is ready leaves to come
abbrev Leaves : ControllerState → ControllerState → Type 0
Leaves c r = to_come (after_answer r) + flag (ends_restoring r) ≤ to_come c

asking_leaves : (now : ℕ) (d : Directory) (c : ControllerState) (j : Job) (s : Stage) → j.slot < 32 → Leaves (record c { current = Asking j s }) (ready now d (record c { current = Asking j s }))
asking_leaves now d c j s lt = asked_leaves c j (resumed d (slot_at c j.slot) j s) s lt (resumed_leaves d (slot_at c j.slot) j s) (target_of j (resumed d (slot_at c j.slot) j s))

idle_leaves : (now : ℕ) (d : Directory) (c : ControllerState) → Picks now d c ⊎ Rests now d c → Leaves (idle c) (ready now d (idle c))
idle_leaves now d c (inl p) =
    let j = restoring_job p.slot p.holds.connection p.holds.flow in
    let h = asking_leaves now d c j Begin p.below in
    let le = begin_leaves c j in
    subst (λ (r : ControllerState). Leaves (idle c) r) (sym p.ready) (omega (arith, h, le))
idle_leaves now d c (inr r) = subst (λ (r : ControllerState). Leaves (idle c) r) (sym r.ready) (omega arith)

pub turn_leaves : (words : Target → ℕ) (now : ℕ) (d : Directory) (c : ControllerState) (current : Current) → now < d.over_at → waiting_break c ≡ None → CurrentFits c current
    → CurrentRestores c current → CurrentKnows words current → to_come (after_half_step words now d (record c { current = current })) + flag
    (progresses words now d (record c { current = current })) ≤ to_come (record c { current = current })
turn_leaves words now d c Nothing lt none f r k = idle_leaves now d c (picks now d c none lt)
turn_leaves words now d c (Asking j s) lt none f r k = asking_leaves now d c j s f.job.slot
turn_leaves words now d c (Hearing j s) lt none f r k =
    let own = restores_slot (slot_at c j.slot) j s r.1 in
    lowered c j s (hear j s (answer_of words j s)) (flag (succeeds words j s)) f.job.slot own.0 own.1 (lowers words j s k.0)
turn_leaves words now d c (Overtaken i o) lt none f r k = omega arith
