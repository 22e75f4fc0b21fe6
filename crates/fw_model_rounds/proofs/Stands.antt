-- A request is outstanding only of a stage that makes one.
use Rattle.fw_model_rounds.proofs.Common.{◌≡◌, ℕ, Bool, true, false, Option, Some, None, is_none, refl, ap}
use Rattle.fw_model_rounds.proofs.Common.{cond, option_map, Current, Nothing, Asking, Hearing, Overtaken, Directory, Job, Target, Stage}
use Rattle.fw_model_rounds.proofs.Common.{ControllerState, slot_at, target_of, swap_of, access_at, after_answer, after_asking, ready, waiting_break}
use Rattle.fw_model_rounds.proofs.Common.{Free, Gone, Purpose, Make, Restore, Break, Begin, Made}
use Rattle.fw_model_rounds.proofs.Common.{Ended}
use Rattle.std.proofs.Common.{ltb}
use Rattle.fw_cmp.specs.Controllers.{with_slot, IsHeard}
use Rattle.fw_cmp_jobs.specs.Slots.{job_for}
use Rattle.fw_cmp.specs.Turns.{after_next}
use Rattle.fw_cmp.specs.Jobs.{picked, resumed_current, takes_next, takes_waiting, takes_making, takes_task, job_current, to_restore, is_empty}
use Rattle.fw_cmp_jobs.specs.declared.outcome.Outcome.TheVariants.{Reset}
use Rattle.fw_cmp.specs.Resets.{state_reset, current_reset, lost_reset, overtaken, interrupted, decided}
use Rattle.fw_model_rounds.specs.HalfSteps.{AsksWhatStands}
use Rattle.fw_model_rounds.proofs.Within.{asking}

-- ---- a controller that is ready has no outstanding request

picked_job : (o : Option Job) → IsHeard (job_current o)
picked_job None = tt
picked_job (Some j) = tt

picked_task : (c : ControllerState) (k : ℕ) → IsHeard (takes_task c k).current
picked_task c k = picked_job _

picked_making : (now : ℕ) (d : Directory) (c : ControllerState) → IsHeard c.current → IsHeard (takes_making now d c).current
picked_making now d c h = go (is_empty c.waiting) (ltb now d.over_at)
  where
    go : (b l : Bool) → IsHeard (cond b c (cond l c (takes_task c 0))).current
    go true l = h
    go false true = h
    go false false = picked_task c 0

picked_waiting : (now : ℕ) (d : Directory) (c : ControllerState) (o : Option ℕ) → IsHeard c.current → IsHeard (takes_waiting o now d c).current
picked_waiting now d c (Some k) h = picked_task c k
picked_waiting now d c None h = picked_making now d c h

picked_next : (now : ℕ) (d : Directory) (c : ControllerState) (o : Option ℕ) → IsHeard c.current → IsHeard (takes_next o now d c).current
picked_next now d c (Some i) h = picked_job (job_for i (slot_at c i))
picked_next now d c None h = picked_waiting now d c (waiting_break c) h

resumed_heard : (c : ControllerState) (d : Directory) (current : Current) → IsHeard current → IsHeard (resumed_current c d current)
resumed_heard c d Nothing h = tt
resumed_heard c d (Asking j s) h = tt
resumed_heard c d (Hearing j s) h = h
resumed_heard c d (Overtaken i o) h = tt

ready_heard : (now : ℕ) (d : Directory) (c : ControllerState) (current : Current) → IsHeard current → IsHeard (ready now d (record c { current = current })).current
ready_heard now d c Nothing h = resumed_heard (picked now d (record c { current = Nothing })) d _ (picked_next now d (record c { current = Nothing }) (to_restore c) tt)
ready_heard now d c (Asking j s) h = tt
ready_heard now d c (Hearing j s) h = h
ready_heard now d c (Overtaken i o) h = tt

-- ---- what comes next

asked_stands : (c : ControllerState) (j : Job) (s : Stage) (o : Option Target) → target_of j s ≡ o → AsksWhatStands (after_asking c j s (option_map (access_at (swap_of j s)) o)).current
asked_stands c j s None e = tt
asked_stands c j s (Some t) e = ap is_none e

answer_stands : (c : ControllerState) (current : Current) → IsHeard current → AsksWhatStands (after_answer (record c { current = current })).current
answer_stands c Nothing h = tt
answer_stands c (Asking j s) h = asked_stands (asking c j s) j s (target_of j s) refl
answer_stands c (Hearing j s) h = absurd h
answer_stands c (Overtaken i o) h = tt

pub next_stands : (now : ℕ) (d : Directory) (c : ControllerState) → IsHeard c.current → AsksWhatStands (after_next now d c).current
next_stands now d c h = answer_stands (ready now d c) (ready now d c).current (ready_heard now d c c.current h)

-- ---- a bus reset

abbrev Asks : ControllerState → Type 0
Asks c = AsksWhatStands c.current

interrupted_stands : (epoch : ℕ) (c : ControllerState) (j : Job) → AsksWhatStands (interrupted epoch c j).current
interrupted_stands epoch c j = go j.purpose
  where
    go : (p : Purpose) → Asks (elim p [
      | Make ↦ with_slot (record c { current = Overtaken j.slot (Reset epoch) }) j.slot Free
      | Restore ↦ record c { current = Asking j Begin }
      | Break ↦ with_slot (record c { current = Overtaken j.slot (Reset epoch) }) j.slot Free
    ])
    go Make = tt
    go Restore = tt
    go Break = tt

decided_stands : (c : ControllerState) (j : Job) → AsksWhatStands c.current → AsksWhatStands (decided c j).current
decided_stands c j h = go j.purpose
  where
    go : (p : Purpose) → Asks (elim p [ Make ↦ c | Restore ↦ c | Break ↦ with_slot c j.slot (Gone j.connection) ])
    go Make = h
    go Restore = h
    go Break = h

overtaken_stands : (epoch : ℕ) (c : ControllerState) (j : Job) (s : Stage) → AsksWhatStands c.current → AsksWhatStands (overtaken epoch c j s).current
overtaken_stands epoch c j (Made f) h = tt
overtaken_stands epoch c j (Ended e) h = decided_stands c j h
overtaken_stands epoch c j s h = interrupted_stands epoch c j

current_stands : (epoch : ℕ) (c : ControllerState) (current : Current) → AsksWhatStands current → AsksWhatStands (current_reset epoch (record c { current = current }) current).current
current_stands epoch c Nothing h = tt
current_stands epoch c (Asking j s) h = overtaken_stands epoch (asking c j s) j s tt
current_stands epoch c (Hearing j s) h = overtaken_stands epoch (record c { current = Hearing j s }) j s h
current_stands epoch c (Overtaken i o) h = tt

lost_stands : (epoch : ℕ) (c : ControllerState) (current : Current) → AsksWhatStands (lost_reset epoch (record c { current = current }) current).current
lost_stands epoch c Nothing = tt
lost_stands epoch c (Asking j s) = interrupted_stands epoch (record c { current = Asking j s }) j
lost_stands epoch c (Hearing j s) = interrupted_stands epoch (record c { current = Hearing j s }) j
lost_stands epoch c (Overtaken i o) = tt

pub reset_stands : (epoch : ℕ) (lost : Bool) (c : ControllerState) → AsksWhatStands c.current → AsksWhatStands (state_reset epoch lost c).current
reset_stands epoch true c h = lost_stands epoch c c.current
reset_stands epoch false c h = current_stands epoch c c.current h
