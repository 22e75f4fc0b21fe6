-- Between calls, what is decided of a current job was decided by answers.
use Rattle.fw_cmp.proofs.Common.{◌≡◌, ℕ, Bool, true, false, refl, subst, Option, Some, None, ◌⊎◌, inl, inr, if◌then◌else◌, Reply, Connection, Flow, Slot, Free, Making, Established, Restoring, Gone}
use Rattle.fw_cmp.proofs.Common.{Current, Nothing, Asking, Hearing, Overtaken, Directory, Job, Purpose, Make, Restore, Break, Ending, Access, Stage, Begin, ReadOutput, ReadInput, Made, Ended}
use Rattle.fw_cmp.proofs.Common.{is_listen, ControllerState, slot_at, with_slot, access_of, heard, after_hear, current_reset, after_reset, lost_reset, after_answer, after_next, current_for, is_late}
use Rattle.fw_cmp.proofs.Common.{begun, resumed, resumed_current, picked}
use Rattle.std.specs.Prelude.{IfSome}
use Rattle.fw_cmp_jobs.specs.declared.connection.Connection.TheVariants.{PlugToPlug, BroadcastOut, BroadcastIn}
use Rattle.fw_cmp_jobs.specs.declared.job.Ending.TheVariants.{NoManager, Absent, Late}
use Rattle.fw_cmp_jobs.specs.declared.outcome.Outcome.TheVariants.{Reset}
use Rattle.fw_cmp_jobs.specs.Answers.{decision_of, Decides, DecidedBy, IsOfAnswers}
use Rattle.fw_cmp.specs.Outcomes.{IsDecidedByAnswers}
use Rattle.fw_cmp.specs.Resets.{overtaken, state_reset}
use Rattle.fw_cmp_jobs.specs.Stages.{hear_reply}
use Rattle.fw_cmp.specs.Turns.{after_asking}
use Rattle.fw_cmp_jobs.specs.Jobs.{own_flow, absent_of, begin_managed, begin_present, begin_making, begin_leaving, begin_breaking}
use Rattle.fw_cmp_jobs.proofs.Deciding.{answer_decides}
use Rattle.fw_cmp.proofs.Ended.{after_stop}
use Rattle.fw_cmp.proofs.Picking.{picked_holds}

-- ---- an answer

no_manager : (j : Job) (s : Stage) (w : ℕ) → Decides j s w NoManager → ⊥
no_manager j ReadOutput w h = h
no_manager j s w h = h

no_device : (j : Job) (s : Stage) (w device : ℕ) → Decides j s w (Absent device) → ⊥
no_device j ReadOutput w device h = h
no_device j s w device h = h

of_answers : (j : Job) (s : Stage) (r : Reply) (e : Ending) → DecidedBy j s r e → IsOfAnswers e
of_answers j s r NoManager (inl h) = no_manager j s r.value h.1
of_answers j s r NoManager (inr h) = h.1
of_answers j s r (Absent device) (inl h) = no_device j s r.value device h.1
of_answers j s r (Absent device) (inr h) = h.1
of_answers j s r e h = tt

heard_decision : (j : Job) (s : Stage) (r : Reply) (o : Option Ending) → IfSome (decision_of s) IsOfAnswers → IfSome o (λ e. (decision_of s ≡ Some e) ⊎ DecidedBy j s r e) → IfSome o IsOfAnswers
heard_decision j s r None before h = tt
heard_decision j s r (Some e) before (inl is) = subst (λ (o : Option Ending). IfSome o IsOfAnswers) is before
heard_decision j s r (Some e) before (inr by_answer) = of_answers j s r e by_answer

heard_current : (cur : Current) (r : Reply) → IsDecidedByAnswers cur → IsDecidedByAnswers (heard cur r)
heard_current Nothing r h = h
heard_current (Asking j s) r h = h
heard_current (Hearing j s) r h = heard_decision j s r (decision_of (hear_reply j s r)) h (answer_decides j s r)
heard_current (Overtaken i o) r h = h

pub hear_decides : (c : ControllerState) (r : Reply) → IsDecidedByAnswers c.current → IsDecidedByAnswers (after_hear c r).current
hear_decides c r h = heard_current c.current r h

-- ---- a turn

-- if the stage makes a request, what is decided was decided by answers
abbrev AsksDecided : Job → Stage → Type 0
AsksDecided j s = (a : Access) → access_of j s ≡ Some a → IfSome (decision_of s) IsOfAnswers

managed : (j : Job) (o : Option ℕ) → AsksDecided j (begin_managed o)
managed j None a e = cc
managed j (Some n) a e = tt

making : (d : Directory) (j : Job) → AsksDecided j (begin_making d j)
making d j = go (absent_of d j.connection)
  where
    listening : (b : Bool) → AsksDecided j (if b then ReadInput (own_flow j) else begin_managed d.manager)
    listening true a e = tt
    listening false a e = managed j d.manager a e

    go : (o : Option ℕ) → AsksDecided j (elim o [ Some device ↦ Ended (Absent device) | None ↦ begin_present d j ])
    go (Some device) a e = cc
    go None a e = listening (is_listen j.connection) a e

leaving : (j : Job) (conn : Connection) (f : Flow) → AsksDecided j (begin_leaving conn f)
leaving j (PlugToPlug out into) f a e = tt
leaving j (BroadcastOut out) f a e = tt
leaving j (BroadcastIn into) f a e = tt

breaking : (j : Job) (s : Slot) → AsksDecided j (begin_breaking s)
breaking j (Established conn f) a e = leaving j conn f a e
breaking j s a e = cc

beginning : (d : Directory) (j : Job) (s : Slot) (p : Purpose) → AsksDecided j (elim p [ Make ↦ begin_making d j | Restore ↦ begin_making d j | Break ↦ begin_breaking s ])
beginning d j s Make a e = making d j a e
beginning d j s Restore a e = making d j a e
beginning d j s Break a e = breaking j s a e

begun_decided : (d : Directory) (j : Job) (slot : Slot) (s : Stage) → IfSome (decision_of s) IsOfAnswers → AsksDecided j (begun d slot j s)
begun_decided d j slot Begin h a e = beginning d j slot j.purpose a e
begun_decided d j slot s h a e = h

resumed_decided : (d : Directory) (j : Job) (slot : Slot) (s : Stage) → IfSome (decision_of s) IsOfAnswers → AsksDecided j (resumed d slot j s)
resumed_decided d j slot s h = go (is_late slot j s)
  where
    go : (b : Bool) → AsksDecided j (if b then Ended Late else begun d slot j s)
    go true a e = tt
    go false a e = begun_decided d j slot s h a e

asked : (c : ControllerState) (j : Job) (s : Stage) (o : Option Access) → access_of j s ≡ o → AsksDecided j s → IsDecidedByAnswers (after_asking c j s o).current
asked c j s None e h = tt
asked c j s (Some a) e h = h a e

answered : (c : ControllerState) (d : Directory) (cur : Current) → IsDecidedByAnswers cur → IsDecidedByAnswers (after_answer (record c { current = resumed_current c d cur })).current
answered c d Nothing h = tt
answered c d (Asking j s) h = let r : Stage = resumed d (slot_at c j.slot) j s in asked (record c { current = Asking j r }) j r (access_of j r) refl (resumed_decided d j (slot_at c j.slot) s h)
answered c d (Hearing j s) h = h
answered c d (Overtaken i o) h = tt

for_slot : (i : ℕ) (s : Slot) → IsDecidedByAnswers (current_for i s)
for_slot i Free = tt
for_slot i (Making conn asked overhead) = tt
for_slot i (Established conn f) = tt
for_slot i (Restoring conn f over) = tt
for_slot i (Gone conn) = tt

pub next_decides : (now : ℕ) (d : Directory) (c : ControllerState) → IsDecidedByAnswers c.current → IsDecidedByAnswers (after_next now d c).current
next_decides now d c h =
    let p : ControllerState = picked now d c in
    answered p d p.current (picked_holds IsDecidedByAnswers for_slot now d c.slots c.waiting c.current h)

-- ---- a bus reset

decided_kept : (c : ControllerState) (j : Job) (p : Purpose) → IsDecidedByAnswers c.current
    → IsDecidedByAnswers (elim p as (λ _. ControllerState) [ Make ↦ c | Restore ↦ c | Break ↦ with_slot c j.slot (Gone j.connection) ]).current
decided_kept c j Make h = h
decided_kept c j Restore h = h
decided_kept c j Break h = h

interrupted_kept : (epoch : ℕ) (c : ControllerState) (j : Job) (p : Purpose)
    → IsDecidedByAnswers (elim p as (λ _. ControllerState) [
      | Make ↦ after_stop c j Free (Overtaken j.slot (Reset epoch))
      | Restore ↦ record c { current = Asking j Begin }
      | Break ↦ after_stop c j Free
          (Overtaken j.slot (Reset epoch))
    ]).current
interrupted_kept epoch c j Make = tt
interrupted_kept epoch c j Restore = tt
interrupted_kept epoch c j Break = tt

overtaken_kept : (epoch : ℕ) (c : ControllerState) (j : Job) (s : Stage) → IsDecidedByAnswers c.current → IsDecidedByAnswers (overtaken epoch c j s).current
overtaken_kept epoch c j (Made f) h = tt
overtaken_kept epoch c j (Ended e) h = decided_kept c j j.purpose h
overtaken_kept epoch c j s h = interrupted_kept epoch c j j.purpose

reset_kept : (epoch : ℕ) (c : ControllerState) (cur : Current) → IsDecidedByAnswers c.current → IsDecidedByAnswers (current_reset epoch c cur).current
reset_kept epoch c Nothing h = h
reset_kept epoch c (Asking j s) h = overtaken_kept epoch c j s h
reset_kept epoch c (Hearing j s) h = overtaken_kept epoch c j s h
reset_kept epoch c (Overtaken i o) h = h

pub reset_decides : (epoch : ℕ) (c : ControllerState) → IsDecidedByAnswers c.current → IsDecidedByAnswers (after_reset epoch c).current
reset_decides epoch c h = reset_kept epoch c c.current h

-- the same if the response to the request was lost
lost_kept : (epoch : ℕ) (c : ControllerState) (cur : Current) → IsDecidedByAnswers c.current → IsDecidedByAnswers (lost_reset epoch c cur).current
lost_kept epoch c Nothing h = h
lost_kept epoch c (Asking j s) h = interrupted_kept epoch c j j.purpose
lost_kept epoch c (Hearing j s) h = interrupted_kept epoch c j j.purpose
lost_kept epoch c (Overtaken i o) h = h

pub state_decides : (epoch : ℕ) (lost : Bool) (c : ControllerState) → IsDecidedByAnswers c.current → IsDecidedByAnswers (state_reset epoch lost c).current
state_decides epoch true c h = lost_kept epoch c c.current h
state_decides epoch false c h = reset_decides epoch c h
