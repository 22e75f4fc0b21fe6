-- A controller that has no connection on a channel, and no job that makes one there, has none after what happens to it.
use Rattle.fw_model_reclaim.proofs.Common.{◌≡◌, ◌≢◌, ◌⊎◌, inl, inr, ℕ, ◌<◌, ◌≤◌, Bool, true, false, Option, Some, None, List}
use Rattle.fw_model_reclaim.proofs.Common.{[], ◌∷◌, length, get_or, refl, sym, ap, subst, ◌∙◌, cond, eqb, ltb, ◌&&◌, arith}
use Rattle.fw_model_reclaim.proofs.Common.{Ok, cases_eq, cases_lt, nat_tests, Reply, Connection, PlugToPlug, BroadcastOut, BroadcastIn}
use Rattle.fw_model_reclaim.proofs.Common.{Flow, Slot, Free, Making, Established, Restoring, Gone, Current, Nothing}
use Rattle.fw_model_reclaim.proofs.Common.{Asking, Hearing, Overtaken, WaitingJob, Directory, Job, Purpose, Make, Restore, Break, StartFault, Access, Stage, Begin, ReadInput, Made, Ended, is_listen}
use Rattle.fw_model_reclaim.proofs.Common.{ControllerState, first_state, slot_at, with_slot, break_waits, restores, StageFits}
use Rattle.fw_model_reclaim.proofs.Common.{access_of, heard, after_hear, overtaken, current_reset, lost_reset, slot_reset}
use Rattle.fw_model_reclaim.proofs.Common.{after_reset, after_lost_reset, state_reset, hear, refuse, started, break_started, break_fault, with_task, slot_after, after_asking, after_answer, after_next}
use Rattle.fw_model_reclaim.proofs.Common.{takes_next, to_restore, begin_managed, begin_present, begun, resumed}
use Rattle.std.proofs.Common.{map}
use Rattle.std.proofs.lemmas.List.{set_past}
use Rattle.fw_cmp_jobs.specs.declared.job.Ending.TheVariants as ending
use Rattle.fw_cmp.specs.Resets.{after_second}
use Rattle.fw_cmp_jobs.specs.Slots.{slot_over}
use Rattle.fw_cmp.specs.Jobs.{current_for, takes_task, takes_waiting, waiting_break, is_empty}
use Rattle.fw_cmp_jobs.specs.Jobs.{own_flow, absent_of}
use Rattle.fw_cmp_jobs.specs.Jobs.{begin_leaving, begin_breaking, begin, is_late}
use Rattle.fw_model_reclaim.specs.Avoids.{SlotAvoids, StageAvoids, JobAvoids, CurrentAvoids, Avoids}
use Rattle.fw_model_reclaim.proofs.AfterReset.{interrupted_for, decided_for}
use Rattle.fw_model_reclaim.proofs.AvoidsHeard.{ShowsOther, hear_avoids, refuse_avoids}
use Rattle.fw_model_reclaim.proofs.Events.{free_slots}
use Rattle.fw_model_reclaim.proofs.Nexts.{going_at}
use Rattle.fw_model_reclaim.proofs.Slots.{slot_set_same, slot_set_other, slot_mapped}

-- ---- one slot changes

slots_set : (ch : ℕ) (c : ControllerState) (k : ℕ) (x : Slot) → SlotAvoids ch x → ((i : ℕ) → SlotAvoids ch (slot_at c i)) → (i : ℕ) → SlotAvoids ch (slot_at (with_slot c k x) i)
slots_set ch c k x own before i = go (cases_eq i k) (cases_lt k (length c.slots))
  where
    go : (i ≡ k) ⊎ (i ≢ k) → (k < length c.slots) ⊎ (length c.slots ≤ k) → SlotAvoids ch (slot_at (with_slot c k x) i)
    go (inl e) (inl lt) = subst (SlotAvoids ch) (sym (ap (slot_at (with_slot c k x)) e ∙ slot_set_same c k x lt)) own
    go (inl e) (inr le) = subst (SlotAvoids ch) (sym (ap (λ (xs : List Slot). get_or xs i Free) (set_past c.slots k x le))) (before i)
    go (inr ne) away = subst (SlotAvoids ch) (sym (slot_set_other c k i x ne)) (before i)

-- ---- a turn

-- the job of a slot becomes current
begins_avoids : (ch i : ℕ) (x : Slot) → 63 ≢ ch → SlotAvoids ch x → CurrentAvoids ch (current_for i x)
begins_avoids ch i Free last a = tt
begins_avoids ch i (Making conn asked overhead) last a = (a, tt)
begins_avoids ch i (Established conn f) last a = (λ listens. last, tt)
begins_avoids ch i (Restoring conn f over) last a = (λ listens. a, tt)
begins_avoids ch i (Gone conn) last a = (λ listens. last, tt)

picked_avoids : (ch now : ℕ) (d : Directory) (c : ControllerState) → 63 ≢ ch → Avoids ch c → Avoids ch (takes_next (to_restore c) now d c)
picked_avoids ch now d c last a = first (to_restore c)
  where
    takes : (k : ℕ) → Avoids ch (takes_task c k)
    takes k = record { slots = a.slots; current = begins_avoids ch _ _ last (a.slots _) }

    begins : (b : Bool) → Avoids ch (cond b c (takes_task c 0))
    begins true = a
    begins false = takes 0

    waits : (w : List WaitingJob) → Avoids ch (cond (is_empty w) c (cond (ltb now d.over_at) c (takes_task c 0)))
    waits [] = a
    waits (t ∷ ts) = begins (ltb now d.over_at)

    second : (o : Option ℕ) → Avoids ch (takes_waiting o now d c)
    second (Some k) = takes k
    second None = waits c.waiting

    first : (o : Option ℕ) → Avoids ch (takes_next o now d c)
    first (Some i) = record { slots = a.slots; current = begins_avoids ch i (slot_at c i) last (a.slots i) }
    first None = second (waiting_break c)

-- a connection is made, or made again
present_avoids : (ch : ℕ) (d : Directory) (j : Job) → JobAvoids ch j → StageAvoids ch (begin_present d j)
present_avoids ch d j job = go (is_listen j.connection) refl d.manager
  where
    go : (b : Bool) → is_listen j.connection ≡ b → (o : Option ℕ) → StageAvoids ch (cond b (ReadInput (own_flow j)) (begin_managed o))
    go true e o = job e
    go false e None = tt
    go false e (Some n) = tt

making_avoids : (ch : ℕ) (d : Directory) (j : Job) → JobAvoids ch j → (o : Option ℕ) → StageAvoids ch (elim o as (λ x. Stage) [ Some device ↦ Ended (ending.Absent device) | None ↦ begin_present d j ])
making_avoids ch d j job (Some device) = tt
making_avoids ch d j job None = present_avoids ch d j job

leaving_avoids : (ch : ℕ) (conn : Connection) (f : Flow) → StageAvoids ch (begin_leaving conn f)
leaving_avoids ch (PlugToPlug out into) f = tt
leaving_avoids ch (BroadcastOut out) f = tt
leaving_avoids ch (BroadcastIn into) f = tt

breaking_avoids : (ch : ℕ) (x : Slot) → StageAvoids ch (begin_breaking x)
breaking_avoids ch (Established conn f) = leaving_avoids ch conn f
breaking_avoids ch _ = tt

begin_avoids : (ch : ℕ) (d : Directory) (x : Slot) (j : Job) → JobAvoids ch j → StageAvoids ch (begin d x j)
begin_avoids ch d x j job = go j.purpose
  where
    go : (p : Purpose) → StageAvoids ch (elim p as (λ y. Stage) [
      | Make ↦ elim (absent_of d j.connection) as (λ y. Stage) [ Some device ↦ Ended (ending.Absent device) | None ↦ begin_present d j ]
      | Restore ↦ elim (absent_of d j.connection) as (λ y. Stage) [ Some device ↦ Ended (ending.Absent device) | None ↦ begin_present d j ]
      | Break ↦ begin_breaking x
    ])
    go Make = making_avoids ch d j job (absent_of d j.connection)
    go Restore = making_avoids ch d j job (absent_of d j.connection)
    go Break = breaking_avoids ch x

begun_avoids : (ch : ℕ) (d : Directory) (x : Slot) (j : Job) (s : Stage) → JobAvoids ch j → StageAvoids ch s → StageAvoids ch (begun d x j s)
begun_avoids ch d x j Begin job a = begin_avoids ch d x j job
begun_avoids ch d x j _ job a = a

resumed_avoids : (ch : ℕ) (d : Directory) (x : Slot) (j : Job) (s : Stage) → JobAvoids ch j → StageAvoids ch s → StageAvoids ch (resumed d x j s)
resumed_avoids ch d x j s job a = go (is_late x j s)
  where
    go : (b : Bool) → StageAvoids ch (cond b (Ended ending.Late) (begun d x j s))
    go true = tt
    go false = begun_avoids ch d x j s job a

-- a job ends
ended_avoids : (ch : ℕ) (c : ControllerState) (j : Job) (s : Stage) → StageAvoids ch s → SlotAvoids ch (slot_after c j s)
ended_avoids ch c j (Made f) a = a
ended_avoids ch c j _ a = gone (restores j && break_waits c j.slot)
  where
    gone : (b : Bool) → SlotAvoids ch (cond b (Gone j.connection) Free)
    gone true = tt
    gone false = tt

answer_avoids : (ch : ℕ) (p : ControllerState) (d : Directory) (x : Current) → ((i : ℕ) → SlotAvoids ch (slot_at p i)) → CurrentAvoids ch x → Avoids ch (after_answer (going_at p d x))
answer_avoids ch p d Nothing slots a = record { slots = slots; current = tt }
answer_avoids ch p d (Asking j s) slots a = go (access_of j t)
  where
    t : Stage
    t = resumed d (slot_at p j.slot) j s

    away : StageAvoids ch t
    away = resumed_avoids ch d (slot_at p j.slot) j s a.0 a.1

    go : (o : Option Access) → Avoids ch (after_asking (record p { current = Asking j t }) j t o)
    go None = record { slots = slots_set ch (record p { current = Nothing }) j.slot _ (ended_avoids ch (record p { current = Asking j t }) j t away) slots; current = tt }
    go (Some access) = record { slots = slots; current = (a.0, away) }
answer_avoids ch p d (Hearing j s) slots a = record { slots = slots; current = a }
answer_avoids ch p d (Overtaken k o) slots a = record { slots = slots; current = tt }

pub turn_avoids : (ch now : ℕ) (d : Directory) (c : ControllerState) → 63 ≢ ch → Avoids ch c → Avoids ch (after_next now d c)
turn_avoids ch now d c last a = go c.current
  where
    turn : ControllerState → ControllerState
    turn p = after_answer (going_at p d p.current)

    answers : (p : ControllerState) → Avoids ch p → Avoids ch (turn p)
    answers p y = answer_avoids ch p d p.current y.slots y.current

    go : (x : Current) → Avoids ch (turn (elim x as (λ y. ControllerState) [
      | Nothing ↦ takes_next (to_restore c) now d c
      | Asking j s ↦ c
      | Hearing j s ↦ c
      | Overtaken i o ↦ c
    ]))
    go Nothing = answers (takes_next (to_restore c) now d c) (picked_avoids ch now d c last a)
    go (Asking j s) = answers c a
    go (Hearing j s) = answers c a
    go (Overtaken k o) = answers c a

-- ---- an answer

pub heard_avoids : (ch : ℕ) (c : ControllerState) (j : Job) (s : Stage) (r : Reply) → c.current ≡ Hearing j s → StageFits j s → (r.rcode ≡ 0 → ShowsOther ch s r.value) → Avoids ch c
    → Avoids ch (after_hear c r)
heard_avoids ch c j s r e fits shown a = record { slots = a.slots; current = subst (λ x. CurrentAvoids ch (heard x r)) (sym e) (job.0, go (eqb r.rcode 0) refl) }
  where
    job : JobAvoids ch j × StageAvoids ch s
    job = subst (CurrentAvoids ch) e a.current

    go : (b : Bool) → eqb r.rcode 0 ≡ b → StageAvoids ch (cond b (hear j s r.value) (refuse j s r.rcode))
    go true z = hear_avoids ch j s r.value job.0 fits job.1 (shown (grind (arith, nat_tests)))
    go false z = refuse_avoids ch j s r.rcode

-- ---- a bus reset, and the end of the second

slots_mapped : (ch : ℕ) (c : ControllerState) (f : Slot → Slot) → f Free ≡ Free → ((x : Slot) → SlotAvoids ch x → SlotAvoids ch (f x)) → Avoids ch c → Avoids ch (record c { slots = map f c.slots })
slots_mapped ch c f free keeps a = record { slots = λ i. subst (SlotAvoids ch) (sym (slot_mapped c f i free)) (keeps (slot_at c i) (a.slots i)); current = a.current }

slot_reset_avoids : (ch : ℕ) (x : Slot) → SlotAvoids ch x → SlotAvoids ch (slot_reset x)
slot_reset_avoids ch Free a = tt
slot_reset_avoids ch (Making conn asked overhead) a = a
slot_reset_avoids ch (Established conn f) a = a
slot_reset_avoids ch (Restoring conn f over) a = a
slot_reset_avoids ch (Gone conn) a = tt

slot_over_avoids : (ch : ℕ) (x : Slot) → SlotAvoids ch x → SlotAvoids ch (slot_over x)
slot_over_avoids ch Free a = tt
slot_over_avoids ch (Making conn asked overhead) a = a
slot_over_avoids ch (Established conn f) a = a
slot_over_avoids ch (Restoring conn f over) a = a
slot_over_avoids ch (Gone conn) a = tt

interrupted_avoids : (ch epoch : ℕ) (c : ControllerState) (j : Job) (why : Purpose) → JobAvoids ch j → ((i : ℕ) → SlotAvoids ch (slot_at c i)) → Avoids ch (interrupted_for why epoch c j)
interrupted_avoids ch epoch c j Make job slots = record { slots = slots_set ch c j.slot Free tt slots; current = tt }
interrupted_avoids ch epoch c j Restore job slots = record { slots = slots; current = (job, tt) }
interrupted_avoids ch epoch c j Break job slots = record { slots = slots_set ch c j.slot Free tt slots; current = tt }

decided_avoids : (ch : ℕ) (c : ControllerState) (j : Job) (why : Purpose) → Avoids ch c → Avoids ch (decided_for why c j)
decided_avoids ch c j Make a = a
decided_avoids ch c j Restore a = a
decided_avoids ch c j Break a = record { slots = slots_set ch c j.slot (Gone j.connection) tt a.slots; current = a.current }

overtaken_avoids : (ch epoch : ℕ) (c : ControllerState) (j : Job) (s : Stage) → JobAvoids ch j → StageAvoids ch s → Avoids ch c → Avoids ch (overtaken epoch c j s)
overtaken_avoids ch epoch c j (Made f) job away a = record { slots = slots_set ch c j.slot (Restoring j.connection f false) away a.slots; current = tt }
overtaken_avoids ch epoch c j (Ended e) job away a = decided_avoids ch c j j.purpose a
overtaken_avoids ch epoch c j _ job away a = interrupted_avoids ch epoch c j j.purpose job a.slots

heard_reset : (ch epoch : ℕ) (c : ControllerState) → Avoids ch c → Avoids ch (after_reset epoch c)
heard_reset ch epoch c a = slots_mapped ch (current_reset epoch c c.current) slot_reset refl (slot_reset_avoids ch) (go c.current a.current)
  where
    go : (x : Current) → CurrentAvoids ch x → Avoids ch (current_reset epoch c x)
    go Nothing y = a
    go (Asking j s) y = overtaken_avoids ch epoch c j s y.0 y.1 a
    go (Hearing j s) y = overtaken_avoids ch epoch c j s y.0 y.1 a
    go (Overtaken k o) y = a

unheard_reset : (ch epoch : ℕ) (c : ControllerState) → Avoids ch c → Avoids ch (after_lost_reset epoch c)
unheard_reset ch epoch c a = slots_mapped ch (lost_reset epoch c c.current) slot_reset refl (slot_reset_avoids ch) (go c.current a.current)
  where
    go : (x : Current) → CurrentAvoids ch x → Avoids ch (lost_reset epoch c x)
    go Nothing y = a
    go (Asking j s) y = interrupted_avoids ch epoch c j j.purpose y.0 a.slots
    go (Hearing j s) y = interrupted_avoids ch epoch c j j.purpose y.0 a.slots
    go (Overtaken k o) y = a

pub reset_avoids : (ch epoch : ℕ) (lost : Bool) (c : ControllerState) → Avoids ch c → Avoids ch (state_reset epoch lost c)
reset_avoids ch epoch true c a = unheard_reset ch epoch c a
reset_avoids ch epoch false c a = heard_reset ch epoch c a

pub second_avoids : (ch : ℕ) (c : ControllerState) → Avoids ch c → Avoids ch (after_second c)
second_avoids ch c a = slots_mapped ch c slot_over refl (slot_over_avoids ch) a

-- ---- a controller that starts, a new connection, and a break

pub first_avoids : (ch : ℕ) → Avoids ch first_state
first_avoids ch = record { slots = λ i. subst (SlotAvoids ch) (sym (free_slots i)) tt; current = tt }

pub new_avoids : (ch : ℕ) (c : ControllerState) (i : ℕ) (x : Slot) → SlotAvoids ch x → Avoids ch c → Avoids ch (started (Ok i) x c)
new_avoids ch c i x own a = record { slots = slots_set ch c i x own a.slots; current = a.current }

pub break_avoids : (ch : ℕ) (c : ControllerState) (i : ℕ) → Avoids ch c → Avoids ch (break_started c i)
break_avoids ch c i a = go (break_fault c i)
  where
    go : (o : Option StartFault) → Avoids ch (elim o as (λ x. ControllerState) [ None ↦ with_task c (record { slot = i; breaks = true }) | Some fault ↦ c ])
    go None = record { slots = a.slots; current = a.current }
    go (Some fault) = a
