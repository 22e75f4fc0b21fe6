-- A bus at which a controller can go on is one at which it can go on after each of its steps.
use Rattle.fw_cmp.proofs.Common.{◌≡◌, ◌≢◌, ℕ, ◌<◌, Bool, true, false, List, length, ap, sym, ◌∙◌, arith, Option, Some, None, ◌⊎◌, inl, inr, ◌&&◌, ⊤, if◌then◌else◌, cases_eq, Reply, Connection, Flow}
use Rattle.fw_cmp.proofs.Common.{Slot, Free, Making, Established, Restoring, Gone, Current, Nothing, Asking, Hearing, Overtaken, WaitingJob, Directory, Job, find_to_is, IsFirst, Access, Stage, Begin}
use Rattle.fw_cmp.proofs.Common.{ReadInput, Made, Ended, ControllerState, slot_at, with_slot, is_free, Fits, CurrentFits, restores, CurrentReached, CanGoOn, access_of, IsMaking, break_fault}
use Rattle.fw_cmp.proofs.Common.{after_hear, heard, after_answer, after_next, picked, resumed_current}
use Rattle.std.proofs.Common.{◌==◌, Ok, Err}
use Rattle.std.specs.Prelude.{Result}
use Rattle.fw_cmp.specs.declared.outcome.StartFault.{StartFault}
use Rattle.fw_cmp.specs.declared.outcome.StartFault.TheVariants.{TableFull, Busy}
use Rattle.fw_cmp.specs.Controllers.{break_waits}
use Rattle.fw_cmp.specs.Holdings.{IsReached, StageReached}
use Rattle.fw_cmp.specs.Starts.{OkWithin, free_slot, is_crowded, start_at, start, started, with_task, break_started}
use Rattle.fw_cmp_jobs.specs.Stages.{hear, refuse, hear_reply}
use Rattle.fw_cmp.specs.Turns.{ended, after_asking}
use Rattle.fw_cmp.proofs.Fitting.{slot_here, slot_elsewhere}
use Rattle.fw_cmp.proofs.Picking.{picked_fits, picked_goes_on}
use Rattle.fw_cmp.proofs.Ready.{ready_reached}

-- ---- one slot is set

-- each connection that stands is one of this bus
abbrev pub AllReached : Directory → ControllerState → Type 0
AllReached d c = (i : ℕ) (conn : Connection) (f : Flow) → slot_at c i ≡ Established conn f → IsReached d conn

-- what a slot is to hold is one of this bus
abbrev pub SlotReached : Directory → Slot → Type 0
SlotReached d s = (conn : Connection) (f : Flow) → s ≡ Established conn f → IsReached d conn

set_reached : (d : Directory) (c : ControllerState) (i : ℕ) (s : Slot) → i < length c.slots → SlotReached d s → AllReached d c → AllReached d (with_slot c i s)
set_reached d c i s lt new old k conn f e = go (cases_eq k i)
  where
    go : (k ≡ i) ⊎ (k ≢ i) → IsReached d conn
    go (inl is) = new conn f (sym (slot_here c i s lt) ∙ ap (λ (n : ℕ). slot_at (with_slot c i s) n) (sym is) ∙ e)
    go (inr ne) = old k conn f (sym (slot_elsewhere c i k s ne) ∙ e)

-- ---- a turn

any_stage : (d : Directory) (j : Job) (s : Stage) → IsReached d j.connection → StageReached d j s
any_stage d j Begin h = tt
any_stage d j (Ended e) h = tt
any_stage d j s h = h

standing_reached : (d : Directory) (conn : Connection) (f : Flow) → IsReached d conn → SlotReached d (Established conn f)
standing_reached d conn f h other g e = let same : conn ≡ other = ap (λ (s : Slot). connection_in s conn) e in rw (← same) h
  where
    connection_in : Slot → Connection → Connection
    connection_in (Established x y) z = x
    connection_in _ z = z

left_reached : (d : Directory) (conn : Connection) (b : Bool) → SlotReached d (if b then Gone conn else Free)
left_reached d conn true other g e = cc
left_reached d conn false other g e = cc

ended_reached : (d : Directory) (c : ControllerState) (j : Job) (s : Stage) → j.slot < length c.slots → AllReached d c → StageReached d j s → AllReached d (ended c j s)
ended_reached d c j (Made f) lt all h = set_reached d (record c { current = Nothing }) j.slot (Established j.connection f) lt (standing_reached d j.connection f h) all
ended_reached d c j s lt all h = set_reached d (record c { current = Nothing }) j.slot (if restores j && break_waits c j.slot then Gone j.connection else Free) lt
    (left_reached d j.connection (restores j && break_waits c j.slot)) all

asked_goes_on : (d : Directory) (c : ControllerState) (j : Job) (s : Stage) (o : Option Access) → j.slot < length c.slots → AllReached d c → StageReached d j s → CanGoOn d (after_asking c j s o)
asked_goes_on d c j s None lt all h = record { standing = ended_reached d c j s lt all h; current = tt }
asked_goes_on d c j s (Some a) lt all h = record { standing = all; current = h }

-- the slot of the current job is one
abbrev SlotWithin : Current → Type 0
SlotWithin (Asking j s) = j.slot < 32
SlotWithin _ = ⊤

resumed_within : (c : ControllerState) (d : Directory) (cur : Current) → CurrentFits c cur → SlotWithin (resumed_current c d cur)
resumed_within c d Nothing h = tt
resumed_within c d (Asking j s) h = h.job.slot
resumed_within c d (Hearing j s) h = tt
resumed_within c d (Overtaken i o) h = tt

answered_goes_on : (d : Directory) (ss : List Slot) (ts : List WaitingJob) (cur : Current) → length ss ≡ 32 → SlotWithin cur → AllReached d (record { slots = ss; waiting = ts; current = cur })
    → CurrentReached d cur → CanGoOn d (after_answer (record { slots = ss; waiting = ts; current = cur }))
answered_goes_on d ss ts Nothing len within all h = record { standing = all; current = tt }
answered_goes_on d ss ts (Asking j s) len within all h = asked_goes_on d (record { slots = ss; waiting = ts; current = Asking j s }) j s (access_of j s) (omega arith) all h
answered_goes_on d ss ts (Hearing j s) len within all h = record { standing = all; current = h }
answered_goes_on d ss ts (Overtaken i o) len within all h = record { standing = all; current = tt }

-- at a bus at which a controller can go on, it can after its turn
pub next_goes_on : (now : ℕ) (d : Directory) (c : ControllerState) → Fits c → CanGoOn d c → CanGoOn d (after_next now d c)
next_goes_on now d c fits h =
    let p : ControllerState = picked now d c in
    let here : Fits p = picked_fits now d c fits in
    answered_goes_on d p.slots p.waiting (resumed_current p d p.current) here.slots (resumed_within p d p.current here.current) (picked_goes_on now d c h).standing (ready_reached now d c fits h)

-- ---- an answer

heard_reached : (d : Directory) (j : Job) (s : Stage) (r : Reply) → StageReached d j s → StageReached d j (hear_reply j s r)
heard_reached d j s r h = go (r.rcode == 0)
  where
    complete : (s : Stage) → StageReached d j s → StageReached d j (hear j s r.value)
    complete Begin h = tt
    complete (Ended e) h = tt
    complete s h = any_stage d j (hear j s r.value) h

    refused : (s : Stage) → StageReached d j s → StageReached d j (refuse j s r.rcode)
    refused (ReadInput f) h = any_stage d j (refuse j (ReadInput f) r.rcode) h
    refused s h = tt

    go : (b : Bool) → StageReached d j (if b then hear j s r.value else refuse j s r.rcode)
    go true = complete s h
    go false = refused s h

current_heard : (d : Directory) (cur : Current) (r : Reply) → CurrentReached d cur → CurrentReached d (heard cur r)
current_heard d Nothing r h = h
current_heard d (Asking j s) r h = h
current_heard d (Hearing j s) r h = heard_reached d j s r h
current_heard d (Overtaken i o) r h = h

pub hear_goes_on : (d : Directory) (c : ControllerState) (r : Reply) → CanGoOn d c → CanGoOn d (after_hear c r)
hear_goes_on d c r h = record { standing = h.standing; current = current_heard d c.current r h.current }

-- ---- starts

making_reached : (d : Directory) (s : Slot) → IsMaking s → SlotReached d s
making_reached d (Making x asked overhead) m conn f e = cc
making_reached d Free m conn f e = cc
making_reached d (Established x y) m conn f e = absurd m
making_reached d (Restoring x y over) m conn f e = cc
making_reached d (Gone x) m conn f e = cc

pub start_goes_on : (d : Directory) (c : ControllerState) (r : Result ℕ StartFault) (s : Slot) → IsMaking s → OkWithin r → length c.slots ≡ 32 → CanGoOn d c → CanGoOn d (started r s c)
start_goes_on d c (Ok i) s m lt len h = record { standing = set_reached d c i s (omega arith) (making_reached d s m) h.standing; current = h.current }
start_goes_on d c (Err fault) s m lt len h = h

pub break_goes_on : (d : Directory) (c : ControllerState) (i : ℕ) → CanGoOn d c → CanGoOn d (break_started c i)
break_goes_on d c i h = go (break_fault c i)
  where
    go : (o : Option StartFault) → CanGoOn d (elim o [ None ↦ with_task c (record { slot = i; breaks = true }) | Some fault ↦ c ])
    go None = record { standing = h.standing; current = h.current }
    go (Some fault) = h

pub connection_goes_on : (d : Directory) (c : ControllerState) (s : Slot) → Fits c → IsMaking s → CanGoOn d c → CanGoOn d (started (start c) s c)
connection_goes_on d c s fits making h = go (free_slot c) (find_to_is 32 (λ i. is_free (slot_at c i)))
  where
    crowded : (i : ℕ) (b : Bool) → i < 32 → CanGoOn d (started (if b then Err Busy else Ok i) s c)
    crowded i true lt = start_goes_on d c (Err Busy) s making tt fits.slots h
    crowded i false lt = start_goes_on d c (Ok i) s making lt fits.slots h

    go : (o : Option ℕ) → IsFirst 32 (λ i. is_free (slot_at c i)) o → CanGoOn d (started (start_at o c) s c)
    go None first = start_goes_on d c (Err TableFull) s making tt fits.slots h
    go (Some i) first = crowded i (is_crowded c) first.0
