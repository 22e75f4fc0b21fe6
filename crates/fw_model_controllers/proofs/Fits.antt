-- Whatever happens, a controller keeps what it keeps at all times.
use Rattle.fw_model_controllers.proofs.Common.{◌≡◌, ℕ, ◌^◌, ◌<◌, Bool, true, false, Option, Some, None, cond, refl}
use Rattle.fw_model_controllers.proofs.Common.{subst, arith, Reply, Connection, PlugToPlug, BroadcastOut, BroadcastIn, Flow, Slot, Free, Making}
use Rattle.fw_model_controllers.proofs.Common.{Established, Restoring, Gone, Current, Nothing, Asking, Hearing, Overtaken, Directory, Job}
use Rattle.fw_model_controllers.proofs.Common.{Purpose, Make, Restore, Break, Late, Access, Stage, Begin, ReadInput, Ended}
use Rattle.fw_model_controllers.proofs.Common.{is_listen, ControllerState, slot_at, job_for, breaking_job, Fits, JobFits}
use Rattle.fw_model_controllers.proofs.Common.{StageFits, after_hear, hear_reply, after_asking, after_answer, begin_making, begin_leaving}
use Rattle.std.proofs.lemmas.List.Elements.{All-get_or}
use Rattle.fw_cmp_jobs.specs.declared.job.Ending.TheVariants.{Absent}
use Rattle.fw_cmp.specs.Controllers.{SlotHasJobs, CurrentFits}
use Rattle.fw_cmp_jobs.specs.Decisions.{channel_or, units_or}
use Rattle.fw_cmp_jobs.specs.Fits.{SlotFits, FlowFits, AskedFits, UnitsFit, HasInput}
use Rattle.fw_cmp_jobs.specs.Requests.{access_of}
use Rattle.fw_cmp.specs.Turns.{after_next}
use Rattle.fw_cmp.specs.Jobs.{resumed_current, picked, going, ready}
use Rattle.fw_cmp_jobs.specs.Jobs.{absent_of, begin_managed, begin_breaking, begin, begun, own_flow, is_late, resumed}
use Rattle.fw_cmp.proofs.Picking.{picked_fits}
use Rattle.fw_cmp.proofs.Going.{going_fits}
use Rattle.fw_cmp.proofs.Ended.{ended_fits}
use Rattle.fw_model_controllers.proofs.Carried.{hearing}
use Rattle.fw_model_controllers.proofs.StageFits.{reply_fits}

-- ---- how a job begins

own_flow_fits : (j : Job) → JobFits j → FlowFits (own_flow j)
own_flow_fits j f = record { channel = channel j.asked f.asked; overhead = f.overhead; units = units j.units f.units }
  where
    channel : (o : Option ℕ) → AskedFits o → channel_or o 63 < 64
    channel None h = omega arith
    channel (Some ch) h = h

    units : (o : Option ℕ) → UnitsFit o → units_or o 0 < 2 ^ 32
    units None h = omega arith
    units (Some u) h = h

making_fits : (dir : Directory) (j : Job) → JobFits j → StageFits j (begin_making dir j)
making_fits dir j f = go (absent_of dir j.connection) (is_listen j.connection) refl dir.manager
  where
    listens : (conn : Connection) → is_listen conn ≡ true → HasInput conn
    listens (PlugToPlug o i) e = tt
    listens (BroadcastOut o) e = grind arith
    listens (BroadcastIn i) e = tt

    go : (o : Option ℕ) (b : Bool) → is_listen j.connection ≡ b → (m : Option ℕ)
        → StageFits j (elim o [ Some device ↦ Ended (Absent device) | None ↦ (cond b (ReadInput (own_flow j)) (begin_managed m)) ])
    go (Some device) b e m = tt
    go None true e m = (listens j.connection e, own_flow_fits j f)
    go None false e None = tt
    go None false e (Some n) = e

leaving_fits : (i : ℕ) (conn : Connection) (f : Flow) → FlowFits f → StageFits (breaking_job i conn) (begin_leaving conn f)
leaving_fits i (PlugToPlug out into) f h = (tt, (h.channel, h.units))
leaving_fits i (BroadcastOut out) f h = (refl, (h.channel, h.units))
leaving_fits i (BroadcastIn into) f h = (tt, (h.channel, h.units))

breaking_fits : (k : ℕ) (slot : Slot) (j : Job) → SlotFits slot → job_for k slot ≡ Some j → StageFits j (begin_breaking slot)
breaking_fits k Free j f e = tt
breaking_fits k (Making conn asked overhead) j f e = tt
breaking_fits k (Established conn g) j f e = let same : breaking_job k conn ≡ j = cc in subst (λ y. StageFits y (begin_leaving conn g)) same (leaving_fits k conn g f.1)
breaking_fits k (Restoring conn g over) j f e = tt
breaking_fits k (Gone conn) j f e = tt

begin_fits : (dir : Directory) (slot : Slot) (j : Job) → JobFits j → SlotFits slot → job_for j.slot slot ≡ Some j → StageFits j (begin dir slot j)
begin_fits dir slot j f g e = go j.purpose
  where
    go : (p : Purpose) → StageFits j (elim p [ Make ↦ begin_making dir j | Restore ↦ begin_making dir j | Break ↦ begin_breaking slot ])
    go Make = making_fits dir j f
    go Restore = making_fits dir j f
    go Break = breaking_fits j.slot slot j g e

late_or : (dir : Directory) (slot : Slot) (j : Job) (s : Stage) (b : Bool) → StageFits j (begun dir slot j s) → StageFits j (cond b (Ended Late) (begun dir slot j s))
late_or dir slot j s true f = tt
late_or dir slot j s false f = f

resumed_fits : (dir : Directory) (slot : Slot) (j : Job) (s : Stage) → JobFits j → SlotFits slot → job_for j.slot slot ≡ Some j → StageFits j s → StageFits j (resumed dir slot j s)
resumed_fits dir slot j Begin f g e h = late_or dir slot j Begin (is_late slot j Begin) (begin_fits dir slot j f g e)
resumed_fits dir slot j s f g e h = late_or dir slot j s (is_late slot j s) h

slot_fits : (c : ControllerState) (i : ℕ) → Fits c → i < 32 → SlotFits (slot_at c i)
slot_fits c i f lt = All-get_or SlotFits c.slots i Free (omega (arith, f.slots)) f.each

current_fits : (dir : Directory) (c : ControllerState) (current : Current) → Fits c → CurrentFits c current → CurrentFits (going dir c) (resumed_current c dir current)
current_fits dir c Nothing f x = tt
current_fits dir c (Asking j s) f x = record { of_slot = x.of_slot; job = x.job; stage = resumed_fits dir (slot_at c j.slot) j s x.job (slot_fits c j.slot f x.job.slot) x.of_slot x.stage }
current_fits dir c (Hearing j s) f x = record { of_slot = x.of_slot; job = x.job; stage = x.stage }
current_fits dir c (Overtaken i o) f x = x

pub ready_fits : (now : ℕ) (dir : Directory) (c : ControllerState) → Fits c → Fits (ready now dir c)
ready_fits now dir c f = let p = picked_fits now dir c f in going_fits dir (picked now dir c) p (current_fits dir (picked now dir c) (picked now dir c).current p p.current)

-- ---- its request goes out, or its job ends

with_current : (c : ControllerState) (current : Current) → Fits c → CurrentFits (record c { current = current }) current → ((i : ℕ) → SlotHasJobs c.waiting current i (slot_at c i))
    → Fits (record c { current = current })
with_current c current f x jobs = record { slots = f.slots; each = f.each; waiting = f.waiting; few = f.few; current = x; jobs = jobs }

asked_fits : (c : ControllerState) (j : Job) (s : Stage) (o : Option Access) → Fits (record c { current = Asking j s }) → Fits (after_asking (record c { current = Asking j s }) j s o)
asked_fits c j s None f = ended_fits (record c { current = Asking j s }) j s f f.current f.jobs
asked_fits c j s (Some a) f = with_current (record c { current = Asking j s }) (Hearing j s) f (record { of_slot = f.current.of_slot; job = f.current.job; stage = f.current.stage })
    (λ i. let h = f.jobs i in record { makes = h.makes; breaks = h.breaks; gone = h.gone })

answered_fits : (c : ControllerState) (current : Current) → Fits (record c { current = current }) → Fits (after_answer (record c { current = current }))
answered_fits c Nothing f = f
answered_fits c (Asking j s) f = asked_fits c j s (access_of j s) f
answered_fits c (Hearing j s) f = f
answered_fits c (Overtaken k o) f = with_current (record c { current = Overtaken k o }) Nothing f tt (λ i. let h = f.jobs i in record { makes = h.makes; breaks = h.breaks; gone = h.gone })

pub next_fits : (now : ℕ) (dir : Directory) (c : ControllerState) → Fits c → Fits (after_next now dir c)
next_fits now dir c f = answered_fits (ready now dir c) (ready now dir c).current (ready_fits now dir c f)

-- ---- it hears an answer

pub heard_fits : (c : ControllerState) (j : Job) (s : Stage) (r : Reply) → (r.rcode ≡ 0 → r.value < 2 ^ 32) → Fits (hearing c j s) → Fits (after_hear (hearing c j s) r)
heard_fits c j s r lt f = with_current (hearing c j s) (Asking j (hear_reply j s r)) f
    (record { of_slot = f.current.of_slot; job = f.current.job; stage = reply_fits j s r f.current.job lt f.current.stage })
    (λ i. let h = f.jobs i in record { makes = h.makes; breaks = h.breaks; gone = h.gone })
