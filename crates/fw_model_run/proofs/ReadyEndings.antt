-- What a controller decides that is ready, or that meets a bus reset, shows quadlets.
use Rattle.fw_model_run.proofs.Common.{◌≡◌, ℕ, ◌^◌, ◌<◌, cond, Bool, true, false, Option, Some, None, refl, sym, subst, arith, ⊤, PlugAt, Slot, Current, Nothing, Asking, Hearing, Overtaken, Directory}
use Rattle.fw_model_run.proofs.Common.{Job, Stage, ControllerState, slot_at, after_next, access_of, Access}
use Rattle.fw_cmp_jobs.specs.declared.connection.Connection.{Connection}
use Rattle.fw_cmp_jobs.specs.declared.connection.Connection.TheVariants.{PlugToPlug, BroadcastOut, BroadcastIn}
use Rattle.fw_cmp_jobs.specs.declared.connection.Flow.{Flow}
use Rattle.fw_cmp_jobs.specs.declared.connection.Slot.TheVariants.{Free, Making, Established, Restoring, Gone}
use Rattle.fw_cmp_jobs.specs.declared.job.Ending.TheVariants as ending
use Rattle.fw_cmp_jobs.specs.declared.job.Purpose.{Purpose}
use Rattle.fw_cmp_jobs.specs.declared.job.Purpose.TheVariants.{Make, Restore, Break}
use Rattle.fw_cmp_jobs.specs.declared.stage.Stage.TheVariants.{Begin, Made, Ended}
use Rattle.fw_cmp_jobs.specs.declared.outcome.Outcome.TheVariants as outcome
use Rattle.fw_cmp_jobs.specs.Connections.{is_listen}
use Rattle.fw_cmp.specs.Controllers.{with_slot, CurrentFits, Fits}
use Rattle.fw_cmp_jobs.specs.Decisions.{restores}
use Rattle.fw_cmp_jobs.specs.Fits.{ConnectionFits, JobFits}
use Rattle.fw_cmp_jobs.specs.Nodes.{node_of}
use Rattle.fw_cmp.specs.Resets.{interrupted, decided, overtaken, current_reset, after_reset, lost_reset, after_lost_reset, state_reset}
use Rattle.fw_cmp.specs.Turns.{after_asking}
use Rattle.fw_cmp.specs.Jobs.{resumed_current, picked, ready, current_for}
use Rattle.fw_cmp_jobs.specs.Jobs.{without_node, absent_of, begin_managed, begin_present, begin_making, begin_leaving, begin_breaking, begin, begun, is_late}
use Rattle.fw_cmp.proofs.Picking.{picked_fits, picked_holds}
use Rattle.fw_model_run.specs.Entries.{coded}
use Rattle.fw_model_run.specs.Numbers.{StageShows, CurrentShows}
use Rattle.fw_model_run.proofs.Endings.{either}

-- ---- how a job begins

record DeviceFits (o : Option ℕ) : Type 0 where
  low : (device : ℕ) → o ≡ Some device → device < 2 ^ 32

without_fits : (d : Directory) (p : PlugAt) → p.device < 63 → (o : Option ℕ) → DeviceFits (elim o as (λ _. Option ℕ) [ None ↦ Some p.device | Some n ↦ None ])
without_fits d p low None = record { low = λ device e. let same : p.device ≡ device = cc in omega (arith, low, same) }
without_fits d p low (Some n) = record { low = λ device e. absurd (grind (arith, e)) }

absent_fits : (a b : Option ℕ) → DeviceFits a → DeviceFits b → DeviceFits (elim a as (λ _. Option ℕ) [ Some device ↦ Some device | None ↦ b ])
absent_fits (Some device) b f g = f
absent_fits None b f g = g

absent_low : (d : Directory) (conn : Connection) → ConnectionFits conn → DeviceFits (absent_of d conn)
absent_low d (PlugToPlug out into) f = absent_fits (without_node d (Some out)) (without_node d (Some into)) (without_fits d out f.0.0 (node_of d out.device))
    (without_fits d into f.1.0 (node_of d into.device))
absent_low d (BroadcastOut out) f = absent_fits (without_node d (Some out)) None (without_fits d out f.0 (node_of d out.device)) (record { low = λ device e. absurd (grind (arith, e)) })
absent_low d (BroadcastIn into) f = absent_fits None (without_node d (Some into)) (record { low = λ device e. absurd (grind (arith, e)) }) (without_fits d into f.0 (node_of d into.device))

managed_shows : (o : Option ℕ) → StageShows (begin_managed o)
managed_shows None = tt
managed_shows (Some n) = tt

making_shows : (d : Directory) (j : Job) → JobFits j → StageShows (begin_making d j)
making_shows d j f = go (absent_of d j.connection) (absent_low d j.connection f.connection)
  where
    go : (o : Option ℕ) → DeviceFits o → StageShows (elim o as (λ _. Stage) [ Some device ↦ Ended (ending.Absent device) | None ↦ begin_present d j ])
    go (Some device) h = h.low device refl
    go None h = either (is_listen j.connection) _ _ tt (managed_shows d.manager)

leaving_shows : (conn : Connection) (f : Flow) → StageShows (begin_leaving conn f)
leaving_shows (PlugToPlug out into) f = tt
leaving_shows (BroadcastOut out) f = tt
leaving_shows (BroadcastIn into) f = tt

breaking_shows : (slot : Slot) → StageShows (begin_breaking slot)
breaking_shows (Established conn f) = leaving_shows conn f
breaking_shows Free = tt
breaking_shows (Making conn asked overhead) = tt
breaking_shows (Restoring conn f over) = tt
breaking_shows (Gone conn) = tt

begin_shows : (d : Directory) (slot : Slot) (j : Job) → JobFits j → StageShows (begin d slot j)
begin_shows d slot j f = go j.purpose
  where
    go : (p : Purpose) → StageShows (elim p as (λ _. Stage) [ Make ↦ begin_making d j | Restore ↦ begin_making d j | Break ↦ begin_breaking slot ])
    go Make = making_shows d j f
    go Restore = making_shows d j f
    go Break = breaking_shows slot

begun_shows : (d : Directory) (slot : Slot) (j : Job) (s : Stage) → JobFits j → StageShows s → StageShows (begun d slot j s)
begun_shows d slot j Begin f h = begin_shows d slot j f
begun_shows d slot j _ f h = h

-- ---- a controller that is ready

-- its job, and what it is to write, fit
abbrev pub ReadyFits : Current → Type 0
ReadyFits Nothing = ⊤
ReadyFits (Asking j s) = JobFits j × StageShows s
ReadyFits (Hearing j s) = JobFits j × StageShows s
ReadyFits (Overtaken i o) = (i < 32) × ((coded o).1 < 2 ^ 32)

going_fits : (d : Directory) (c : ControllerState) (cur : Current) → CurrentFits c cur → CurrentShows cur → ReadyFits (resumed_current c d cur)
going_fits d c Nothing fits f = tt
going_fits d c (Asking j s) fits f = (fits.job, either (is_late (slot_at c j.slot) j s) _ _ tt (begun_shows d (slot_at c j.slot) j s fits.job f))
going_fits d c (Hearing j s) fits f = (fits.job, f)
going_fits d c (Overtaken i o) fits f = (fits, f)

current_shows : (i : ℕ) (s : Slot) → CurrentShows (current_for i s)
current_shows i Free = tt
current_shows i (Making conn asked overhead) = tt
current_shows i (Established conn f) = tt
current_shows i (Restoring conn f over) = tt
current_shows i (Gone conn) = tt

pub ready_fits : (now : ℕ) (d : Directory) (c : ControllerState) → Fits c → CurrentShows c.current → ReadyFits (ready now d c).current
ready_fits now d c fits f = going_fits d (picked now d c) (picked now d c).current (picked_fits now d c fits).current (picked_holds CurrentShows current_shows now d c.slots c.waiting c.current f)

pub next_shows : (now : ℕ) (d : Directory) (c : ControllerState) → Fits c → CurrentShows c.current → CurrentShows (after_next now d c).current
next_shows now d c fits f = go (ready now d c) (ready now d c).current refl (ready_fits now d c fits f)
  where
    asked : (r : ControllerState) (j : Job) (s : Stage) (o : Option Access) → StageShows s → CurrentShows (after_asking r j s o).current
    asked r j s None h = tt
    asked r j s (Some a) h = h

    go : (r : ControllerState) (cur : Current) → r.current ≡ cur → ReadyFits cur
        → CurrentShows (elim cur as (λ _. ControllerState) [ Nothing ↦ r | Asking j s ↦ after_asking r j s (access_of j s) | Hearing j s ↦ r | Overtaken i o ↦ record r { current = Nothing } ]).current
    go r Nothing e h = subst CurrentShows (sym e) tt
    go r (Asking j s) e h = asked r j s (access_of j s) h.1
    go r (Hearing j s) e h = subst CurrentShows (sym e) h.1
    go r (Overtaken i o) e h = tt

-- ---- a bus reset

pub made_shows : (ch : ℕ) (b : Bool) → ch < 2 ^ 32 → (coded (cond b (outcome.Restored ch) (outcome.Connected ch))).1 < 2 ^ 32
made_shows ch true low = low
made_shows ch false low = low

decided_shows : (c : ControllerState) (j : Job) → CurrentShows c.current → CurrentShows (decided c j).current
decided_shows c j f = go j.purpose
  where
    go : (p : Purpose) → CurrentShows (elim p as (λ _. ControllerState) [ Make ↦ c | Restore ↦ c | Break ↦ with_slot c j.slot (Gone j.connection) ]).current
    go Make = f
    go Restore = f
    go Break = f

interrupted_shows : (epoch : ℕ) (c : ControllerState) (j : Job) → epoch < 2 ^ 32 → CurrentShows (interrupted epoch c j).current
interrupted_shows epoch c j low = go j.purpose
  where
    go : (p : Purpose) → CurrentShows (elim p as (λ _. ControllerState) [
      | Make ↦ with_slot (record c { current = Overtaken j.slot (outcome.Reset epoch) }) j.slot Free
      | Restore ↦ record c { current = Asking j Begin }
      | Break ↦ with_slot (record c { current = Overtaken j.slot (outcome.Reset epoch) }) j.slot Free
    ]).current
    go Make = low
    go Restore = tt
    go Break = low

overtaken_shows : (epoch : ℕ) (c : ControllerState) (j : Job) (s : Stage) → epoch < 2 ^ 32 → StageShows s → CurrentShows c.current → CurrentShows (overtaken epoch c j s).current
overtaken_shows epoch c j (Made g) low h f = made_shows g.channel (restores j) h
overtaken_shows epoch c j (Ended e) low h f = decided_shows c j f
overtaken_shows epoch c j _ low h f = interrupted_shows epoch c j low

heard_shows_ : (epoch : ℕ) (c : ControllerState) → epoch < 2 ^ 32 → CurrentShows c.current → CurrentShows (after_reset epoch c).current
heard_shows_ epoch c low f = go c.current refl f
  where
    go : (cur : Current) → c.current ≡ cur → CurrentShows cur → CurrentShows (current_reset epoch c cur).current
    go Nothing e h = subst CurrentShows (sym e) tt
    go (Overtaken i o) e h = subst CurrentShows (sym e) h
    go (Asking j s) e h = overtaken_shows epoch c j s low h (subst CurrentShows (sym e) h)
    go (Hearing j s) e h = overtaken_shows epoch c j s low h (subst CurrentShows (sym e) h)

-- the same if the response to its request was lost
unheard_shows : (epoch : ℕ) (c : ControllerState) → epoch < 2 ^ 32 → CurrentShows c.current → CurrentShows (after_lost_reset epoch c).current
unheard_shows epoch c low f = go c.current refl f
  where
    go : (cur : Current) → c.current ≡ cur → CurrentShows cur → CurrentShows (lost_reset epoch c cur).current
    go Nothing e h = subst CurrentShows (sym e) tt
    go (Overtaken i o) e h = subst CurrentShows (sym e) h
    go (Asking j s) e h = interrupted_shows epoch c j low
    go (Hearing j s) e h = interrupted_shows epoch c j low

pub reset_shows : (epoch : ℕ) (lost : Bool) (c : ControllerState) → epoch < 2 ^ 32 → CurrentShows c.current → CurrentShows (state_reset epoch lost c).current
reset_shows epoch true c low f = unheard_shows epoch c low f
reset_shows epoch false c low f = heard_shows_ epoch c low f
