-- A half step leaves at most what was still to come, and less if it makes progress.
use Rattle.fw_model_rounds.proofs.Common.{◌≡◌, ◌≢◌, ℕ, ◌+◌, ◌<◌, ◌≤◌, Bool, true, false, Option, Some, None, is_none}
use Rattle.fw_model_rounds.proofs.Common.{eqb, refl, arith, cond, ◌&&◌, nat_tests, option_map, sum_to, flag, Slot, Free, Making}
use Rattle.fw_model_rounds.proofs.Common.{Established, Restoring, Gone, Connection, PlugToPlug, BroadcastOut, BroadcastIn, Flow, Nothing}
use Rattle.fw_model_rounds.proofs.Common.{Asking, Directory, Job, Purpose, Make, Restore, Break, Late, Target}
use Rattle.fw_model_rounds.proofs.Common.{Stage, Begin, ReadInput, ReadBandwidthToRelease, RaiseBandwidth, ReadChannelsToRelease, RestoreChannel, Made, Ended, is_listen, ControllerState, slot_at}
use Rattle.fw_model_rounds.proofs.Common.{is_restoring, restores, swap_of, access_at, after_asking, resumed, begun, is_late, remaining, of_slot, to_come}
use Rattle.fw_terms.proofs.Tables.{sum_to_le, sum_to_changed}
use Rattle.fw_cmp_jobs.specs.declared.job.Ending.TheVariants.{Absent}
use Rattle.fw_cmp.specs.Controllers.{with_slot, break_waits}
use Rattle.fw_cmp.specs.Turns.{ended, slot_after}
use Rattle.fw_cmp_jobs.specs.Jobs.{begin, begin_making, begin_present, begin_managed, begin_breaking, begin_leaving, own_flow, absent_of}
use Rattle.fw_model_rounds.specs.Remaining.{most_remaining}
use Rattle.fw_model_rounds.specs.HalfSteps.{of_job}
use Rattle.fw_model_rounds.proofs.Slots.{other_item, none_restored}

-- ---- a stage still has its outcome to come

pub some_remains : (s : Stage) → 1 ≤ remaining s
some_remains (ReadBandwidthToRelease next ch u) = omega arith
some_remains (RaiseBandwidth next ch u arg) = omega arith
some_remains (ReadChannelsToRelease next ch) = omega arith
some_remains (RestoreChannel next ch arg) = omega arith
some_remains s = omega arith

-- ---- the stage from which a job goes on

begin_leaves : (d : Directory) (slot : Slot) (j : Job) → remaining (begin d slot j) ≤ 7
begin_leaves d slot j = go j.purpose
  where
    managed : (o : Option ℕ) → remaining (begin_managed o) ≤ 7
    managed None = omega arith
    managed (Some n) = omega arith

    present : (b : Bool) → remaining (cond b (ReadInput (own_flow j)) (begin_managed d.manager)) ≤ 7
    present true = omega arith
    present false = managed d.manager

    making : (o : Option ℕ) → remaining (elim o [ Some device ↦ Ended (Absent device) | None ↦ begin_present d j ]) ≤ 7
    making (Some device) = omega arith
    making None = present (is_listen j.connection)

    leaving : (conn : Connection) (f : Flow) → remaining (begin_leaving conn f) ≤ 7
    leaving (PlugToPlug out into) f = omega arith
    leaving (BroadcastOut out) f = omega arith
    leaving (BroadcastIn into) f = omega arith

    breaking : (slot : Slot) → remaining (begin_breaking slot) ≤ 7
    breaking Free = omega arith
    breaking (Making conn asked overhead) = omega arith
    breaking (Established conn f) = leaving conn f
    breaking (Restoring conn f over) = omega arith
    breaking (Gone conn) = omega arith

    go : (p : Purpose) → remaining (elim p [ Make ↦ begin_making d j | Restore ↦ begin_making d j | Break ↦ begin_breaking slot ]) ≤ 7
    go Make = making (absent_of d j.connection)
    go Restore = making (absent_of d j.connection)
    go Break = breaking slot

begun_leaves : (d : Directory) (slot : Slot) (j : Job) (s : Stage) → remaining (begun d slot j s) ≤ remaining s
begun_leaves d slot j Begin = begin_leaves d slot j
begun_leaves d slot j s = omega arith

pub resumed_leaves : (d : Directory) (slot : Slot) (j : Job) (s : Stage) → remaining (resumed d slot j s) ≤ remaining s
resumed_leaves d slot j s = go (is_late slot j s)
  where
    go : (b : Bool) → remaining (cond b (Ended Late) (begun d slot j s)) ≤ remaining s
    go true = some_remains s
    go false = begun_leaves d slot j s

-- ---- the slots of a controller with a job at a stage

-- what a job of slot k leaves to come at slot i
abbrev pub at_slot : ControllerState → Job → Stage → ℕ → ℕ
at_slot c j s i = of_slot (Asking j s) i (slot_at c i)

other_slot : (j : Job) (s : Stage) (i : ℕ) → i ≢ j.slot → of_job j s i ≡ most_remaining
other_slot j s i ne = go (restores j) (eqb j.slot i) (grind (arith, nat_tests))
  where
    go : (b c : Bool) → c ≡ false → cond (b && c) (remaining s) most_remaining ≡ most_remaining
    go true true e = grind arith
    go true false e = refl
    go false c e = refl

own_slot : (j : Job) (s : Stage) → restores j ≡ true → of_job j s j.slot ≡ remaining s
own_slot j s r = go (restores j) r (eqb j.slot j.slot) (grind (arith, nat_tests))
  where
    go : (b : Bool) → b ≡ true → (c : Bool) → c ≡ true → cond (b && c) (remaining s) most_remaining ≡ remaining s
    go true e true f = refl
    go true e false f = grind arith
    go false e c f = grind arith

of_job_le : (j : Job) (s t : Stage) (i : ℕ) → remaining t ≤ remaining s → of_job j t i ≤ of_job j s i
of_job_le j s t i le = go (restores j && eqb j.slot i)
  where
    go : (b : Bool) → cond b (remaining t) most_remaining ≤ cond b (remaining s) most_remaining
    go true = le
    go false = omega arith

pub of_job_some : (j : Job) (s : Stage) (i : ℕ) → 1 ≤ of_job j s i
of_job_some j s i = go (restores j && eqb j.slot i)
  where
    go : (b : Bool) → 1 ≤ cond b (remaining s) most_remaining
    go true = some_remains s
    go false = omega arith

-- the job goes on at a stage that leaves no more
pub moved : (c : ControllerState) (j : Job) (s t : Stage) → remaining t ≤ remaining s → sum_to 32 (at_slot c j t) ≤ sum_to 32 (at_slot c j s)
moved c j s t le = sum_to_le 32 (at_slot c j t) (at_slot c j s) (λ i lt. go i (is_restoring (slot_at c i)))
  where
    go : (i : ℕ) (b : Bool) → cond b (of_job j t i) 0 ≤ cond b (of_job j s i) 0
    go i true = of_job_le j s t i le
    go i false = omega arith

-- a stage that leaves less, of the job that restores its slot
pub lowered : (c : ControllerState) (j : Job) (s t : Stage) (m : ℕ) → j.slot < 32 → restores j ≡ true → is_restoring (slot_at c j.slot) ≡ true → remaining t + m ≤ remaining s
    → sum_to 32 (at_slot c j t) + m ≤ sum_to 32 (at_slot c j s)
lowered c j s t m lt r is le =
    let changed = sum_to_changed 32 j.slot (at_slot c j s) (at_slot c j t) lt others in
    let before : at_slot c j s j.slot ≡ remaining s = rw is (own_slot j s r) in
    let after : at_slot c j t j.slot ≡ remaining t = rw is (own_slot j t r) in
    omega (arith, changed, before, after)
  where
    others : (i : ℕ) → i ≢ j.slot → at_slot c j s i ≡ at_slot c j t i
    others i ne = rw (other_slot j s i ne) (rw (other_slot j t i ne) refl)

-- ---- the job ends

pub after_restores : (c : ControllerState) (j : Job) (s : Stage) → is_restoring (slot_after c j s) ≡ false
after_restores c j s = go s
  where
    gone : (b : Bool) → is_restoring (cond b (Gone j.connection) Free) ≡ false
    gone true = refl
    gone false = refl

    go : (s : Stage) → is_restoring (slot_after c j s) ≡ false
    go (Made f) = refl
    go s = gone (restores j && break_waits c j.slot)

ending : (c : ControllerState) (j : Job) (s : Stage) (v : Slot) → j.slot < 32 → is_restoring v ≡ false
    → to_come (with_slot (record c { current = Nothing }) j.slot v) + flag (is_restoring (slot_at c j.slot)) ≤ sum_to 32 (at_slot c j s)
ending c j s v lt none =
    let changed = sum_to_changed 32 j.slot (at_slot c j s) after lt others in
    let freed : after j.slot ≡ 0 = rw (none_restored c.slots j.slot v none) refl in
    let own : flag (is_restoring (slot_at c j.slot)) ≤ at_slot c j s j.slot = some (is_restoring (slot_at c j.slot)) in
    omega (arith, changed, freed, own)
  where
    after : ℕ → ℕ
    after i = of_slot Nothing i (slot_at (with_slot (record c { current = Nothing }) j.slot v) i)

    others : (i : ℕ) → i ≢ j.slot → at_slot c j s i ≡ after i
    others i ne = rw (other_slot j s i ne) (rw (other_item c.slots j.slot i v ne) refl)

    some : (b : Bool) → flag b ≤ cond b (of_job j s j.slot) 0
    some true = of_job_some j s j.slot
    some false = omega arith

pub ended_leaves : (c : ControllerState) (j : Job) (r s : Stage) → j.slot < 32
    → to_come (ended (record c { current = Asking j r }) j r) + flag (is_restoring (slot_at c j.slot)) ≤ sum_to 32 (at_slot c j s)
ended_leaves c j r s lt = ending c j s (slot_after (record c { current = Asking j r }) j r) lt (after_restores (record c { current = Asking j r }) j r)

-- ---- the job makes its request, or ends

pub asked_leaves : (c : ControllerState) (j : Job) (r s : Stage) → j.slot < 32 → remaining r ≤ remaining s → (o : Option Target)
    → to_come (after_asking (record c { current = Asking j r }) j r (option_map (access_at (swap_of j r)) o)) + flag (is_none o && is_restoring (slot_at c j.slot)) ≤ sum_to 32 (at_slot c j s)
asked_leaves c j r s lt le None = ended_leaves c j r s lt
asked_leaves c j r s lt le (Some t) = omega (arith, moved c j s r le)
