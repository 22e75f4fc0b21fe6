-- A controller that only restores goes on doing so.
use Rattle.fw_model_rounds.proofs.Common.{◌≡◌, ℕ, ◌<◌, Bool, true, false, Option, Some, None, is_none, refl, ap, sym}
use Rattle.fw_model_rounds.proofs.Common.{subst, ◌∙◌, arith, ◌⊎◌, inl, inr, cond, option_map, Connection, Slot, Free, Making}
use Rattle.fw_model_rounds.proofs.Common.{
  Established,
  Restoring,
  Gone,
  Current,
  Nothing,
  Asking,
  Hearing,
  Overtaken,
  Directory,
  Job,
  Purpose,
  Make,
  Restore,
  Break,
  Late,
  Target,
  Stage,
  Begin,
  ReadInput,
}
use Rattle.fw_model_rounds.proofs.Common.{Ended, is_listen, ControllerState, slot_at, restoring_job, restores, target_of, swap_of, access_at, hear, after_answer, after_asking, begun, is_late, ready}
use Rattle.fw_model_rounds.proofs.Common.{resumed, waiting_break, PlugToPlug, BroadcastOut, BroadcastIn, Flow, answer_of, has_begun, is_over, after_half_step, IsRestoringOf, CurrentRestores}
use Rattle.std.specs.Prelude.{position}
use Rattle.fw_cmp_jobs.specs.declared.job.Ending.TheVariants.{Absent}
use Rattle.fw_cmp.specs.Jobs.{is_break}
use Rattle.fw_cmp_jobs.specs.Jobs.{begin, begin_making, begin_present, begin_managed, begin_breaking, begin_leaving, own_flow, absent_of}
use Rattle.fw_model_rounds.specs.HalfSteps.{OnlyRestores}
use Rattle.fw_model_rounds.proofs.Slots.{picks, Picks, Rests, idle}
use Rattle.fw_model_rounds.proofs.Stages.{begun_stays, begins}
use Rattle.fw_model_rounds.proofs.Controllers.{Owns, owns}
use Rattle.fw_model_rounds.proofs.Within.{asking}

-- ---- a stage that a job goes on from has begun

begin_begins : (d : Directory) (slot : Slot) (j : Job) → has_begun (begin d slot j) ≡ true
begin_begins d slot j = go j.purpose
  where
    managed : (o : Option ℕ) → has_begun (begin_managed o) ≡ true
    managed None = refl
    managed (Some n) = refl

    present : (b : Bool) → has_begun (cond b (ReadInput (own_flow j)) (begin_managed d.manager)) ≡ true
    present true = refl
    present false = managed d.manager

    making : (o : Option ℕ) → has_begun (elim o [ Some device ↦ Ended (Absent device) | None ↦ begin_present d j ]) ≡ true
    making (Some device) = refl
    making None = present (is_listen j.connection)

    leaving : (conn : Connection) (f : Flow) → has_begun (begin_leaving conn f) ≡ true
    leaving (PlugToPlug out into) f = refl
    leaving (BroadcastOut out) f = refl
    leaving (BroadcastIn into) f = refl

    breaking : (slot : Slot) → has_begun (begin_breaking slot) ≡ true
    breaking Free = refl
    breaking (Making conn asked overhead) = refl
    breaking (Established conn f) = leaving conn f
    breaking (Restoring conn f over) = refl
    breaking (Gone conn) = refl

    go : (p : Purpose) → has_begun (elim p [ Make ↦ begin_making d j | Restore ↦ begin_making d j | Break ↦ begin_breaking slot ]) ≡ true
    go Make = making (absent_of d j.connection)
    go Restore = making (absent_of d j.connection)
    go Break = breaking slot

begun_begins : (d : Directory) (slot : Slot) (j : Job) (s : Stage) → has_begun (begun d slot j s) ≡ true
begun_begins d slot j s = go (has_begun s) refl
  where
    go : (b : Bool) → has_begun s ≡ b → has_begun (begun d slot j s) ≡ true
    go true e = rw (begun_stays d slot j s e) e
    go false e = subst (λ (t : Stage). has_begun (begun d slot j t) ≡ true) (sym (begins s e)) (begin_begins d slot j)

-- ---- a restoring that makes its request is of the same slot, in its own second

-- what a controller knows as the request of a stage stands
abbrev pub Stands : ControllerState → Job → Stage → Type 0
Stands c j r = is_none (target_of j r) ≡ false → CurrentRestores c (Hearing j r)

-- in its own second
kept : (slot : Slot) (j : Job) (s r : Stage) (o : Owns slot j s) → o.over ≡ false → IsRestoringOf slot j r
kept slot j s r o own = subst (λ (x : Slot). IsRestoringOf x j r) (sym (o.is ∙ ap (λ (b : Bool). Restoring o.connection o.flow b) own)) (o.job, (λ b. refl))

late_ends : (d : Directory) (c : ControllerState) (j : Job) (s : Stage) (o : Owns (slot_at c j.slot) j s) → o.over ≡ true → resumed d (slot_at c j.slot) j s ≡ Ended Late
late_ends d c j s o over = go (has_begun s) refl
  where
    first : is_late (slot_at c j.slot) j Begin ≡ true
    first =
        let r : restores j ≡ true = ap restores o.job in
        let l : is_late (slot_at c j.slot) j Begin ≡ is_late (Restoring o.connection o.flow true) j Begin =
        ap (λ (x : Slot). is_late x j Begin) (o.is ∙ ap (λ (b : Bool). Restoring o.connection o.flow b) over) in
        l ∙ rw r refl

    go : (b : Bool) → has_begun s ≡ b → resumed d (slot_at c j.slot) j s ≡ Ended Late
    go true e = absurd (grind (arith, o.own e))
    go false e = subst (λ (t : Stage). resumed d (slot_at c j.slot) j t ≡ Ended Late) (sym (begins s e)) (rw first refl)

stands : (d : Directory) (c : ControllerState) (j : Job) (s : Stage) → Owns (slot_at c j.slot) j s → Stands c j (resumed d (slot_at c j.slot) j s)
stands d c j s o = go o.over refl
  where
    begins_own : (b : Bool) → o.over ≡ false → Stands c j (cond b (Ended Late) (begun d (slot_at c j.slot) j s))
    begins_own true own some = grind arith
    begins_own false own some = (begun_begins d (slot_at c j.slot) j s, kept (slot_at c j.slot) j s (begun d (slot_at c j.slot) j s) o own, some)

    go : (b : Bool) → o.over ≡ b → Stands c j (resumed d (slot_at c j.slot) j s)
    go true e = rw (late_ends d c j s o e) (λ some. absurd (grind arith))
    go false e = begins_own (is_late (slot_at c j.slot) j s) e

-- a job that is over makes no request
over_stands : (d : Directory) (c : ControllerState) (j : Job) (s : Stage) → is_over j s ≡ true → Stands c j (resumed d (slot_at c j.slot) j s)
over_stands d c j s over = go (is_late (slot_at c j.slot) j s)
  where
    go : (b : Bool) → Stands c j (cond b (Ended Late) (begun d (slot_at c j.slot) j s))
    go true = λ some. absurd (grind arith)
    go false = rw (begun_stays d (slot_at c j.slot) j s (grind arith)) (λ some. absurd (grind arith))

-- ---- the half step

-- a controller, and that it only restores
abbrev Keeps : ControllerState → ControllerState → Type 0
Keeps c r = (r.waiting ≡ c.waiting) × CurrentRestores r r.current

asked_keeps : (c : ControllerState) (j : Job) (r : Stage) → Stands c j r → (o : Option Target) → target_of j r ≡ o → Keeps c (after_asking (asking c j r) j r (option_map (access_at (swap_of j r)) o))
asked_keeps c j r h None e = (refl, tt)
asked_keeps c j r h (Some t) e = (refl, h (ap is_none e))

asking_stands : (d : Directory) (c : ControllerState) (j : Job) (s : Stage) → CurrentRestores c (Asking j s) → Stands c j (resumed d (slot_at c j.slot) j s)
asking_stands d c j s (inl over) = over_stands d c j s over
asking_stands d c j s (inr r) = stands d c j s (owns (slot_at c j.slot) j s r)

asking_keeps : (now : ℕ) (d : Directory) (c : ControllerState) (j : Job) (s : Stage) → CurrentRestores c (Asking j s) → Keeps c (after_answer (ready now d (asking c j s)))
asking_keeps now d c j s r = asked_keeps c j (resumed d (slot_at c j.slot) j s) (asking_stands d c j s r) (target_of j (resumed d (slot_at c j.slot) j s)) refl

idle_keeps : (now : ℕ) (d : Directory) (c : ControllerState) → Picks now d c ⊎ Rests now d c → Keeps c (after_answer (ready now d (idle c)))
idle_keeps now d c (inl p) = subst (λ (r : ControllerState). Keeps c (after_answer r)) (sym p.ready)
    (asking_keeps now d c (restoring_job p.slot p.holds.connection p.holds.flow) Begin (inr (rw p.holds.is (refl, (λ e. absurd (grind arith))))))
idle_keeps now d c (inr r) = subst (λ (x : ControllerState). Keeps c (after_answer x)) (sym r.ready) (refl, tt)

pub turn_keeps : (words : Target → ℕ) (now : ℕ) (d : Directory) (c : ControllerState) (current : Current) → now < d.over_at → waiting_break c ≡ None → CurrentRestores c current
    → Keeps c (after_half_step words now d (record c { current = current }))
turn_keeps words now d c Nothing lt none r = idle_keeps now d c (picks now d c none lt)
turn_keeps words now d c (Asking j s) lt none r = asking_keeps now d c j s r
turn_keeps words now d c (Hearing j s) lt none r = (refl, inr (again (owns (slot_at c j.slot) j s r.1) r.0))
  where
    again : (o : Owns (slot_at c j.slot) j s) → has_begun s ≡ true → IsRestoringOf (slot_at c j.slot) j (hear j s (answer_of words j s))
    again o b = kept (slot_at c j.slot) j s (hear j s (answer_of words j s)) o (o.own b)
turn_keeps words now d c (Overtaken i o) lt none r = (refl, tt)

pub turn_restores : (words : Target → ℕ) (now : ℕ) (d : Directory) (c : ControllerState) → now < d.over_at → OnlyRestores c → OnlyRestores (after_half_step words now d c)
turn_restores words now d c lt r = result (turn_keeps words now d c c.current lt r.no_break r.current)
  where
    result : Keeps c (after_half_step words now d c) → OnlyRestores (after_half_step words now d c)
    result k = record { no_break = ap (position is_break) k.0 ∙ r.no_break; current = k.1 }
