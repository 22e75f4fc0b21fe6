-- A controller with a slot to be restored makes progress within eight half steps of its own, or waits for another.
use Rattle.fw_model_rounds.proofs.Common.{◌≡◌, ◌≢◌, ℕ, ◌<◌, Bool, true, false, Option, Some, None, is_none, refl, ap}
use Rattle.fw_model_rounds.proofs.Common.{sym, subst, ◌∙◌, arith, ◌⊎◌, inl, inr, cond, cases_eq, is_connected, Connection, Flow}
use Rattle.fw_model_rounds.proofs.Common.{Slot, Free, Restoring, Directory, Job, Late, Purpose, Make, Restore, Break, Target, Stage, Begin, ReadOutput, ReadInput, Ended, is_listen, slice_index_or}
use Rattle.fw_model_rounds.proofs.Common.{ControllerState, slot_at, is_restoring, restoring_job, restores, target_of, after_answer, begun, is_late, waiting_break, resumed, IsNear, has_begun, is_over}
use Rattle.fw_model_rounds.proofs.Common.{is_waiting, output_word, is_channel_free, IsWithin, Waits}
use Rattle.fw_cmp_jobs.specs.declared.job.Ending.TheVariants.{Absent}
use Rattle.std.specs.Prelude.{slice_set}
use Rattle.fw_cmp.specs.Turns.{slot_after}
use Rattle.fw_cmp_jobs.specs.Jobs.{begin, begin_making, begin_breaking, begin_present, begin_managed, absent_of, own_flow}
use Rattle.fw_model_rounds.specs.Distance.{IsRestoring, is_looking}
use Rattle.fw_model_rounds.specs.HalfSteps.{ends_restoring, JobKnows}
use Rattle.fw_model_rounds.proofs.Near.{near}
use Rattle.fw_model_rounds.proofs.Slots.{picks, Picks, Rests, idle, asks, other_item, none_restored}
use Rattle.fw_model_rounds.proofs.Stages.{begun_stays}
use Rattle.fw_model_rounds.proofs.ToCome.{after_restores}
use Rattle.fw_model_rounds.proofs.Within.{asking, hearing, Ready, ready_within, requests, resumes, hearing_within, twice}

-- ---- the job of a slot

-- a restoring of a slot, with what the account says of it
pub record IsJobOf (c : ControllerState) (j : Job) (conn : Connection) (f : Flow) : Type 0 where
  pub slot : slot_at c j.slot ≡ Restoring conn f false
  pub job : j ≡ restoring_job j.slot conn f

pub restores_is : (c : ControllerState) (j : Job) (conn : Connection) (f : Flow) → IsJobOf c j conn f → is_restoring (slot_at c j.slot) ≡ true
restores_is c j conn f o = rw o.slot refl

pub restoring : (words : Target → ℕ) (c : ControllerState) (j : Job) (s : Stage) (conn : Connection) (f : Flow) → IsJobOf c j conn f → JobKnows words j s → IsRestoring words j f.channel s
restoring words c j s conn f o k = record { restores = ap restores o.job; asked = ap (λ (x : Job). x.asked) o.job; keeps = k.1 f.channel (ap (λ (x : Job). x.asked) o.job); plug = k.0 }

-- it waits
waits : (words : Target → ℕ) (c : ControllerState) (j : Job) (s : Stage) (conn : Connection) (f : Flow) → IsJobOf c j conn f → is_listen j.connection ≡ false → is_waiting words j f.channel s ≡ true
    → Waits words c
waits words c j s conn f o listens is = record {
  slot = j.slot;
  connection = conn;
  flow = f;
  is = o.slot;
  waits = (sym (ap (λ (x : Job). is_listen x.connection) o.job) ∙ listens, sym (ap (λ (x : Job). is_connected (output_word words x)) o.job) ∙ open_plug, taken);
}
  where
    open_plug : is_connected (output_word words j) ≡ false
    open_plug = grind arith

    taken : is_channel_free words f.channel ≡ false
    taken = grind arith

-- the current job has begun
pub begun_progress : (words : Target → ℕ) (now : ℕ) (d : Directory) (c : ControllerState) (j : Job) (s : Stage) (conn : Connection) (f : Flow) → IsJobOf c j conn f
    → (is_looking s ≡ true → is_listen j.connection ≡ false) → JobKnows words j s → has_begun s ≡ true → IsNear 3 words j s ⊎ Waits words c
begun_progress words now d c j s conn f o fits k b = go (is_waiting words j f.channel s) refl
  where
    go : (w : Bool) → is_waiting words j f.channel s ≡ w → IsNear 3 words j s ⊎ Waits words c
    go true e = inr (waits words c j s conn f o (fits (grind arith)) e)
    go false e = inl (near words j f.channel s (restoring words c j s conn f o k) b e)

-- ---- a restoring that has not begun

-- a stage whose request is near its success
pub near_request : (words : Target → ℕ) (now : ℕ) (d : Directory) (c : ControllerState) (j : Job) (s : Stage) → is_restoring (slot_at c j.slot) ≡ true → IsNear 3 words j s
    → is_none (target_of j s) ≡ false → IsWithin 6 words now d (hearing c j s)
unfolding twice
near_request words now d c j s is h some = hearing_within 2 words now d c j s is some h

begin_ready : (words : Target → ℕ) (now : ℕ) (d : Directory) (c : ControllerState) (j : Job) (conn : Connection) (f : Flow) → IsJobOf c j conn f
    → (is_listen j.connection ≡ false → is_waiting words j f.channel ReadOutput ≡ false) → Ready 6 words now d c j (begin d (slot_at c j.slot) j)
begin_ready words now d c j conn f o free = requests 6 words now d c j (begin d (slot_at c j.slot) j) (restores_is c j conn f o) (start j.purpose (ap (λ (x : Job). x.purpose) o.job))
  where
    Goes : Stage → Type 0
    Goes r = is_none (target_of j r) ≡ false → IsWithin 6 words now d (hearing c j r)

    from : (s : Stage) → JobKnows words j s → has_begun s ≡ true → is_waiting words j f.channel s ≡ false → Goes s
    from s k b w some = near_request words now d c j s (restores_is c j conn f o) (near words j f.channel s (restoring words c j s conn f o k) b w) some

    managed : is_listen j.connection ≡ false → (m : Option ℕ) → Goes (begin_managed m)
    managed e None some = grind arith
    managed e (Some n) some = from ReadOutput (tt, (λ ch x. tt)) refl (free e) some

    present : (b : Bool) → is_listen j.connection ≡ b → Goes (cond b (ReadInput (own_flow j)) (begin_managed d.manager))
    present true e some = from (ReadInput (own_flow j)) (tt, (λ ch x. tt)) refl refl some
    present false e some = managed e d.manager some

    making : (m : Option ℕ) → Goes (elim m [ Some device ↦ Ended (Absent device) | None ↦ begin_present d j ])
    making (Some device) some = grind arith
    making None some = present (is_listen j.connection) refl some

    start : (p : Purpose) → p ≡ Restore → Goes (elim p [ Make ↦ begin_making d j | Restore ↦ begin_making d j | Break ↦ begin_breaking (slot_at c j.slot) ])
    start Make e = making (absent_of d j.connection)
    start Restore e = making (absent_of d j.connection)
    start Break e = absurd (grind (arith, e))

-- the job of a slot that has not begun; if the slot's own second is over it ends
pub begin_progress : (words : Target → ℕ) (now : ℕ) (d : Directory) (c : ControllerState) (j : Job) (conn : Connection) (f : Flow) (over : Bool) → slot_at c j.slot ≡ Restoring conn f over
    → j ≡ restoring_job j.slot conn f → IsWithin 7 words now d (asking c j Begin) ⊎ Waits words c
begin_progress words now d c j conn f true is own = inl (resumes 6 words now d c j Begin (rw is refl) (λ e. absurd (late e)))
  where
    late : is_late (slot_at c j.slot) j Begin ≡ false → ⊥
    late e =
        let r : restores j ≡ true = ap restores own in
        let l : is_late (Restoring conn f true) j Begin ≡ false = rw is at e in
        grind arith
begin_progress words now d c j conn f false is own = go (is_listen j.connection) refl (is_waiting words j f.channel ReadOutput) refl
  where
    o : IsJobOf c j conn f
    o = record { slot = is; job = own }

    free : (is_listen j.connection ≡ false → is_waiting words j f.channel ReadOutput ≡ false) → IsWithin 7 words now d (asking c j Begin)
    free e = resumes 6 words now d c j Begin (restores_is c j conn f o) (λ late. begin_ready words now d c j conn f o e)

    go : (b : Bool) → is_listen j.connection ≡ b → (w : Bool) → is_waiting words j f.channel ReadOutput ≡ w → IsWithin 7 words now d (asking c j Begin) ⊎ Waits words c
    go true e w x = inl (free (λ n. absurd (grind arith)))
    go false e true x = inr (waits words c j ReadOutput conn f o e x)
    go false e false x = inl (free (λ n. x))

-- ---- a controller with no current job

pub idle_progress : (words : Target → ℕ) (now : ℕ) (d : Directory) (c : ControllerState) (i : ℕ) → now < d.over_at → waiting_break c ≡ None → i < 32 → is_restoring (slot_at c i) ≡ true
    → IsWithin 7 words now d (idle c) ⊎ Waits words c
unfolding IsWithin
idle_progress words now d c i lt none below is = go (picks now d c none lt)
  where
    same : (p : Picks now d c) → IsWithin 7 words now d (asks c (restoring_job p.slot p.holds.connection p.holds.flow)) → IsWithin 7 words now d (idle c)
    same p h = subst (λ (r : ControllerState). (ends_restoring r ≡ true) ⊎ IsWithin 6 words now d (after_answer r)) (sym p.ready) h

    picked_is : (p : Picks now d c) → IsWithin 7 words now d (asks c (restoring_job p.slot p.holds.connection p.holds.flow)) ⊎ Waits words c → IsWithin 7 words now d (idle c) ⊎ Waits words c
    picked_is p (inl h) = inl (same p h)
    picked_is p (inr w) = inr w

    go : Picks now d c ⊎ Rests now d c → IsWithin 7 words now d (idle c) ⊎ Waits words c
    go (inl p) = picked_is p (begin_progress words now d c (restoring_job p.slot p.holds.connection p.holds.flow) p.holds.connection p.holds.flow p.holds.over p.holds.is refl)
    go (inr r) = absurd (grind (arith, r.none i below))

-- ---- a job that ended before the reset: its outcome first

-- another slot than the one whose job ends
waits_still : (words : Target → ℕ) (c : ControllerState) (k : ℕ) (v : Slot) → is_restoring v ≡ false → Waits words (record c { slots = slice_set c.slots k v }) → Waits words c
waits_still words c k v none w = go (cases_eq w.slot k)
  where
    go : (w.slot ≡ k) ⊎ (w.slot ≢ k) → Waits words c
    go (inl e) = absurd (restored (ap is_restoring w.is))
      where
        restored : is_restoring (slice_index_or (slice_set c.slots k v) w.slot Free) ≡ true → ⊥
        restored is =
            let here : is_restoring (slice_index_or (slice_set c.slots k v) k Free) ≡ true = subst (λ (n : ℕ). is_restoring (slice_index_or (slice_set c.slots k v) n Free) ≡ true) e is in
            grind (arith, none_restored c.slots k v none)
    go (inr ne) = record { slot = w.slot; connection = w.connection; flow = w.flow; is = sym (other_item c.slots k w.slot v ne) ∙ w.is; waits = w.waits }

pub old_progress : (words : Target → ℕ) (now : ℕ) (d : Directory) (c : ControllerState) (j : Job) (s : Stage) (i : ℕ) → now < d.over_at → waiting_break c ≡ None → i < 32
    → is_restoring (slot_at c i) ≡ true → is_over j s ≡ true → IsWithin 8 words now d (asking c j s) ⊎ Waits words c
old_progress words now d c j s i lt none below is over = whole (late (is_late (slot_at c j.slot) j s))
  where
    Goes : Stage → Type 0
    Goes r = Ready 7 words now d c j r ⊎ Waits words c

    whole : Goes (resumed d (slot_at c j.slot) j s) → IsWithin 8 words now d (asking c j s) ⊎ Waits words c
    whole (inl r) = inl (ready_within 7 words now d c j s r)
    whole (inr w) = inr w

    after : Stage → ControllerState
    after r = record c { slots = slice_set c.slots j.slot (slot_after (asking c j r) j r) }

    there : (r : Stage) → is_restoring (slot_at c j.slot) ≡ false → is_restoring (slot_at (after r) i) ≡ true
    there r other = ap is_restoring (other_item c.slots j.slot i (slot_after (asking c j r) j r) (λ e. grind (arith, subst (λ (n : ℕ). is_restoring (slot_at c n) ≡ true) e is))) ∙ is

    result : (r : Stage) → is_restoring (slot_at c j.slot) ≡ false → target_of j r ≡ None → IsWithin 7 words now d (idle (after r)) ⊎ Waits words (after r) → Goes r
    result r other e (inl h) = inl (inr (rw e h))
    result r other e (inr w) = inr (waits_still words c j.slot (slot_after (asking c j r) j r) (after_restores (asking c j r) j r) w)

    ends : (r : Stage) (b : Bool) → is_restoring (slot_at c j.slot) ≡ b → target_of j r ≡ None → Goes r
    ends r true own e = inl (inl (rw (e, own) refl))
    ends r false own e = result r own e (idle_progress words now d (after r) i lt none below (there r own))

    none_is : (r : Stage) (o : Option Target) → target_of j r ≡ o → is_none o ≡ true → Goes r
    none_is r None e n = ends r (is_restoring (slot_at c j.slot)) refl e
    none_is r (Some t) e n = absurd (grind arith)

    late : (b : Bool) → Goes (cond b (Ended Late) (begun d (slot_at c j.slot) j s))
    late true = ends (Ended Late) (is_restoring (slot_at c j.slot)) refl refl
    late false = rw (begun_stays d (slot_at c j.slot) j s (grind arith)) (none_is s (target_of j s) refl (grind arith))
