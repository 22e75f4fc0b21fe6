-- Every controller with a slot to be restored: it makes progress within eight half steps of its own, or waits.
use Rattle.fw_model_rounds.proofs.Common.{
  ◌≡◌,
  ℕ,
  ◌<◌,
  Bool,
  true,
  false,
  Some,
  None,
  is_none,
  refl,
  sym,
  subst,
  arith,
  ◌⊎◌,
  inl,
  inr,
  Connection,
  Flow,
  Slot,
  Free,
  Making,
  Established,
  Restoring,
  Gone,
}
use Rattle.fw_model_rounds.proofs.Common.{
  Current,
  Nothing,
  Asking,
  Hearing,
  Overtaken,
  Directory,
  HeldResources,
  Job,
  Target,
  Stage,
  Begin,
  ControllerState,
  slot_at,
  is_restoring,
  CurrentFits,
  restoring_job,
}
use Rattle.fw_model_rounds.proofs.Common.{target_of, waiting_break, IsNear, has_begun, IsWithin, IsRestoringOf, CurrentRestores, Waits}
use Rattle.fw_cmp_jobs.specs.declared.outcome.Outcome.{Outcome}
use Rattle.fw_cmp.specs.Holdings.{pending_at}
use Rattle.fw_model_rounds.specs.HalfSteps.{CurrentKnows, JobKnows}
use Rattle.fw_model_rounds.proofs.Near.{near}
use Rattle.fw_model_rounds.proofs.Progress.{IsJobOf, restoring, begun_progress, begin_progress, idle_progress, old_progress, near_request}
use Rattle.fw_model_rounds.proofs.Slots.{idle}
use Rattle.fw_model_rounds.proofs.Stages.{begins, looks, holds, Holds}
use Rattle.fw_model_rounds.proofs.Within.{asking, hearing, within_more, near_within, twice}

-- ---- the slot that a job restores

pub record Owns (slot : Slot) (j : Job) (s : Stage) : Type 0 where
  pub connection : Connection
  pub flow : Flow
  pub over : Bool
  pub is : slot ≡ Restoring connection flow over
  pub job : j ≡ restoring_job j.slot connection flow
  pub own : has_begun s ≡ true → over ≡ false

pub owns : (slot : Slot) (j : Job) (s : Stage) → IsRestoringOf slot j s → Owns slot j s
owns Free j s i = absurd i
owns (Making conn asked overhead) j s i = absurd i
owns (Established conn f) j s i = absurd i
owns (Restoring conn f over) j s i = record { connection = conn; flow = f; over = over; is = refl; job = i.0; own = i.1 }
owns (Gone conn) j s i = absurd i

-- a job that has begun restores a slot in its own second
own_job : (c : ControllerState) (j : Job) (s : Stage) (o : Owns (slot_at c j.slot) j s) → has_begun s ≡ true → IsJobOf c j o.connection o.flow
own_job c j s o b = record { slot = subst (λ (e : Bool). slot_at c j.slot ≡ Restoring o.connection o.flow e) (o.own b) o.is; job = o.job }

-- ---- a current job

near_asking : (words : Target → ℕ) (now : ℕ) (d : Directory) (c : ControllerState) (j : Job) (s : Stage) → is_restoring (slot_at c j.slot) ≡ true → IsNear 3 words j s
    → IsWithin 7 words now d (asking c j s)
unfolding twice
near_asking words now d c j s is h = near_within 3 words now d c j s is h

asking_progress : (words : Target → ℕ) (now : ℕ) (d : Directory) (c : ControllerState) (j : Job) (s : Stage) → CurrentFits c (Asking j s) → JobKnows words j s → Owns (slot_at c j.slot) j s
    → IsWithin 8 words now d (asking c j s) ⊎ Waits words c
asking_progress words now d c j s f k o = go (has_begun s) refl
  where
    begin : IsWithin 7 words now d (asking c j Begin) ⊎ Waits words c → IsWithin 8 words now d (asking c j Begin) ⊎ Waits words c
    begin (inl h) = inl (within_more 7 words now d _ h)
    begin (inr w) = inr w

    near_is : has_begun s ≡ true → IsNear 3 words j s ⊎ Waits words c → IsWithin 8 words now d (asking c j s) ⊎ Waits words c
    near_is b (inl h) = inl (within_more 7 words now d _ (near_asking words now d c j s (rw o.is refl) h))
    near_is b (inr w) = inr w

    go : (b : Bool) → has_begun s ≡ b → IsWithin 8 words now d (asking c j s) ⊎ Waits words c
    go true e = near_is e (begun_progress words now d c j s o.connection o.flow (own_job c j s o e) (looks j s f.stage) k e)
    go false e = subst (λ (t : Stage). IsWithin 8 words now d (asking c j t) ⊎ Waits words c) (sym (begins s e)) (begin (begin_progress words now d c j o.connection o.flow o.over o.is o.job))

hearing_progress : (words : Target → ℕ) (now : ℕ) (d : Directory) (c : ControllerState) (j : Job) (s : Stage) → CurrentFits c (Hearing j s) → JobKnows words j s → Owns (slot_at c j.slot) j s
    → has_begun s ≡ true → is_none (target_of j s) ≡ false → IsWithin 8 words now d (hearing c j s) ⊎ Waits words c
hearing_progress words now d c j s f k o b some = go (begun_progress words now d c j s o.connection o.flow (own_job c j s o b) (looks j s f.stage) k b)
  where
    go : IsNear 3 words j s ⊎ Waits words c → IsWithin 8 words now d (hearing c j s) ⊎ Waits words c
    go (inl h) = inl (within_more 7 words now d _ (within_more 6 words now d _ (near_request words now d c j s (rw o.is refl) h some)))
    go (inr w) = inr w

-- ---- every controller

still_waits : (words : Target → ℕ) (c : ControllerState) (current : Current) → Waits words c → Waits words (record c { current = current })
still_waits words c current w = record { slot = w.slot; connection = w.connection; flow = w.flow; is = w.is; waits = w.waits }

pub progress : (words : Target → ℕ) (now : ℕ) (d : Directory) (c : ControllerState) (current : Current) (i : ℕ) → now < d.over_at → waiting_break c ≡ None → CurrentFits c current
    → CurrentRestores c current → CurrentKnows words current → i < 32 → is_restoring (slot_at c i) ≡ true
    → IsWithin 8 words now d (record c { current = current }) ⊎ Waits words (record c { current = current })
unfolding IsWithin
progress words now d c current i lt none f r k below is = go current f r k
  where
    result : (current : Current) → IsWithin 8 words now d (record c { current = current }) ⊎ Waits words c
        → IsWithin 8 words now d (record c { current = current }) ⊎ Waits words (record c { current = current })
    result current (inl h) = inl h
    result current (inr w) = inr (still_waits words c current w)

    idle_is : IsWithin 7 words now d (idle c) ⊎ Waits words c → IsWithin 8 words now d (idle c) ⊎ Waits words c
    idle_is (inl h) = inl (within_more 7 words now d (idle c) h)
    idle_is (inr w) = inr w

    -- the outcome is written first
    overtaken : (k : ℕ) (o : Outcome) → IsWithin 7 words now d (idle c) ⊎ Waits words c → IsWithin 8 words now d (record c { current = Overtaken k o }) ⊎ Waits words c
    overtaken k o (inl h) = inl (inr h)
    overtaken k o (inr w) = inr w

    asked : (j : Job) (s : Stage) → CurrentFits c (Asking j s) → CurrentRestores c (Asking j s) → JobKnows words j s → IsWithin 8 words now d (asking c j s) ⊎ Waits words c
    asked j s f (inl over) k = old_progress words now d c j s i lt none below is over
    asked j s f (inr r) k = asking_progress words now d c j s f k (owns (slot_at c j.slot) j s r)

    go : (current : Current) → CurrentFits c current → CurrentRestores c current → CurrentKnows words current
        → IsWithin 8 words now d (record c { current = current }) ⊎ Waits words (record c { current = current })
    go Nothing f r k = result Nothing (idle_is (idle_progress words now d c i lt none below is))
    go (Asking j s) f r k = result (Asking j s) (asked j s f r k)
    go (Hearing j s) f r k = result (Hearing j s) (hearing_progress words now d c j s f k (owns (slot_at c j.slot) j s r.1) r.0 r.2)
    go (Overtaken x o) f r k = result (Overtaken x o) (overtaken x o (idle_progress words now d c i lt none below is))

-- ---- a controller that holds a channel does not wait

holder_near : (words : Target → ℕ) (c : ControllerState) (j : Job) (s : Stage) → Holds j s → JobKnows words j s → Owns (slot_at c j.slot) j s → IsNear 3 words j s
holder_near words c j s h k o = near words j o.flow.channel s (restoring words c j s o.connection o.flow (own_job c j s o h.begun) k) h.begun (grind (arith, h.looking))

pub holder_progress : (words : Target → ℕ) (now : ℕ) (d : Directory) (c : ControllerState) (current : Current) (h : HeldResources) → CurrentFits c current → CurrentRestores c current
    → CurrentKnows words current → pending_at current ≡ Some h → IsWithin 8 words now d (record c { current = current })
holder_progress words now d c Nothing h f r k e = grind arith
holder_progress words now d c (Asking j s) h f (inl over) k e = absurd (grind (arith, (holds j s h f.stage e).asks))
holder_progress words now d c (Asking j s) h f (inr r) k e =
    let o = owns (slot_at c j.slot) j s r in
    within_more 7 words now d _ (near_asking words now d c j s (rw o.is refl) (holder_near words c j s (holds j s h f.stage e) k o))
holder_progress words now d c (Hearing j s) h f r k e =
    let o = owns (slot_at c j.slot) j s r.1 in
    within_more 7 words now d _ (within_more 6 words now d _ (near_request words now d c j s (rw o.is refl) (holder_near words c j s (holds j s h f.stage e) k o) r.2))
holder_progress words now d c (Overtaken i o) h f r k e = grind arith
