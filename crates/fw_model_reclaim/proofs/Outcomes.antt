-- How a restoring in its own second ends.
use Rattle.fw_model_reclaim.proofs.Common.{◌≡◌, inl, ℕ, false, Option, Some, None, List, [], ◌∷◌, refl, sym}
use Rattle.fw_model_reclaim.proofs.Common.{ap, subst, ◌∙◌, arith, Account, Connection, Flow, Restoring, Current, Nothing, Asking, Hearing}
use Rattle.fw_model_reclaim.proofs.Common.{
  Overtaken,
  Directory,
  WaitingJob,
  Job,
  Access,
  Stage,
  Begin,
  Made,
  ControllerState,
  slot_at,
  IsHeard,
  restoring_job,
  StageFits,
  access_of,
  resumed,
  takes_next,
}
use Rattle.fw_model_reclaim.proofs.Common.{to_restore, MatchesFor, IsOnCourse, CurrentMatches, CurrentCourse}
use Rattle.fw_cmp.specs.declared.outcome.Next.{Next}
use Rattle.fw_cmp.specs.declared.outcome.Next.TheVariants.{End}
use Rattle.fw_cmp_jobs.specs.declared.outcome.Outcome.{Outcome}
use Rattle.fw_cmp_jobs.specs.declared.outcome.Outcome.TheVariants.{Restored}
use Rattle.fw_cmp_jobs.specs.Requests.{addressee_of}
use Rattle.fw_cmp.specs.Turns.{answer_of, asks_or_ends, sending, rests}
use Rattle.fw_cmp_jobs.specs.Jobs.{outcome_of}
use Rattle.fw_model_reclaim.specs.Whole.{EndsRestored, is_overtaken}
use Rattle.fw_model_reclaim.proofs.Nexts.{same_slots, going_at}
use Rattle.fw_model_reclaim.proofs.Picks.{Picks, Rests, Takes, picks}
use Rattle.fw_model_reclaim.proofs.Safe.{TurnsInSecond, restores_it, on_course, own_made}

-- a job that has made the connection again says so
made_restored : (now k : ℕ) (j : Job) (t : Stage) (conn : Connection) (f : Flow) → j ≡ restoring_job k conn f → t ≡ Made f → outcome_of now j t ≡ Restored f.channel
made_restored now k j t conn f is made = ap (λ x. outcome_of now j x) made ∙ ap (λ (y : Job). outcome_of now y (Made f)) is

never_ends : (o : Option ℕ) (a : Access) (i : ℕ) (n : Outcome) → sending o a ≡ End i n → ⊥
never_ends None a i n e = grind (arith, e)
never_ends (Some to) a i n e = grind (arith, e)

-- a job at the stage from which it goes on, in a controller with the slots of c
asked_ends : (l : Account) (now : ℕ) (d : Directory) (c p : ControllerState) (j : Job) (s : Stage) (i : ℕ) (n : Outcome) (conn : Connection) (f : Flow) → TurnsInSecond l now d c → p.slots ≡ c.slots
    → MatchesFor j.purpose j (slot_at c j.slot) → StageFits j s → (j ≡ restoring_job j.slot conn f → slot_at c j.slot ≡ Restoring conn f false → IsOnCourse f s) → slot_at c i ≡ Restoring conn f false
    → asks_or_ends now d j (resumed d (slot_at p j.slot) j s) (access_of j (resumed d (slot_at p j.slot) j s)) ≡ End i n → n ≡ Restored f.channel
asked_ends l now d c p j s i n conn f h same m fits on own e = go (access_of j t) refl e
  where
    t : Stage
    t = resumed d (slot_at p j.slot) j s

    go : (o : Option Access) → access_of j t ≡ o → asks_or_ends now d j t o ≡ End i n → n ≡ Restored f.channel
    go None none e =
        let at : j.slot ≡ i = grind (arith, e) in
        let out : outcome_of now j t ≡ n = grind (arith, e) in
        let here : slot_at c j.slot ≡ Restoring conn f false = ap (slot_at c) at ∙ own in
        let is = restores_it j j.purpose (slot_at c j.slot) conn f false m here in
        let made = own_made d j j.slot (slot_at p j.slot) conn f s is.1 (same_slots c p j.slot same ∙ here) (h.meets.reached j.slot conn f here) fits (on is.1 here) none in
        sym out ∙ made_restored now j.slot j t conn f is.1 made.0
    go (Some a) some e = absurd (never_ends (addressee_of d a.target) a i n e)

resting_ends : (d : Directory) (w : List WaitingJob) (i : ℕ) (n : Outcome) → rests d w ≡ End i n → ⊥
resting_ends d [] i n e = grind (arith, e)
resting_ends d (t ∷ ts) i n e = grind (arith, e)

picked_ends : (l : Account) (now : ℕ) (d : Directory) (c p : ControllerState) (i : ℕ) (n : Outcome) (conn : Connection) (f : Flow) → TurnsInSecond l now d c → slot_at c i ≡ Restoring conn f false
    → Picks l c p → answer_of now d (going_at p d p.current) ≡ End i n → n ≡ Restored f.channel
picked_ends l now d c p i n conn f h own (Rests e same fewer) ends = absurd (resting_ends d p.waiting i n (subst (λ x. answer_of now d (going_at p d x) ≡ End i n) e ends))
picked_ends l now d c p i n conn f h own (Takes j e same m course fewer broken) ends =
    asked_ends l now d c p j Begin i n conn f h same m tt (λ is at. tt) own (subst (λ x. answer_of now d (going_at p d x) ≡ End i n) e ends)

pub ends_restored : (l : Account) (now : ℕ) (d : Directory) (c : ControllerState) → TurnsInSecond l now d c → EndsRestored now d c
ends_restored l now d c h i n conn f own mine ends = go c.current refl h.meets.heard h.meets.restores.matches mine ends
  where
    answer : ControllerState → Next
    answer p = answer_of now d (going_at p d p.current)

    go : (x : Current) → c.current ≡ x → IsHeard x → CurrentMatches c x → is_overtaken x ≡ false → answer (elim x as (λ y. ControllerState) [
      | Nothing ↦ takes_next (to_restore c) now d c
      | Asking j s ↦ c
      | Hearing j s ↦ c
      | Overtaken i o ↦ c
    ]) ≡ End i n → n ≡ Restored f.channel
    go Nothing e heard m mine ends = picked_ends l now d c (takes_next (to_restore c) now d c) i n conn f h own (picks l now d c e h.meets.breaks h.meets.early) ends
    go (Asking j s) e heard m mine ends = asked_ends l now d c c j s i n conn f h refl m (h.stage j s (inl e))
        (λ is at. on_course j j.slot (slot_at c j.slot) conn f s is at (subst (λ x. CurrentCourse c x) e (h.meets.restores.course h.runs))) own
        (subst (λ x. answer_of now d (going_at c d x) ≡ End i n) e ends)
    go (Hearing j s) e heard m mine ends = absurd heard
    go (Overtaken k o) e heard m mine ends = absurd (grind (arith, mine))
