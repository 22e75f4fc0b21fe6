-- While a slot is to be restored, eight rounds make progress.
use Rattle.fw_model_rounds.proofs.Common.{◌≡◌, ◌≢◌, ℕ, zero, suc, ◌+◌, ◌<◌, ◌≤◌, Bool, true, false, Some, List, []}
use Rattle.fw_model_rounds.proofs.Common.{◌∷◌, eqb, refl, ap, sym, ◌∙◌, arith, ◌⊎◌, inl, inr, cond, nat_tests, sum_to, Current}
use Rattle.fw_model_rounds.proofs.Common.{Nothing, Asking, Hearing, Overtaken, Directory, HeldResources, Job, Stage}
use Rattle.fw_model_rounds.proofs.Common.{ControllerState, slot_at, is_restoring, CurrentFits, to_come, of_slot, IsWithin, CurrentRestores}
use Rattle.fw_model_rounds.proofs.Common.{Waits, Situation, AccountSays, TakeHalfSteps, times, IsRound, all_to_come, AllRestore}
use Rattle.std.proofs.Common.{◌++◌, append_assoc}
use Rattle.std.specs.Prelude.{slice_get}
use Rattle.fw_terms.proofs.Tables.{sum_to_some, sum_to_at}
use Rattle.fw_cmp.specs.Holdings.{pending_at}
use Rattle.fw_model_rounds.specs.HalfSteps.{of_current}
use Rattle.fw_model_rounds.specs.Rounds.{IsHolder, rounds}
use Rattle.fw_model_rounds.proofs.Bound.{run_progress}
use Rattle.fw_model_rounds.proofs.Stages.{holds}
use Rattle.fw_model_rounds.proofs.ToCome.{of_job_some, at_slot}
use Rattle.fw_model_rounds.proofs.Lowering.{restores_slot}
use Rattle.fw_model_rounds.proofs.Controllers.{progress, holder_progress}

-- ---- lists

pub times_append : (k : ℕ) (xs ys : List ℕ) → times k (xs ++ ys) ≡ times k xs + times k ys
unfolding times
times_append k [] ys = omega arith
times_append k (a ∷ xs) ys = omega (arith, times_append k xs ys)

pub times_rounds : (k n : ℕ) (ks : List ℕ) → 0 < times k ks → n ≤ times k (rounds n ks)
unfolding rounds
times_rounds k zero ks some = omega arith
times_rounds k (suc n) ks some = omega (arith, times_append k ks (rounds n ks), times_rounds k n ks some)

pub rounds_plus : (n m : ℕ) (ks : List ℕ) → rounds (n + m) ks ≡ rounds n ks ++ rounds m ks
unfolding rounds
rounds_plus zero m ks = let e : 0 + m ≡ m = omega arith in rw e refl
rounds_plus (suc n) m ks = let e : suc n + m ≡ suc (n + m) = omega arith in rw e (ap (λ (x : List ℕ). ks ++ x) (rounds_plus n m ks) ∙ sym (append_assoc ks (rounds n ks) (rounds m ks)))

-- a member of a list stands in it
pub times_member : (k i : ℕ) (ks : List ℕ) → slice_get ks i ≡ Some k → 0 < times k ks
unfolding times
times_member k i [] e = absurd (grind arith)
times_member k zero (e ∷ ks) is = go (eqb e k) (grind (arith, nat_tests))
  where
    go : (b : Bool) → b ≡ true → 0 < cond b 1 0 + times k ks
    go true e = omega arith
    go false e = grind arith
times_member k (suc i) (e ∷ ks) is = omega (arith, times_member k i ks is)

-- ---- half steps one after another, cut in two

pub record Cut (now : ℕ) (d : Directory) (xs ys : List ℕ) (s t : Situation) : Type 0 where
  pub middle : Situation
  pub first : TakeHalfSteps now d xs s middle
  pub second : TakeHalfSteps now d ys middle t

pub cut : (now : ℕ) (d : Directory) (xs ys : List ℕ) (s t : Situation) → TakeHalfSteps now d (xs ++ ys) s t → Cut now d xs ys s t
unfolding TakeHalfSteps
cut now d [] ys s t h = record { middle = s; first = refl; second = h }
cut now d (a ∷ xs) ys s t h =
    let c = cut now d xs ys h.2.0 t h.2.2 in
    record { middle = c.middle; first = (h.0, h.1, (h.2.0, h.2.1, c.first)); second = c.second }

-- ---- who has something to come

restoring_slot : (c : ControllerState) → to_come c ≢ 0 → (i : ℕ) × (i < 32) × (is_restoring (slot_at c i) ≡ true)
restoring_slot c some = found (sum_to_some 32 (λ i. of_slot c.current i (slot_at c i)) some)
  where
    is : (i : ℕ) (b : Bool) → is_restoring (slot_at c i) ≡ b → cond b (of_current c.current i) 0 ≢ 0 → is_restoring (slot_at c i) ≡ true
    is i true e n = e
    is i false e n = absurd (n refl)

    found : (i : ℕ) × (i < 32) × (of_slot c.current i (slot_at c i) ≢ 0) → (i : ℕ) × (i < 32) × (is_restoring (slot_at c i) ≡ true)
    found f = (f.0, f.1, is f.0 (is_restoring (slot_at c f.0)) refl f.2)

job_some : (c : ControllerState) (j : Job) (s : Stage) → j.slot < 32 → is_restoring (slot_at c j.slot) ≡ true → 1 ≤ sum_to 32 (at_slot c j s)
job_some c j s lt is =
    let at : 1 ≤ at_slot c j s j.slot = rw is (of_job_some j s j.slot) in
    omega (arith, at, sum_to_at 32 j.slot (at_slot c j s) lt)

-- a holder restores a slot
holder_some : (c : ControllerState) (current : Current) (h : HeldResources) → CurrentFits c current → CurrentRestores c current → pending_at current ≡ Some h
    → 1 ≤ to_come (record c { current = current })
holder_some c Nothing h f r e = grind arith
holder_some c (Asking j s) h f (inl over) e = absurd (grind (arith, (holds j s h f.stage e).asks))
holder_some c (Asking j s) h f (inr r) e = job_some c j s f.job.slot (restores_slot (slot_at c j.slot) j s r).1
holder_some c (Hearing j s) h f r e = job_some c j s f.job.slot (restores_slot (slot_at c j.slot) j s r.1).1
holder_some c (Overtaken i o) h f r e = grind arith

-- ---- eight rounds

-- one of the round's controllers is within eight half steps of progress
pub record IsSomeoneNear (now : ℕ) (d : Directory) (ks : List ℕ) (s : Situation) : Type 0 where
  pub device : ℕ
  pub within : IsWithin 8 s.words now d (s.at device)
  pub takes_part : 0 < times device ks

holder_is : (now : ℕ) (d : Directory) (ks : List ℕ) (s : Situation) (h : ℕ) → AllRestore s → AccountSays s → IsRound ks s → IsHolder s h → IsSomeoneNear now d ks s
holder_is now d ks s h r a round i =
    let c = s.at h in
    let f = (a.fits h i.device).current in
    let own = (r h i.device).current in
    record {
      device = h;
      within = holder_progress s.words now d c c.current i.held f own (a.knows h i.device) i.pending;
      takes_part = round h i.device (holder_some c c.current i.held f own i.pending);
    }

someone_is_near : (now : ℕ) (d : Directory) (ks : List ℕ) (s : Situation) → now < d.over_at → AllRestore s → AccountSays s → IsRound ks s → all_to_come s ≢ 0 → IsSomeoneNear now d ks s
someone_is_near now d ks s lt r a round some = found (sum_to_some 63 (λ k. to_come (s.at k)) some)
  where
    go : (k : ℕ) → k < 63 → to_come (s.at k) ≢ 0 → IsWithin 8 s.words now d (s.at k) ⊎ Waits s.words (s.at k) → IsSomeoneNear now d ks s
    go k lt some (inl w) = record { device = k; within = w; takes_part = round k lt (omega arith) }
    go k lt some (inr w) = let h = a.holder k lt w in holder_is now d ks s h.0 r a round h.1

    found : (k : ℕ) × (k < 63) × (to_come (s.at k) ≢ 0) → IsSomeoneNear now d ks s
    found f =
        let slot = restoring_slot (s.at f.0) f.2 in
        go f.0 f.1 f.2 (progress s.words now d (s.at f.0) (s.at f.0).current slot.0 lt (r f.0 f.1).no_break (a.fits f.0 f.1).current (r f.0 f.1).current (a.knows f.0 f.1) slot.1 slot.2)

pub eight_rounds : (now : ℕ) (d : Directory) (ks : List ℕ) (s t : Situation) → now < d.over_at → AllRestore s → AccountSays s → IsRound ks s → all_to_come s ≢ 0 → TakeHalfSteps now d (rounds 8 ks) s t
    → all_to_come t + 1 ≤ all_to_come s
eight_rounds now d ks s t lt r a round some h =
    let n = someone_is_near now d ks s lt r a round some in
    run_progress now d (rounds 8 ks) 8 n.device s t lt r n.within (times_rounds n.device 8 ks n.takes_part) h
