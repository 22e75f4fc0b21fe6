-- A controller whose job is near makes progress within so many half steps of its own.
use Rattle.fw_model_rounds.proofs.Common.{◌≡◌, ℕ, zero, suc, Bool, true, false, Option, Some, None, is_none, refl, ap}
use Rattle.fw_model_rounds.proofs.Common.{arith, ◌⊎◌, inl, inr, cond, ◌&&◌, ◌||◌, option_map, Asking, Hearing, Directory, Job}
use Rattle.fw_model_rounds.proofs.Common.{Late, Target, Stage, Ended, ControllerState, slot_at, is_restoring, target_of, swap_of}
use Rattle.fw_model_rounds.proofs.Common.{access_at, hear, after_asking, resumed, begun, is_late, IsNear, answer_of}
use Rattle.fw_model_rounds.proofs.Common.{succeeds, has_begun, is_over, IsWithin}
use Rattle.fw_model_rounds.proofs.Stages.{begun_stays}

-- a controller with its current job at a stage: the next request not made, or standing
abbrev pub asking : ControllerState → Job → Stage → ControllerState
asking c j s = record c { current = Asking j s }

abbrev pub hearing : ControllerState → Job → Stage → ControllerState
hearing c j s = record c { current = Hearing j s }

unfoldable pub twice : ℕ → ℕ
twice zero = zero
twice (suc n) = suc (suc (twice n))

pub within_more : (n : ℕ) (words : Target → ℕ) (now : ℕ) (d : Directory) (c : ControllerState) → IsWithin n words now d c → IsWithin (suc n) words now d c
unfolding IsWithin
within_more zero words now d c i = absurd i
within_more (suc n) words now d c (inl e) = inl e
within_more (suc n) words now d c (inr i) = inr (within_more n words now d _ i)

-- ---- the job goes on from this stage: it ends, or its request is outstanding

-- what makes a controller near that is ready with its job at a stage
abbrev pub Ready : ℕ → (Target → ℕ) → ℕ → Directory → ControllerState → Job → Stage → Type 0
Ready m words now d c j r = ((is_none (target_of j r) && is_restoring (slot_at c j.slot)) ≡ true)
    ⊎ IsWithin m words now d (after_asking (asking c j r) j r (option_map (access_at (swap_of j r)) (target_of j r)))

pub ready_within : (m : ℕ) (words : Target → ℕ) (now : ℕ) (d : Directory) (c : ControllerState) (j : Job) (s : Stage) → Ready m words now d c j (resumed d (slot_at c j.slot) j s)
    → IsWithin (suc m) words now d (asking c j s)
unfolding IsWithin
ready_within m words now d c j s r = r

-- the request of the stage is made, unless the restoring ends
pub requests : (m : ℕ) (words : Target → ℕ) (now : ℕ) (d : Directory) (c : ControllerState) (j : Job) (r : Stage) → is_restoring (slot_at c j.slot) ≡ true
    → (is_none (target_of j r) ≡ false → IsWithin m words now d (hearing c j r)) → Ready m words now d c j r
requests m words now d c j r is then = go (target_of j r) refl
  where
    go : (o : Option Target) → target_of j r ≡ o → ((is_none o && is_restoring (slot_at c j.slot)) ≡ true)
        ⊎ IsWithin m words now d (after_asking (asking c j r) j r (option_map (access_at (swap_of j r)) o))
    go None e = inl is
    go (Some t) e = inr (then (ap is_none e))

-- if the slot's own second is over the restoring ends at once
pub resumes : (m : ℕ) (words : Target → ℕ) (now : ℕ) (d : Directory) (c : ControllerState) (j : Job) (s : Stage) → is_restoring (slot_at c j.slot) ≡ true
    → (is_late (slot_at c j.slot) j s ≡ false → Ready m words now d c j (begun d (slot_at c j.slot) j s)) → IsWithin (suc m) words now d (asking c j s)
resumes m words now d c j s is then = ready_within m words now d c j s (go (is_late (slot_at c j.slot) j s) refl)
  where
    go : (b : Bool) → is_late (slot_at c j.slot) j s ≡ b → Ready m words now d c j (cond b (Ended Late) (begun d (slot_at c j.slot) j s))
    go true e = inl is
    go false e = then e

-- ---- a job that is near

heard_within : (n m : ℕ) (words : Target → ℕ) (now : ℕ) (d : Directory) (c : ControllerState) (j : Job) (s : Stage) → IsNear (suc n) words j s → is_none (target_of j s) ≡ false
    → (IsNear n words j (hear j s (answer_of words j s)) → IsWithin m words now d (asking c j (hear j s (answer_of words j s)))) → IsWithin (suc m) words now d (hearing c j s)
unfolding IsNear IsWithin
heard_within n m words now d c j s h some then = go h.1
  where
    go : ((is_over j s || succeeds words j s) ≡ true) ⊎ IsNear n words j (hear j s (answer_of words j s))
        → (succeeds words j s ≡ true) ⊎ IsWithin m words now d (asking c j (hear j s (answer_of words j s)))
    go (inl e) = inl (grind arith)
    go (inr k) = inr (then k)

near_begun : (n : ℕ) (words : Target → ℕ) (j : Job) (s : Stage) → IsNear n words j s → has_begun s ≡ true
unfolding IsNear
near_begun zero words j s h = grind arith
near_begun (suc n) words j s h = h.0

near_over : (words : Target → ℕ) (j : Job) (s : Stage) → IsNear 0 words j s → is_none (target_of j s) ≡ true
unfolding IsNear
near_over words j s h = grind arith

pub near_within : (n : ℕ) (words : Target → ℕ) (now : ℕ) (d : Directory) (c : ControllerState) (j : Job) (s : Stage) → is_restoring (slot_at c j.slot) ≡ true → IsNear n words j s
    → IsWithin (suc (twice n)) words now d (asking c j s)
unfolding twice
near_within zero words now d c j s is h = resumes 0 words now d c j s is
    (λ e. rw (begun_stays d (slot_at c j.slot) j s (near_begun 0 words j s h)) (requests 0 words now d c j s is (λ none. grind (arith, near_over words j s h))))
near_within (suc n) words now d c j s is h = resumes (suc (suc (twice n))) words now d c j s is
    (λ e. rw (begun_stays d (slot_at c j.slot) j s (near_begun (suc n) words j s h))
    (requests (suc (suc (twice n))) words now d c j s is (λ some. heard_within n (suc (twice n)) words now d c j s h some (λ k. near_within n words now d c j _ is k))))

pub hearing_within : (n : ℕ) (words : Target → ℕ) (now : ℕ) (d : Directory) (c : ControllerState) (j : Job) (s : Stage) → is_restoring (slot_at c j.slot) ≡ true → is_none (target_of j s) ≡ false
    → IsNear (suc n) words j s → IsWithin (suc (suc (twice n))) words now d (hearing c j s)
hearing_within n words now d c j s is some h = heard_within n (suc (twice n)) words now d c j s h some (λ k. near_within n words now d c j _ is k)
