-- Rounds of half steps of many controllers, and what is still to come of all of them.
use Rattle.std.specs.Prelude.{ℕ, zero, suc, ◌+◌, ◌≡◌, ◌≢◌, ◌==◌, ◌<◌, Bool, if◌then◌else◌, List, [], ◌∷◌, ◌++◌, Some, None, IsFalse}
use Rattle.fw_terms.specs.Tables.{sum_to}
use Rattle.fw_plug.specs.Words.{flag}
use Rattle.fw_cmp_jobs.specs.declared.directory.Directory.{Directory}
use Rattle.fw_cmp_jobs.specs.declared.job.HeldResources.{HeldResources}
use Rattle.fw_cmp_jobs.specs.declared.request.Target.{Target}
use Rattle.fw_cmp.specs.Controllers.{ControllerState, slot_at, Fits}
use Rattle.fw_cmp_jobs.specs.Slots.{is_restoring}
use Rattle.fw_cmp.specs.Holdings.{pending_at}
use Rattle.fw_model_rounds.specs.HalfSteps.{after_half_step, progresses, to_come, OnlyRestores, AsksWhatStands, CurrentKnows, Waits}
use Rattle.fw_cmp.specs.Resets.{state_reset}
use Rattle.fw_cmp.specs.Jobs.{waiting_break}

-- the words of the registers, and the controllers by device; a device without a living one has the first state
pub record Situation : Type 0 where
  pub words : Target → ℕ
  pub at : ℕ → ControllerState

-- a half step of the controller of device k: the registers stay as they are unless it makes progress
pub record HalfStep (now : ℕ) (d : Directory) (k : ℕ) (s t : Situation) : Type 0 where
  pub own : t.at k ≡ after_half_step s.words now d (s.at k)
  pub others : (e : ℕ) → e ≢ k → t.at e ≡ s.at e
  pub still : IsFalse (progresses s.words now d (s.at k)) → t.words ≡ s.words

-- the controller of this device holds a channel that is connected to no plug
pub record IsHolder (s : Situation) (k : ℕ) : Type 0 where
  pub device : k < 63
  pub held : HeldResources
  pub pending : pending_at (s.at k).current ≡ Some held

-- What the account says of the controllers while they restore: if a slot waits, another controller holds its channel.
pub record AccountSays (s : Situation) : Type 0 where
  pub fits : (k : ℕ) → k < 63 → Fits (s.at k)
  pub knows : (k : ℕ) → k < 63 → CurrentKnows s.words (s.at k).current
  pub holder : (k : ℕ) → k < 63 → Waits s.words (s.at k) → (h : ℕ) × IsHolder s h

-- half steps of these devices one after another
unfoldable pub TakeHalfSteps : ℕ → Directory → List ℕ → Situation → Situation → Type 0
TakeHalfSteps now d [] s t = s ≡ t
TakeHalfSteps now d (k ∷ ks) s t = (k < 63) × AccountSays s × ((m : Situation) × HalfStep now d k s m × TakeHalfSteps now d ks m t)

-- how often a device stands in a list
unfoldable pub times : ℕ → List ℕ → ℕ
times k [] = 0
times k (e ∷ es) = (if e == k then 1 else 0) + times k es

-- n rounds
unfoldable pub rounds : ℕ → List ℕ → List ℕ
rounds zero ks = []
rounds (suc n) ks = ks ++ rounds n ks

-- every controller that has something to restore takes part in a round
abbrev pub IsRound : List ℕ → Situation → Type 0
IsRound ks s = (k : ℕ) → k < 63 → 0 < to_come (s.at k) → 0 < times k ks

-- the successful swaps and the outcomes that are still to come of all restorings, at most
abbrev pub all_to_come : Situation → ℕ
all_to_come s = sum_to 63 (λ k. to_come (s.at k))

-- each controller has nothing but connections to restore
abbrev pub AllRestore : Situation → Type 0
AllRestore s = (k : ℕ) → k < 63 → OnlyRestores (s.at k)

-- the connections that controllers have to restore
abbrev pub to_restore_of : ControllerState → ℕ
to_restore_of c = sum_to 32 (λ i. flag (is_restoring (slot_at c i)))

-- the connections that all controllers have to restore
abbrev pub connections_to_restore : Situation → ℕ
connections_to_restore s = sum_to 63 (λ k. to_restore_of (s.at k))

-- no controller has a slot to be restored
abbrev pub NoneToRestore : Situation → Type 0
NoneToRestore s = (k i : ℕ) → k < 63 → i < 32 → IsFalse (is_restoring (slot_at (s.at k) i))

-- a controller right after a bus reset, which met no waiting break; it may have lost the response to its request before
pub record WasReset (c : ControllerState) : Type 0 where
  pub epoch : ℕ
  pub lost : Bool
  pub before : ControllerState
  pub fits : Fits before
  pub no_break : waiting_break before ≡ None
  pub stands : AsksWhatStands before.current
  pub is : c ≡ state_reset epoch lost before

-- each controller is as a bus reset has left it
abbrev pub AllReset : Situation → Type 0
AllReset s = (k : ℕ) → k < 63 → WasReset (s.at k)
