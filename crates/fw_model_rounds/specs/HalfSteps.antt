-- A controller's half steps over registers that stand still, and what is still to come of its restorings.
use Rattle.std.specs.Prelude.{ℕ, zero, suc, ◌≡◌, ◌==◌, ◌⊎◌, Bool, false, ◌&&◌, if◌then◌else◌, Some, None, is_none, IsTrue, IsFalse, ⊤}
use Rattle.fw_terms.specs.Tables.{sum_to}
use Rattle.fw_csr.specs.Replies.{complete}
use Rattle.fw_plug.specs.Words.{is_connected}
use Rattle.fw_cmp_jobs.specs.declared.connection.Connection.{Connection}
use Rattle.fw_cmp_jobs.specs.declared.connection.Flow.{Flow}
use Rattle.fw_cmp_jobs.specs.declared.connection.Slot.{Slot}
use Rattle.fw_cmp_jobs.specs.declared.connection.Slot.TheVariants.{Restoring}
use Rattle.fw_cmp.specs.declared.current.Current.{Current}
use Rattle.fw_cmp.specs.declared.current.Current.TheVariants.{Nothing, Asking, Hearing, Overtaken}
use Rattle.fw_cmp_jobs.specs.declared.directory.Directory.{Directory}
use Rattle.fw_cmp_jobs.specs.declared.job.Job.{Job}
use Rattle.fw_cmp_jobs.specs.declared.request.Target.{Target}
use Rattle.fw_cmp_jobs.specs.declared.request.Target.TheVariants.{OutputPlug}
use Rattle.fw_cmp_jobs.specs.declared.stage.Stage.{Stage}
use Rattle.fw_cmp_jobs.specs.Connections.{output_of, is_listen}
use Rattle.fw_cmp.specs.Controllers.{ControllerState, slot_at}
use Rattle.fw_cmp_jobs.specs.Slots.{is_restoring, restoring_job}
use Rattle.fw_cmp_jobs.specs.Decisions.{restores}
use Rattle.fw_cmp_jobs.specs.Requests.{target_of}
use Rattle.fw_cmp.specs.Resets.{after_hear}
use Rattle.fw_cmp.specs.Turns.{after_next}
use Rattle.fw_cmp.specs.Jobs.{ready, waiting_break}
use Rattle.std.specs.Option.{option_map}
use Rattle.fw_model_rounds.specs.Distance.{shown, answer_of, succeeds, has_begun, is_over, is_channel_free, HasPlug, Keeps}
use Rattle.fw_model_rounds.specs.Remaining.{most_remaining, remaining}

-- ---- half steps

-- the controller after a half step: it hears the answer to the outstanding request, or does what comes next
abbrev pub after_half_step : (Target → ℕ) → ℕ → Directory → ControllerState → ControllerState
after_half_step words now d c = elim c.current [
  | Nothing ↦ after_next now d c
  | Asking j s ↦ after_next now d c
  | Hearing j s ↦ after_hear c (complete (answer_of words j s))
  | Overtaken i o ↦ after_next now d c
]

-- whether a controller that is ready ends the restoring of a slot
abbrev pub ends_restoring : ControllerState → Bool
ends_restoring c = elim c.current [
  | Nothing ↦ false
  | Asking j s ↦ is_none (target_of j s) && is_restoring (slot_at c j.slot)
  | Hearing j s ↦ false
  | Overtaken i o ↦ false
]

-- whether the half step makes progress: a swap succeeds, or the restoring of a slot ends
abbrev pub progresses : (Target → ℕ) → ℕ → Directory → ControllerState → Bool
progresses words now d c = elim c.current [
  | Nothing ↦ ends_restoring (ready now d c)
  | Asking j s ↦ ends_restoring (ready now d c)
  | Hearing j s ↦ succeeds words j s
  | Overtaken i o ↦ false
]

-- one of its next n half steps makes progress
unfoldable pub IsWithin : ℕ → (Target → ℕ) → ℕ → Directory → ControllerState → Type 0
IsWithin zero words now d c = ⊥
IsWithin (suc n) words now d c = IsTrue (progresses words now d c) ⊎ IsWithin n words now d (after_half_step words now d c)

-- ---- what is still to come

-- of a slot that is to be restored: what remains of its job, and else all
abbrev pub of_job : Job → Stage → ℕ → ℕ
of_job j s i = if restores j && (j.slot == i) then remaining s else most_remaining

-- what remains of the restoring of a slot, by the current job
abbrev pub of_current : Current → ℕ → ℕ
of_current Nothing i = most_remaining
of_current (Asking j s) i = of_job j s i
of_current (Hearing j s) i = of_job j s i
of_current (Overtaken k o) i = most_remaining

-- what remains of a slot: nothing if it is not to be restored
abbrev pub of_slot : Current → ℕ → Slot → ℕ
of_slot current i slot = if is_restoring slot then of_current current i else 0

-- the successful swaps and the outcomes that are still to come of a controller's restorings, at most
abbrev pub to_come : ControllerState → ℕ
to_come c = sum_to 32 (λ i. of_slot c.current i (slot_at c i))

-- ---- a controller that restores, from the bus reset on

-- a job that restores what its slot holds; if the slot's own second is over it has not begun
abbrev pub IsRestoringOf : Slot → Job → Stage → Type 0
IsRestoringOf (Restoring conn f over) j s = (j ≡ restoring_job j.slot conn f) × (IsTrue (has_begun s) → IsFalse over)
IsRestoringOf _ j s = ⊥

-- the current job restores what its slot holds, or makes no further request
abbrev pub CurrentRestores : ControllerState → Current → Type 0
CurrentRestores c Nothing = ⊤
CurrentRestores c (Asking j s) = IsTrue (is_over j s) ⊎ IsRestoringOf (slot_at c j.slot) j s
CurrentRestores c (Hearing j s) = IsTrue (has_begun s) × IsRestoringOf (slot_at c j.slot) j s × IsFalse (is_none (target_of j s))
CurrentRestores c (Overtaken i o) = ⊤

-- No break waits. The current job restores, or it ended before the reset and has its outcome still to be written.
pub record OnlyRestores (c : ControllerState) : Type 0 where
  pub no_break : waiting_break c ≡ None
  pub current : CurrentRestores c c.current

-- ---- what the account says of a controller

-- the words that a stage keeps are true of the channel and the output plug of its job
abbrev pub JobKnows : (Target → ℕ) → Job → Stage → Type 0
JobKnows words j s = HasPlug words j s × ((ch : ℕ) → j.asked ≡ Some ch → Keeps ch s)

-- so are those of the current job
abbrev pub CurrentKnows : (Target → ℕ) → Current → Type 0
CurrentKnows words Nothing = ⊤
CurrentKnows words (Asking j s) = JobKnows words j s
CurrentKnows words (Hearing j s) = JobKnows words j s
CurrentKnows words (Overtaken i o) = ⊤

-- a slot waits for another controller: its output plug has no connection, and its channel is taken
abbrev pub SlotWaits : (Target → ℕ) → Connection → Flow → Type 0
SlotWaits words conn f = IsFalse (is_listen conn) × IsFalse (is_connected (shown words (option_map OutputPlug (output_of conn)))) × IsFalse (is_channel_free words f.channel)

-- a slot of the controller, in its own second, waits
pub record Waits (words : Target → ℕ) (c : ControllerState) : Type 0 where
  pub slot : ℕ
  pub connection : Connection
  pub flow : Flow
  pub is : slot_at c slot ≡ Restoring connection flow false
  pub waits : SlotWaits words connection flow

-- a request is outstanding only of a stage that makes one
abbrev pub AsksWhatStands : Current → Type 0
AsksWhatStands (Hearing j s) = IsFalse (is_none (target_of j s))
AsksWhatStands _ = ⊤
