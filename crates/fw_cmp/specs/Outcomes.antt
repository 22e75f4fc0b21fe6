-- What it comes to that a job ends with an outcome, and that answers have decided it.
use Rattle.std.specs.Prelude.{ℕ, ◌≡◌, ◌⊎◌, Bool, true, false, Some, None, IfSome, ⊤}
use Rattle.fw_cmp_jobs.specs.declared.connection.Slot.{Slot}
use Rattle.fw_cmp_jobs.specs.declared.connection.Slot.TheVariants.{Established}
use Rattle.fw_cmp.specs.declared.current.Current.{Current}
use Rattle.fw_cmp.specs.declared.current.Current.TheVariants.{Nothing, Asking, Hearing, Overtaken}
use Rattle.fw_cmp_jobs.specs.declared.directory.Directory.{Directory}
use Rattle.fw_cmp_jobs.specs.declared.job.Job.{Job}
use Rattle.fw_cmp_jobs.specs.declared.job.Purpose.TheVariants.{Break}
use Rattle.fw_cmp_jobs.specs.declared.job.Ending.TheVariants as ending
use Rattle.fw_cmp.specs.declared.outcome.Next.{Next}
use Rattle.fw_cmp.specs.declared.outcome.Next.TheVariants.{End}
use Rattle.fw_cmp_jobs.specs.declared.outcome.Outcome.{Outcome}
use Rattle.fw_cmp_jobs.specs.declared.outcome.Outcome.TheVariants.{Connected, Broken, Restored, NoChannel, NoUnits, PlugFull, InputBusy, NoPlug, NoManager, Absent, Reset, Late}
use Rattle.fw_cmp_jobs.specs.declared.stage.Stage.{Stage}
use Rattle.fw_cmp_jobs.specs.declared.stage.Stage.TheVariants.{Begin, Made, Ended}
use Rattle.fw_cmp_jobs.specs.Answers.{decision_of, IsOfAnswers}
use Rattle.fw_cmp_jobs.specs.Connections.{is_listen}
use Rattle.fw_cmp_jobs.specs.Decisions.{restores}
use Rattle.fw_cmp.specs.Controllers.{ControllerState, slot_at}
use Rattle.fw_cmp.specs.Jobs.{picked}
use Rattle.fw_cmp_jobs.specs.Jobs.{absent_of, is_late}

-- the connection of the slot stands
abbrev pub is_standing : Slot → Bool
is_standing (Established conn f) = true
is_standing _ = false

-- the connection was made on this channel
abbrev pub IsMadeOn : Stage → ℕ → Type 0
IsMadeOn (Made f) ch = f.channel ≡ ch
IsMadeOn _ ch = ⊥

-- A job at a stage ends so in this cycle: its last swap succeeded, answers that it heard have decided it, or as it begins the
-- directory or its slot decide it; a restoring ends late if answers say so, or its slot's own second is over.
abbrev pub EndsBy : ℕ → Directory → Slot → Job → Stage → Outcome → Type 0
EndsBy now d slot j s (Connected ch) = (restores j ≡ false) × IsMadeOn s ch
EndsBy now d slot j s Broken = (s ≡ Ended ending.Broken) ⊎ ((s ≡ Begin) × (j.purpose ≡ Break) × (is_standing slot ≡ false))
EndsBy now d slot j s (Restored ch) = (restores j ≡ true) × IsMadeOn s ch
EndsBy now d slot j s (NoChannel w) = s ≡ Ended (ending.NoChannel w)
EndsBy now d slot j s (NoUnits left) = s ≡ Ended (ending.NoUnits left)
EndsBy now d slot j s (PlugFull w) = s ≡ Ended (ending.PlugFull w)
EndsBy now d slot j s (InputBusy w) = s ≡ Ended (ending.InputBusy w)
EndsBy now d slot j s (NoPlug rcode) = s ≡ Ended (ending.NoPlug rcode)
EndsBy now d slot j s NoManager = (s ≡ Ended ending.NoManager) ⊎ ((s ≡ Begin) × (d.manager ≡ None) × (is_listen j.connection ≡ false))
EndsBy now d slot j s (Absent device) = (s ≡ Ended (ending.Absent device)) ⊎ ((s ≡ Begin) × (absent_of d j.connection ≡ Some device))
EndsBy now d slot j s (Reset epoch) = ⊥
EndsBy now d slot j s (Late cycle) = (cycle ≡ now) × ((s ≡ Ended ending.Late) ⊎ (is_late slot j s ≡ true))

-- a bus reset took the job off its slot, and left it this outcome; or the job ends so at its stage
pub record JobEnds (now : ℕ) (d : Directory) (c : ControllerState) (slot : ℕ) (o : Outcome) (j : Job) (s : Stage) : Type 0 where
  pub current : (picked now d c).current ≡ Asking j s
  pub of_slot : j.slot ≡ slot
  pub cause : EndsBy now d (slot_at c j.slot) j s o

-- the job of a slot ends with this outcome: a bus reset left it, or it ends so at its stage
abbrev pub Ends : ℕ → Directory → ControllerState → ℕ → Outcome → Type 0
Ends now d c slot o = (c.current ≡ Overtaken slot o) ⊎ ((j : Job) × ((s : Stage) × JobEnds now d c slot o j s))

-- if a turn ends a job, the job ends with that outcome
abbrev pub EndsWithCause : ℕ → Directory → ControllerState → Next → Type 0
EndsWithCause now d c (End slot o) = Ends now d c slot o
EndsWithCause now d c _ = ⊤

-- what is decided of a current job was decided by answers
abbrev pub IsDecidedByAnswers : Current → Type 0
IsDecidedByAnswers Nothing = ⊤
IsDecidedByAnswers (Asking j s) = IfSome (decision_of s) IsOfAnswers
IsDecidedByAnswers (Hearing j s) = IfSome (decision_of s) IsOfAnswers
IsDecidedByAnswers (Overtaken i o) = ⊤
