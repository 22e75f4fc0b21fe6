-- What most files of proofs import.
pub use Rattle.fw_terms.proofs.Tables.{IsFirst, find_to_is}
unfoldable pub use Rattle.fw_terms.specs.Tables.{find_to}
pub use Rattle.fw_cmp_jobs.specs.Connections.{is_listen}
pub use Rattle.fw_cmp.specs.Controllers.{ControllerState, CurrentFits, Fits, IsHeard, IsStanding, RunsFitting, SlotHasJobs, break_runs, breaks_waiting, count_of}
pub use Rattle.fw_cmp_jobs.specs.Slots.{is_free, is_restoring, job_for}
pub use Rattle.fw_cmp.specs.Controllers.{slot_at, with_slot}
pub use Rattle.fw_cmp_jobs.specs.Decisions.{restores}
pub use Rattle.fw_cmp_jobs.specs.Fits.{SlotFits}
pub use Rattle.fw_cmp.specs.Holdings.{CanGoOn, CurrentReached}
pub use Rattle.fw_cmp.specs.Jobs.{current_for, going, is_empty, picked, ready, resumed_current}
pub use Rattle.fw_cmp_jobs.specs.Jobs.{begun, is_late, resumed}
pub use Rattle.fw_cmp.specs.Losses.{Listening}
pub use Rattle.fw_cmp_jobs.specs.Requests.{access_of}
pub use Rattle.fw_cmp.specs.Resets.{after_hear, after_reset, current_reset, heard, lost_reset}
pub use Rattle.fw_cmp_jobs.specs.Slots.{slot_over, slot_reset}
pub use Rattle.fw_cmp.specs.Starts.{break_fault}
pub use Rattle.fw_cmp_jobs.specs.Slots.{IsMaking}
pub use Rattle.fw_cmp.specs.Turns.{after_answer, after_next, answer_of, next, rests}
pub use Rattle.fw_cmp.specs.Works.{asked}
pub use Rattle.fw_cmp_jobs.specs.declared.connection.Connection.{Connection}
pub use Rattle.fw_cmp_jobs.specs.declared.connection.Flow.{Flow}
pub use Rattle.fw_cmp_jobs.specs.declared.connection.Slot.{Slot}
pub use Rattle.fw_cmp_jobs.specs.declared.connection.Slot.TheVariants.{Free, Gone, Making, Restoring, Established}
pub use Rattle.fw_cmp.specs.declared.current.Current.{Current}
pub use Rattle.fw_cmp.specs.declared.current.Current.TheVariants.{Asking, Hearing, Nothing, Overtaken}
pub use Rattle.fw_cmp.specs.declared.current.WaitingJob.{WaitingJob}
pub use Rattle.fw_cmp_jobs.specs.declared.directory.Directory.{Directory}
pub use Rattle.fw_cmp_jobs.specs.declared.job.Ending.{Ending}
pub use Rattle.fw_cmp_jobs.specs.declared.job.Job.{Job}
pub use Rattle.fw_cmp_jobs.specs.declared.job.Purpose.{Purpose}
pub use Rattle.fw_cmp_jobs.specs.declared.job.Purpose.TheVariants.{Break, Make, Restore}
pub use Rattle.fw_cmp.specs.declared.outcome.Next.TheVariants.{Idle, Waiting}
pub use Rattle.fw_cmp_jobs.specs.declared.request.Access.{Access}
pub use Rattle.fw_cmp_jobs.specs.declared.stage.Stage.{Stage}
pub use Rattle.fw_cmp_jobs.specs.declared.stage.Stage.TheVariants.{Begin, ConnectInput, ConnectOutput, Ended, LeaveInput, LeaveOutput, Made, OverlayOutput, RaiseBandwidth, ReadBandwidth}
pub use Rattle.fw_cmp_jobs.specs.declared.stage.Stage.TheVariants.{ReadBandwidthToRelease, ReadChannels, ReadChannelsToRelease, ReadInput, ReadInputToLeave, ReadOutput, ReadOutputToLeave}
pub use Rattle.fw_cmp_jobs.specs.declared.stage.Stage.TheVariants.{RestoreChannel}
pub use Rattle.fw_cmp_jobs.specs.declared.stage.Stage.TheVariants.{SwapBandwidth, SwapChannels}
pub use Rattle.fw_csr.specs.declared.reply.Reply.{Reply}
pub use Rattle.std.proofs.Common.{Bool, IsFalse, IsTrue, List, None, Option, Some, [], ap, arith, false, get_or, inl, inr, length, not, refl, subst, sym, take, true, ℕ, ◌&&◌, ◌++◌, ◌+◌, ◌<◌, ◌||◌}
pub use Rattle.std.proofs.Common.{◌∙◌, ◌∷◌, ◌≡◌, ◌≢◌, ◌≤◌, ◌⊎◌}
pub use Rattle.std.proofs.lemmas.Bool.{cases_eq, false≢true}
pub use Rattle.std.proofs.lemmas.Bool.Decides.{nat_tests}
pub use Rattle.std.specs.Prelude.{if◌then◌else◌, ⊤}
