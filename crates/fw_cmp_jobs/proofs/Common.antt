-- What most files of proofs import.
pub use Rattle.fw_terms.proofs.Tables.{IsFirst, find_to_is}
unfoldable pub use Rattle.fw_terms.specs.Tables.{find_to}
pub use Rattle.fw_cmp_jobs.specs.Connections.{is_listen}
pub use Rattle.fw_cmp_jobs.specs.Slots.{is_free, is_restoring}
pub use Rattle.fw_cmp_jobs.specs.Decisions.{restores}
pub use Rattle.fw_cmp_jobs.specs.Jobs.{begun, is_late, resumed}
pub use Rattle.fw_cmp_jobs.specs.Slots.{slot_over, slot_reset}
pub use Rattle.fw_cmp_jobs.specs.Slots.{IsMaking}
pub use Rattle.fw_cmp_jobs.specs.declared.connection.Flow.{Flow}
pub use Rattle.fw_cmp_jobs.specs.declared.connection.Slot.{Slot}
pub use Rattle.fw_cmp_jobs.specs.declared.connection.Slot.TheVariants.{Free, Gone, Making, Restoring, Established}
pub use Rattle.fw_cmp_jobs.specs.declared.directory.Directory.{Directory}
pub use Rattle.fw_cmp_jobs.specs.declared.job.Ending.{Ending}
pub use Rattle.fw_cmp_jobs.specs.declared.job.Job.{Job}
pub use Rattle.fw_cmp_jobs.specs.declared.stage.Stage.{Stage}
pub use Rattle.fw_cmp_jobs.specs.declared.stage.Stage.TheVariants.{Begin, ConnectInput, ConnectOutput, Ended, LeaveInput, LeaveOutput, Made, OverlayOutput, RaiseBandwidth, ReadBandwidth}
pub use Rattle.fw_cmp_jobs.specs.declared.stage.Stage.TheVariants.{ReadBandwidthToRelease, ReadChannels, ReadChannelsToRelease, ReadInput, ReadInputToLeave, ReadOutput, ReadOutputToLeave}
pub use Rattle.fw_cmp_jobs.specs.declared.stage.Stage.TheVariants.{RestoreChannel}
pub use Rattle.fw_cmp_jobs.specs.declared.stage.Stage.TheVariants.{SwapBandwidth, SwapChannels}
pub use Rattle.fw_csr.specs.declared.reply.Reply.{Reply}
pub use Rattle.std.proofs.Common.{Bool, IsFalse, IsTrue, List, None, Option, Some, ap, arith, false, get_or, inl, inr, length, not, refl, subst, sym, take, true, ℕ, ◌&&◌, ◌++◌, ◌+◌, ◌<◌}
pub use Rattle.std.proofs.Common.{◌∙◌, ◌≡◌, ◌≢◌, ◌≤◌, ◌⊎◌}
pub use Rattle.std.proofs.lemmas.Bool.{cases_eq, false≢true}
pub use Rattle.std.proofs.lemmas.Bool.Decides.{nat_tests}
pub use Rattle.std.specs.Prelude.{if◌then◌else◌}
