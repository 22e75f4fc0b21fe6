-- What most files of proofs import.
pub use Rattle.fw_model_account.specs.Account.{Account}
unfoldable pub use Rattle.fw_terms.specs.Tables.{sum_to}
pub use Rattle.fw_terms.specs.declared.plug.PlugAt.{PlugAt}
pub use Rattle.fw_cmp_jobs.specs.Connections.{is_listen, kind_of, output_of}
pub use Rattle.fw_cmp.specs.Controllers.{ControllerState, CurrentFits, slot_at}
pub use Rattle.fw_cmp_jobs.specs.Slots.{is_restoring, restoring_job}
pub use Rattle.fw_cmp_jobs.specs.Decisions.{is_lost, needs, restores}
pub use Rattle.fw_cmp.specs.Jobs.{ready, waiting_break}
pub use Rattle.fw_cmp_jobs.specs.Jobs.{begun, is_late, resumed}
pub use Rattle.fw_cmp_jobs.specs.Plugs.{channel_of, counter_of, half_of, has_broadcast, is_full, remainder_of, shows_connection}
pub use Rattle.fw_cmp_jobs.specs.Requests.{access_at, swap_of, target_of}
pub use Rattle.fw_cmp_jobs.specs.Stages.{hear}
pub use Rattle.fw_cmp.specs.Turns.{after_answer, after_asking}
pub use Rattle.fw_cmp_jobs.specs.declared.connection.Connection.{Connection}
pub use Rattle.fw_cmp_jobs.specs.declared.connection.Connection.TheVariants.{BroadcastIn, BroadcastOut, PlugToPlug}
pub use Rattle.fw_cmp_jobs.specs.declared.connection.Flow.{Flow}
pub use Rattle.fw_cmp_jobs.specs.declared.connection.Slot.{Slot}
pub use Rattle.fw_cmp_jobs.specs.declared.connection.Slot.TheVariants.{Free, Gone, Making, Restoring, Established}
pub use Rattle.fw_cmp.specs.declared.current.Current.{Current}
pub use Rattle.fw_cmp.specs.declared.current.Current.TheVariants.{Asking, Hearing, Nothing, Overtaken}
pub use Rattle.fw_cmp_jobs.specs.declared.directory.Directory.{Directory}
pub use Rattle.fw_cmp_jobs.specs.declared.job.Ending.TheVariants.{Late}
pub use Rattle.fw_cmp_jobs.specs.declared.job.HeldResources.{HeldResources}
pub use Rattle.fw_cmp_jobs.specs.declared.job.Job.{Job}
pub use Rattle.fw_cmp_jobs.specs.declared.job.Purpose.{Purpose}
pub use Rattle.fw_cmp_jobs.specs.declared.job.Purpose.TheVariants.{Break, Make, Restore}
pub use Rattle.fw_cmp_jobs.specs.declared.request.Target.{Target}
pub use Rattle.fw_cmp_jobs.specs.declared.request.Target.TheVariants.{BandwidthAvailable, Channels, OutputPlug}
pub use Rattle.fw_cmp_jobs.specs.declared.stage.Stage.{Stage}
pub use Rattle.fw_cmp_jobs.specs.declared.stage.Stage.TheVariants.{Begin, ConnectInput, ConnectOutput, Ended, LeaveInput, LeaveOutput, Made, OverlayOutput, RaiseBandwidth, ReadBandwidth}
pub use Rattle.fw_cmp_jobs.specs.declared.stage.Stage.TheVariants.{ReadBandwidthToRelease, ReadChannels, ReadChannelsToRelease, ReadInput, ReadInputToLeave, ReadOutput, ReadOutputToLeave}
pub use Rattle.fw_cmp_jobs.specs.declared.stage.Stage.TheVariants.{RestoreChannel}
pub use Rattle.fw_cmp_jobs.specs.declared.stage.Stage.TheVariants.{SwapBandwidth, SwapChannels}
pub use Rattle.fw_plug.specs.Words.{flag, is_connected}
pub use Rattle.fw_model_rounds.specs.Accounts.{words_of}
pub use Rattle.fw_model_rounds.specs.Distance.{answer_of, has_begun, is_channel_free, is_over, is_waiting, output_word, shown, succeeds}
unfoldable pub use Rattle.fw_model_rounds.specs.Distance.{IsNear}
pub use Rattle.fw_model_rounds.specs.HalfSteps.{CurrentRestores, IsRestoringOf, Waits, after_half_step, of_slot, progresses, to_come}
unfoldable pub use Rattle.fw_model_rounds.specs.HalfSteps.{IsWithin}
pub use Rattle.fw_model_rounds.specs.Remaining.{remaining}
pub use Rattle.fw_model_rounds.specs.Rounds.{AccountSays, AllRestore, IsRound, Situation, all_to_come}
unfoldable pub use Rattle.fw_model_rounds.specs.Rounds.{TakeHalfSteps, times}
pub use Rattle.std.proofs.Common.{Bool, List, None, Option, Some, [], ap, arith, cond, eqb, false, inl, inr, is_none, leb, not, refl, subst, suc, sym, true, zero, ℕ, ◌&&◌, ◌+◌, ◌<◌, ◌||◌, ◌∙◌, ◌∷◌}
pub use Rattle.std.proofs.Common.{◌≡◌, ◌≢◌, ◌≤◌, ◌⊎◌}
pub use Rattle.std.proofs.lemmas.Bool.{cases_eq}
pub use Rattle.std.proofs.lemmas.Bool.Decides.{nat_tests}
pub use Rattle.std.specs.Option.{option_map}
pub use Rattle.std.specs.Prelude.{slice_index_or}
