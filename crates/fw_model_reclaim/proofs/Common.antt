-- What most files of proofs import.
pub use Rattle.fw_model_account.specs.Account.{Account, has_connection}
pub use Rattle.fw_model_account.specs.Events.{after_reset as account_reset}
pub use Rattle.fw_model_account.specs.Moves.{after}
pub use Rattle.fw_model_account.specs.Network.{is_input, is_output}
pub use Rattle.fw_model_account.specs.Sound.{IsSound}
pub use Rattle.fw_terms.proofs.Tables.{sum_to_same, sum_to_zero}
pub use Rattle.fw_terms.specs.declared.plug.ConnectionKind.{ConnectionKind}
pub use Rattle.fw_terms.specs.declared.plug.ConnectionKind.TheVariants.{Broadcast, PointToPoint}
pub use Rattle.fw_terms.specs.declared.plug.PlugAt.{PlugAt}
pub use Rattle.fw_cmp_jobs.specs.Connections.{input_of, is_listen, kind_of, output_of}
pub use Rattle.fw_cmp.specs.Controllers.{ControllerState, IsHeard, break_waits, breaks_slot, count_of, first_state, slot_at, with_slot}
pub use Rattle.fw_cmp_jobs.specs.Slots.{is_making, restoring_job}
pub use Rattle.fw_cmp_jobs.specs.Decisions.{decide_in, decide_leave_out, decide_raise, decide_units, goes_on, output_left, overlaid_flow, restores}
pub use Rattle.fw_cmp_jobs.specs.Fits.{HasInput, StageFits}
pub use Rattle.fw_cmp.specs.Holdings.{IsReached, is_current_slot}
pub use Rattle.fw_cmp.specs.Jobs.{takes_next, to_restore}
pub use Rattle.fw_cmp_jobs.specs.Jobs.{begin_managed, begin_present, begun, resumed}
pub use Rattle.fw_cmp_jobs.specs.Plugs.{channel_of, half_of, is_bit}
pub use Rattle.fw_cmp_jobs.specs.Requests.{access_of, target_of}
pub use Rattle.fw_cmp.specs.Resets.{after_hear, after_lost_reset, after_reset, current_reset, heard, lost_reset, overtaken, state_reset}
pub use Rattle.fw_cmp_jobs.specs.Slots.{slot_reset}
pub use Rattle.fw_cmp_jobs.specs.Stages.{hear, hear_reply, refuse}
pub use Rattle.fw_cmp.specs.Starts.{break_fault, break_started, started, with_task}
pub use Rattle.fw_cmp.specs.Turns.{after_answer, after_asking, after_next, slot_after}
pub use Rattle.fw_cmp_jobs.specs.declared.connection.Connection.{Connection}
pub use Rattle.fw_cmp_jobs.specs.declared.connection.Connection.TheVariants.{BroadcastIn, BroadcastOut, PlugToPlug}
pub use Rattle.fw_cmp_jobs.specs.declared.connection.Flow.{Flow}
pub use Rattle.fw_cmp_jobs.specs.declared.connection.Slot.{Slot}
pub use Rattle.fw_cmp_jobs.specs.declared.connection.Slot.TheVariants.{Free, Gone, Making, Restoring, Established}
pub use Rattle.fw_cmp.specs.declared.current.Current.{Current}
pub use Rattle.fw_cmp.specs.declared.current.Current.TheVariants.{Asking, Hearing, Nothing, Overtaken}
pub use Rattle.fw_cmp.specs.declared.current.WaitingJob.{WaitingJob}
pub use Rattle.fw_cmp_jobs.specs.declared.directory.Directory.{Directory}
pub use Rattle.fw_cmp_jobs.specs.declared.job.Ending.{Ending}
pub use Rattle.fw_cmp_jobs.specs.declared.job.Job.{Job}
pub use Rattle.fw_cmp_jobs.specs.declared.job.Purpose.{Purpose}
pub use Rattle.fw_cmp_jobs.specs.declared.job.Purpose.TheVariants.{Break, Make, Restore}
pub use Rattle.fw_cmp_jobs.specs.declared.job.Then.{Then}
pub use Rattle.fw_cmp_jobs.specs.declared.job.Then.TheVariants.{Again, EndsAs}
pub use Rattle.fw_cmp.specs.declared.outcome.StartFault.{StartFault}
pub use Rattle.fw_cmp_jobs.specs.declared.request.Access.{Access}
pub use Rattle.fw_cmp_jobs.specs.declared.request.Target.{Target}
pub use Rattle.fw_cmp_jobs.specs.declared.stage.Stage.{Stage}
pub use Rattle.fw_cmp_jobs.specs.declared.stage.Stage.TheVariants.{Begin, ConnectInput, ConnectOutput, Ended, LeaveInput, LeaveOutput, Made, OverlayOutput, RaiseBandwidth, ReadBandwidth}
pub use Rattle.fw_cmp_jobs.specs.declared.stage.Stage.TheVariants.{ReadBandwidthToRelease, ReadChannels, ReadChannelsToRelease, ReadInput, ReadInputToLeave, ReadOutput, ReadOutputToLeave}
pub use Rattle.fw_cmp_jobs.specs.declared.stage.Stage.TheVariants.{RestoreChannel}
pub use Rattle.fw_cmp_jobs.specs.declared.stage.Stage.TheVariants.{SwapBandwidth, SwapChannels}
pub use Rattle.fw_csr.specs.declared.reply.Reply.{Reply}
pub use Rattle.fw_log_entry.specs.declared.entry.ResetEntry.{ResetEntry}
pub use Rattle.fw_plug.specs.Words.{is_connected}
pub use Rattle.fw_model_reclaim.specs.Due.{IsAtSlot, due_to, has_plug, held_in, is_at, slot_due}
pub use Rattle.fw_model_reclaim.specs.Restores.{Carries, CourseFor, CurrentCourse, CurrentMatches, IsOnCourse, IsRestorable, KeepsFlow, LeavesPlugs, MatchesFor, Moved, Restores, Unchanged, is_ended}
pub use Rattle.fw_model_reclaim.specs.Restores.{is_leaving, is_still}
pub use Rattle.fw_model_reclaim.specs.Seats.{AreSeated, Input, Output, Side, connections_at, most, number_of, orphaned_of}
pub use Rattle.fw_model_reclaim.specs.Whole.{IsComplete, IsUnbroken, Stands}
pub use Rattle.fw_model_reclaim.specs.Worlds.{Answer, BreakOf, BusReset, CanReclaim, Change, Death, Elsewhere, Happens, IsAtWork, NewConnection, SecondOver, Turn, Withholding, World}
pub use Rattle.fw_model_controllers.specs.Holding.{connections_of}
pub use Rattle.fw_model_controllers.specs.InStep.{IsFlow}
pub use Rattle.fw_model_controllers.specs.Registers.{IsAnswer, has_manager}
pub use Rattle.fw_model_controllers.specs.Together.{Becomes}
pub use Rattle.std.proofs.Common.{Bool, List, None, Option, Some, [], ap, arith, cond, eqb, false, get_or, inl, inr, is_some, length, ltb, not, refl, subst, sym, true, ℕ, ◌&&◌, ◌+◌, ◌-◌, ◌<◌, ◌∙◌}
pub use Rattle.std.proofs.Common.{◌∷◌, ◌≡◌, ◌≢◌, ◌≤◌, ◌⊎◌}
pub use Rattle.std.proofs.lemmas.Bool.{cases_eq, cases_lt}
pub use Rattle.std.proofs.lemmas.Bool.Decides.{nat_tests}
pub use Rattle.std.specs.Prelude.{Ok}
