-- What most files of proofs import.
pub use Rattle.fw_model_account.proofs.Connections.{had_connection}
pub use Rattle.fw_model_account.specs.Account.{Account, Allocation, Pending, Request, allocated, has_connection, is_open, remainder}
pub use Rattle.fw_model_account.specs.Events.{after_reset, after_second}
pub use Rattle.fw_model_account.specs.Moves.{AllocateChannel, AllocateUnits, Can, ConnectFirst, ConnectOverlaid, DisconnectInput, DisconnectOutput, HasConnection, Move, ReleaseChannel, ReleaseUnits}
pub use Rattle.fw_model_account.specs.Moves.{add_connection, after, drop_connection}
pub use Rattle.fw_model_account.specs.Network.{is_input, is_output}
pub use Rattle.fw_model_account.specs.Packets.{asked, ended}
pub use Rattle.fw_model_account.specs.Sound.{IsSound}
pub use Rattle.fw_model_account.specs.Words.{channel_word, output_addressed, word_of}
pub use Rattle.fw_terms.proofs.Tables.{IsFirst, find_to_is, update_plug_same}
pub use Rattle.fw_terms.specs.Tables.{find_to, update, update_plug}
pub use Rattle.fw_terms.specs.declared.plug.ConnectionKind.{ConnectionKind}
pub use Rattle.fw_terms.specs.declared.plug.ConnectionKind.TheVariants.{Broadcast, PointToPoint}
pub use Rattle.fw_terms.specs.declared.plug.PlugAt.{PlugAt}
pub use Rattle.fw_cmp_jobs.specs.Connections.{input_of, is_listen, kind_of, output_of}
pub use Rattle.fw_cmp.specs.Controllers.{ControllerState, Fits, count_of, slot_at, with_slot}
pub use Rattle.fw_cmp_jobs.specs.Slots.{breaking_job, job_for, restoring_job}
pub use Rattle.fw_cmp_jobs.specs.Decisions.{decide_channel, decide_in, decide_out, decide_units, goes_on, input_left, needs, output_joined, restores}
pub use Rattle.fw_cmp_jobs.specs.Fits.{JobFits, StageFits}
pub use Rattle.fw_cmp.specs.Holdings.{CanGoOn, has_input, has_output, is_at_input, is_at_output, is_current_slot, job_inputs, job_outputs, pending_of, slot_inputs, slot_outputs, stands_at_input}
pub use Rattle.fw_cmp.specs.Holdings.{stands_at_output}
pub use Rattle.fw_cmp_jobs.specs.Jobs.{begin_leaving, begin_making}
pub use Rattle.fw_cmp_jobs.specs.Plugs.{channel_of, counter_of, half_of, has_broadcast, is_bit, is_full, one_less, remainder_of, shows_connection}
pub use Rattle.fw_cmp_jobs.specs.Requests.{addressee_of, swap_of, target_of}
pub use Rattle.fw_cmp.specs.Resets.{after_hear}
pub use Rattle.fw_cmp_jobs.specs.Stages.{hear, hear_reply, refuse}
pub use Rattle.fw_cmp.specs.Turns.{after_answer, after_asking}
pub use Rattle.fw_cmp_jobs.specs.declared.connection.Connection.{Connection}
pub use Rattle.fw_cmp_jobs.specs.declared.connection.Connection.TheVariants.{BroadcastIn, BroadcastOut, PlugToPlug}
pub use Rattle.fw_cmp_jobs.specs.declared.connection.Flow.{Flow}
pub use Rattle.fw_cmp_jobs.specs.declared.connection.Slot.{Slot}
pub use Rattle.fw_cmp_jobs.specs.declared.connection.Slot.TheVariants.{Free, Gone, Making, Restoring, Established}
pub use Rattle.fw_cmp.specs.declared.current.Current.{Current}
pub use Rattle.fw_cmp.specs.declared.current.Current.TheVariants.{Asking, Hearing, Nothing, Overtaken}
pub use Rattle.fw_cmp_jobs.specs.declared.directory.Directory.{Directory}
pub use Rattle.fw_cmp_jobs.specs.declared.job.Ending.{Ending}
pub use Rattle.fw_cmp_jobs.specs.declared.job.Ending.TheVariants.{Broken, Late, NoPlug}
pub use Rattle.fw_cmp_jobs.specs.declared.job.HeldResources.{HeldResources}
pub use Rattle.fw_cmp_jobs.specs.declared.job.Job.{Job}
pub use Rattle.fw_cmp_jobs.specs.declared.job.Purpose.{Purpose}
pub use Rattle.fw_cmp_jobs.specs.declared.job.Purpose.TheVariants.{Break, Make, Restore}
pub use Rattle.fw_cmp_jobs.specs.declared.job.Then.{Then}
pub use Rattle.fw_cmp_jobs.specs.declared.job.Then.TheVariants.{EndsAs}
pub use Rattle.fw_cmp_jobs.specs.declared.request.Access.{Access}
pub use Rattle.fw_cmp_jobs.specs.declared.request.Target.{Target}
pub use Rattle.fw_cmp_jobs.specs.declared.request.Target.TheVariants.{BandwidthAvailable, Channels, InputPlug, OutputPlug}
pub use Rattle.fw_cmp_jobs.specs.declared.stage.Stage.{Stage}
pub use Rattle.fw_cmp_jobs.specs.declared.stage.Stage.TheVariants.{Begin, ConnectInput, ConnectOutput, Ended, LeaveInput, LeaveOutput, Made, OverlayOutput, RaiseBandwidth, ReadBandwidth}
pub use Rattle.fw_cmp_jobs.specs.declared.stage.Stage.TheVariants.{ReadBandwidthToRelease, ReadChannels, ReadChannelsToRelease, ReadInput, ReadInputToLeave, ReadOutput, ReadOutputToLeave}
pub use Rattle.fw_cmp_jobs.specs.declared.stage.Stage.TheVariants.{RestoreChannel}
pub use Rattle.fw_cmp_jobs.specs.declared.stage.Stage.TheVariants.{SwapBandwidth, SwapChannels}
pub use Rattle.fw_csr.specs.declared.reply.Reply.{Reply}
pub use Rattle.fw_log_entry.specs.declared.entry.ResetEntry.{ResetEntry}
pub use Rattle.fw_plug.specs.Words.{Settings, is_connected}
pub use Rattle.fw_model_controllers.specs.Controllers.{ControllerInStep, CurrentInStep, IsDirectory, IsToRestore, SlotInStep, others_of, slots_alone}
pub use Rattle.fw_model_controllers.specs.Holding.{HasReserved, Holding, Holds, Keeps, Leaves, connections_of}
pub use Rattle.fw_model_controllers.specs.InStep.{HalfStep, IsFlow, IsInStep, MayReclaim, Others, allocates, holding, reservation, sees, units_at}
pub use Rattle.fw_model_controllers.specs.Moves.{after_move, at_plug, carried_out}
pub use Rattle.fw_model_controllers.specs.Registers.{IsAnswer, has_manager, register_at, stands, succeeds}
pub use Rattle.fw_model_controllers.specs.Requests.{outstanding_of}
pub use Rattle.fw_words.specs.declared.swap.Swap.{Swap}
pub use Rattle.std.proofs.Common.{Bool, List, None, Option, Some, [], ap, ap₂, arith, cond, eqb, false, inl, inr, is_some, leb, length, not, option_map, refl, subst, sym, true, ℕ, ◌&&◌, ◌+◌, ◌-◌, ◌<◌}
pub use Rattle.std.proofs.Common.{◌^◌, ◌∙◌, ◌∷◌, ◌≡◌, ◌≢◌, ◌≤◌, ◌⊎◌}
pub use Rattle.std.proofs.lemmas.Bool.{cases_eq, cases_lt}
pub use Rattle.std.proofs.lemmas.Bool.Decides.{nat_tests}
