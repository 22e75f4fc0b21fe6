-- What most files of proofs import.
pub use Rattle.fw_model_account.specs.Account.{Account}
pub use Rattle.fw_model_account.specs.Words.{BandwidthAvailable, ChannelsAvailable, InputPlug, OutputPlug, Register, node_of, word_of}
pub use Rattle.fw_async.specs.Async.{Fits, spelling}
pub use Rattle.fw_async.specs.Wire.{Pairs, bytes_from, without}
pub use Rattle.fw_async.specs.declared.packet.Head.{Head}
pub use Rattle.fw_async.specs.declared.packet.Packet.{Packet}
pub use Rattle.fw_terms.specs.Devices.{has_link}
pub use Rattle.fw_terms.specs.Tables.{at_plug, update}
pub use Rattle.fw_terms.specs.declared.device.DeviceKind.{DeviceKind}
pub use Rattle.fw_terms.specs.declared.device.DeviceKind.TheVariants.{Relay}
pub use Rattle.fw_terms.specs.declared.label.Label.TheVariants.{Procedure}
pub use Rattle.fw_terms.specs.declared.plug.PlugAt.{PlugAt}
pub use Rattle.fw_bus_engine.specs.Cycling.{HadSent, PerformedWhere, unheard}
pub use Rattle.fw_bus_engine.specs.Framing.{PerformedWithDesk}
pub use Rattle.fw_bus_engine.specs.Performing.{Performed, Performs, TakesAction, TakesHalf, TakesTwoActions, Execution}
pub use Rattle.fw_bus_engine.specs.Resetting.{BeginsReset, GivesReset}
pub use Rattle.fw_bus_engine.specs.Serving.{nodes_after}
pub use Rattle.fw_cmp.specs.Causes.{IsAtRest}
pub use Rattle.fw_cmp.specs.Controllers.{ControllerState, IsHeard}
pub use Rattle.fw_cmp.specs.Losses.{Awaits, Listening, after_turn, turn_of}
pub use Rattle.fw_cmp_jobs.specs.Requests.{addressee_of, offset_of}
pub use Rattle.fw_cmp.specs.Works.{standing_in}
pub use Rattle.fw_cmp.specs.Turns.{after_next}
pub use Rattle.fw_cmp.specs.declared.current.Current.{Current}
pub use Rattle.fw_cmp.specs.declared.current.Current.TheVariants.{Asking, Hearing, Nothing, Overtaken}
pub use Rattle.fw_cmp_jobs.specs.declared.directory.Directory.{Directory}
pub use Rattle.fw_cmp.specs.declared.outcome.Next.{Next}
pub use Rattle.fw_cmp.specs.declared.outcome.Next.TheVariants.{Send}
pub use Rattle.fw_cmp_jobs.specs.declared.request.Access.{Access}
pub use Rattle.fw_cmp_jobs.specs.declared.request.Target.{Target}
pub use Rattle.fw_cmp_jobs.specs.declared.stage.Stage.{Stage}
pub use Rattle.fw_csr.specs.Manager.{after_at}
pub use Rattle.fw_csr.specs.Requests.{request_at}
pub use Rattle.fw_csr.specs.declared.reply.Reply.{Reply}
pub use Rattle.fw_csr.specs.declared.request.Request.{Request}
pub use Rattle.fw_devices.specs.Entries.{node_device}
pub use Rattle.fw_devices.specs.Network.{Network, is_node, kind_at, kinds_of, node_at}
pub use Rattle.fw_log_entry.specs.Log.{entry_bytes, epoch_after}
pub use Rattle.fw_log_entry.specs.declared.entry.Entry.{Entry}
pub use Rattle.fw_log_entry.specs.declared.entry.Entry.TheVariants.{Async, Reset}
pub use Rattle.fw_log_entry.specs.declared.entry.ResetEntry.{ResetEntry}
pub use Rattle.fw_log_entry.specs.declared.entry.Timed.{Timed}
pub use Rattle.fw_log_entry.specs.declared.nodes.NodeRow.{NodeRow}
pub use Rattle.fw_log_entry.specs.declared.version.Version.TheVariants.{Two}
pub use Rattle.fw_fcp.specs.declared.frame.Frame.{Frame}
pub use Rattle.fw_bus_state.proofs.Heard.{quiet_here, stands_here, state_same}
pub use Rattle.fw_bus_state.proofs.Living.{linked_same, living_same, living_there}
pub use Rattle.fw_bus_state.proofs.Nodes.{is_node_same, linked_on, node_number_is, number_of_node, on_within}
pub use Rattle.fw_bus_state.proofs.Streaming.{few_nodes}
pub use Rattle.fw_bus_state.specs.Candidates.{CandidateTable, HasElection, count_of as candidates_of}
pub use Rattle.fw_bus_state.specs.Faults.{CountsFaults}
pub use Rattle.fw_bus_state.specs.Giving.{Gives, between, sides_of}
pub use Rattle.fw_bus_state.specs.Lingering.{HasLingering}
pub use Rattle.fw_bus_state.specs.Reels.{HasHearers}
pub use Rattle.fw_bus_state.specs.Stands.{HasDecks, HasNodes, IsNodeAt, IsReady, StandsFor, is_linked_in, is_living_in, living_in}
pub use Rattle.fw_bus_state.specs.Streaming.{HasStreams, looked_at}
pub use Rattle.fw_bus_state.specs.Tables.{ControllerTable, IsTable, Listens, count_of, dead_of, states_of}
pub use Rattle.fw_bus_state.specs.Wires.{HasWire}
pub use Rattle.fw_bus_state.specs.declared.machine.Machine.{Machine}
pub use Rattle.fw_bus_state.specs.declared.recording.Recording.{Recording}
pub use Rattle.fw_manager.specs.Bids.{CandidateState, is_asked}
pub use Rattle.fw_node.specs.Packets.{packet_of, reply_in, request_head, request_in, response_of}
pub use Rattle.fw_node.specs.State.{NodeState, after_request, first_state, space_of}
pub use Rattle.fw_outside.proofs.Parts.{Grows-nothing}
pub use Rattle.fw_outside.specs.declared.failed.Failed.{Failed}
pub use Rattle.fw_model_run.proofs.Around.{step_beside}
pub use Rattle.fw_model_run.proofs.Hears.{half_hears}
pub use Rattle.fw_model_run.proofs.Runs.{steps_then}
pub use Rattle.fw_model_run.proofs.Steps.{steps_good}
pub use Rattle.fw_model_run.proofs.Turns.{living_linked, update_new, update_others}
pub use Rattle.fw_model_run.specs.Actions.{Action, Contend, EndSecond, HalfStep, Pass, Receive}
pub use Rattle.fw_model_run.specs.Deeds.{Transition, Transitions}
pub use Rattle.fw_model_run.proofs.BusResets.{Resets}
pub use Rattle.fw_model_run.specs.Afterwards.{counted}
pub use Rattle.fw_model_run.specs.Bidding.{bid_head}
pub use Rattle.fw_model_run.specs.Carrying.{Carries, half_steps_of}
unfoldable pub use Rattle.fw_model_run.specs.Carrying.{times}
pub use Rattle.fw_model_run.specs.Decks.{DeckState}
pub use Rattle.fw_model_run.specs.Desks.{DeskRelations}
pub use Rattle.fw_model_run.specs.Elections.{Election}
pub use Rattle.fw_model_run.specs.Giving.{GivesEntry, at_cycle, at_most}
pub use Rattle.fw_model_run.specs.Good.{IsGood, IsLatest}
pub use Rattle.fw_model_run.specs.HalfSteps.{after_half, half, taken}
pub use Rattle.fw_model_run.specs.Spaces.{is_manager, space_at}
pub use Rattle.fw_model_run.specs.State.{State, device_in, directory_of, entered, epoch_of, is_deaf, is_linked, is_living, is_on, linked_number, manager_in, number_in}
unfoldable pub use Rattle.fw_model_run.specs.State.{numbers_to}
pub use Rattle.fw_model_run.specs.Truth.{controller_at}
pub use Rattle.fw_order.specs.declared.limits.TheConstants.{MOST_HALF_STEPS, MOST_RESETS}
pub use Rattle.fw_model_controllers.specs.Registers.{register_at, stands}
pub use Rattle.fw_tree.specs.Topology.{Topology}
pub use Rattle.std.proofs.Common.{Bool, IfSome, IsFalse, IsTrue, List, None, Option, Some, [], ap, append-nil, append_assoc, arith, cond, false, inl, inr, is_some, length, map, not, option_map, refl}
pub use Rattle.std.proofs.Common.{rules, slice_set, subst, suc, sym, true, unwrap_or, zero, ℕ, ◌%◌, ◌&&◌, ◌*◌, ◌++◌, ◌+◌, ◌-◌, ◌<◌, ◌==◌, ◌^◌, ◌∙◌, ◌∷◌, ◌≡◌, ◌≢◌, ◌≤◌, ◌⊎◌}
pub use Rattle.std.proofs.lemmas.Bool.{cases_eq, false≢true}
pub use Rattle.std.proofs.lemmas.Bool.Decides.{nat_tests}
pub use Rattle.std.proofs.lemmas.List.{get_or-set_other, get_or-set_same, length-set}
pub use Rattle.std.proofs.lemmas.Option.{none-some, same_Some}
pub use Rattle.std.specs.Prelude.{Err, IsErr, Ok}
pub use Rattle.std.specs.declared.result.Result.{Result}
