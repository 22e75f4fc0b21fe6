-- What most files of proofs import.
pub use Rattle.fw_model_account.proofs.Network.{any_at}
pub use Rattle.fw_model_account.specs.Account.{Account, talks}
pub use Rattle.fw_model_account.specs.Fold.{entries_of, next_account}
pub use Rattle.fw_model_account.specs.Network.{is_input, is_input_of, is_output, is_output_of}
pub use Rattle.fw_model_account.specs.Sound.{IsSound}
pub use Rattle.fw_model_account.specs.Words.{ChannelsAvailable, InputPlug, OutputPlug, Register, first_address, node_of, register_at, register_of, word_of}
pub use Rattle.fw_async.specs.declared.packet.Head.{Head}
pub use Rattle.fw_async.specs.declared.packet.Packet.{Packet}
pub use Rattle.fw_async.specs.declared.packet.Packet.TheVariants.{LockReply, ReadQuadletReply}
pub use Rattle.fw_terms.specs.Devices.{input_plugs_of, is_contender, output_plugs_of}
pub use Rattle.fw_terms.specs.Tables.{at_plug, update}
pub use Rattle.fw_terms.specs.declared.device.DeviceKind.{DeviceKind}
pub use Rattle.fw_terms.specs.declared.plug.PlugAt.{PlugAt}
pub use Rattle.fw_cmp.specs.Controllers.{ControllerState, IsHeard, first_state as new_controller, slot_at}
pub use Rattle.fw_cmp_jobs.specs.Requests.{access_of, addressee_of, offset_of}
pub use Rattle.fw_cmp.specs.Resets.{after_hear, heard}
pub use Rattle.fw_cmp.specs.Starts.{break_fault, break_started}
pub use Rattle.fw_cmp.specs.Turns.{after_next, next}
pub use Rattle.fw_cmp_jobs.specs.declared.connection.Slot.{Slot}
pub use Rattle.fw_cmp.specs.declared.current.Current.{Current}
pub use Rattle.fw_cmp.specs.declared.current.Current.TheVariants.{Asking, Hearing, Nothing, Overtaken}
pub use Rattle.fw_cmp_jobs.specs.declared.directory.Directory.{Directory}
pub use Rattle.fw_cmp_jobs.specs.declared.job.Job.{Job}
pub use Rattle.fw_cmp.specs.declared.outcome.Next.{Next}
pub use Rattle.fw_cmp.specs.declared.outcome.Next.TheVariants.{Deaf, End as EndOf, Force, Idle, Send, Waiting}
pub use Rattle.fw_cmp_jobs.specs.declared.request.Access.{Access}
pub use Rattle.fw_cmp_jobs.specs.declared.request.Target.{Target}
pub use Rattle.fw_cmp_jobs.specs.declared.stage.Stage.{Stage}
pub use Rattle.fw_script_command.specs.declared.command.Command.{Command}
pub use Rattle.fw_csr.specs.Requests.{request_at}
pub use Rattle.fw_csr.specs.declared.register.RegisterAccess.TheVariants.{ReadSwap}
pub use Rattle.fw_csr.specs.declared.reply.Reply.{Reply}
pub use Rattle.fw_csr.specs.declared.request.Request.{Request}
pub use Rattle.fw_devices.proofs.BusLaws.{on_bus_declared}
pub use Rattle.fw_devices.specs.Entries.{IsResetEntry, node_number, row_of}
pub use Rattle.fw_devices.specs.Network.{kind_at}
pub use Rattle.fw_devices.specs.Resets.{Shows}
pub use Rattle.fw_log_entry.specs.Network.{device_of_id, node_of_device, row_of_node}
pub use Rattle.fw_log_entry.specs.declared.entry.Entry.{Entry}
pub use Rattle.fw_log_entry.specs.declared.entry.Entry.TheVariants.{Async, End, End as EndEntry, Event, Iso, Outcome, Reset, Shown}
pub use Rattle.fw_log_entry.specs.declared.entry.ResetEntry.{ResetEntry}
pub use Rattle.fw_log_entry.specs.declared.entry.Timed.{Timed}
pub use Rattle.fw_log_entry.specs.declared.nodes.NodeRow.{NodeRow}
pub use Rattle.fw_fcp.specs.Frames.{spelling}
pub use Rattle.fw_fcp.specs.declared.frame.Frame.{Frame}
pub use Rattle.fw_manager.specs.Bids.{CandidateState, stage_in}
pub use Rattle.fw_manager.specs.declared.candidate.BidProgress.TheVariants.{Heard}
pub use Rattle.fw_node.specs.Packets.{old_bytes, packet_of, response_head}
pub use Rattle.fw_node.specs.Space.{Space, answer_of}
pub use Rattle.fw_model_reclaim.proofs.Together.{goes_on_reclaiming}
pub use Rattle.fw_model_rounds.specs.HalfSteps.{AsksWhatStands}
pub use Rattle.fw_model_run.specs.Actions.{Action, AddCable, AddDevice, Answer, Ask, BecomeCandidate, CarryOut, Contend, Die, EjectTape, EndSecond, Finish, HalfStep, InsertTape, KeepBlock, Lose, Pass}
pub use Rattle.fw_model_run.specs.Actions.{Receive, ResetBus, Rest, SendCommand, SendFrame, SendPacket, ShowWord, Start}
pub use Rattle.fw_model_run.specs.Actions.{StartBreak, StartConnection, StartCycle, TellLoss, TieReel, Unsettled}
pub use Rattle.fw_model_run.specs.Deeds.{Transition, Transitions}
pub use Rattle.fw_model_run.specs.Actions.{Withhold}
pub use Rattle.fw_model_run.proofs.BusResets.{Resets}
pub use Rattle.fw_model_run.specs.Afterwards.{after_cycles, after_death, after_loss, after_reset_entry, after_second, after_start, counted, slot_of, start_of, with_connection}
pub use Rattle.fw_model_run.specs.Afterwards.{with_topology}
pub use Rattle.fw_model_run.specs.Bidding.{bid_at, bid_step, bidden, epoch_at}
pub use Rattle.fw_model_run.specs.Carrying.{Carries, HasCycle, Rounds, SendsAll, SendsPackets, becomes_candidate, breaks}
unfoldable pub use Rattle.fw_model_run.specs.Carrying.{HasCycles}
pub use Rattle.fw_model_run.specs.Carrying.{commanded, connects, contends, declares, dies, dies_idle, dies_late}
pub use Rattle.fw_model_run.specs.Carrying.{dubs, ejects, ejects_nothing, ends, goes_on, half_steps_of, inserts, joins, loses, next_cycle}
pub use Rattle.fw_model_run.specs.Carrying.{none, quiet, resets, rest, round, sends, settled, shows, starts}
pub use Rattle.fw_model_run.specs.Carrying.{stays_candidate, steps, transacts, waits, waits_over, withholds, withholds_already, writes_cycles}
unfoldable pub use Rattle.fw_model_run.specs.Carrying.{times}
pub use Rattle.fw_model_run.specs.Decks.{DeckState, FrameWrite, Obeyed, after_frame, next_frame}
pub use Rattle.fw_model_run.specs.Desks.{DeskRelations, IsFunction}
pub use Rattle.fw_model_run.specs.Dubs.{dub_between}
pub use Rattle.fw_model_run.specs.Elected.{bid_answer}
pub use Rattle.fw_model_run.specs.Entries.{second_over, shown_entry, withheld}
pub use Rattle.fw_model_run.specs.Frames.{frame_packet, next_told, request_of, response_write}
pub use Rattle.fw_model_run.specs.Given.{AreGiven, IsGiven}
pub use Rattle.fw_model_run.specs.Giving.{at_cycle, at_most}
pub use Rattle.fw_model_run.specs.Good.{AreDeclared, Asks, IsGood, IsLatest, world_of}
pub use Rattle.fw_model_run.specs.HalfSteps.{after_half, asks, half, half_of, has_request, head_from, said, taken, with_controller}
pub use Rattle.fw_model_run.specs.Headline.{IsAnswered}
pub use Rattle.fw_model_run.specs.Numbers.{HasNumbers}
pub use Rattle.fw_model_run.specs.Recording.{heard_in}
pub use Rattle.fw_model_run.specs.Runs.{Run, and_then, begun}
pub use Rattle.fw_model_run.specs.Spaces.{access_request, answer_packet, bus_manager_id_after, is_manager, manager_words, read_at, reply_from, space_at, space_of_node, target_node, transaction_head}
pub use Rattle.fw_model_run.specs.State.{Declared, State, device_in, directory_of, entered, epoch_of, first_state, has_deck}
pub use Rattle.fw_model_run.specs.State.{is_deaf, is_linked, is_living, is_on, linked_number, living, manager_in}
unfoldable pub use Rattle.fw_model_run.specs.State.{list_to}
pub use Rattle.fw_model_run.specs.State.{number_in, while_talking, with_device, with_link}
pub use Rattle.fw_model_run.specs.Streams.{GivenBlock, GivesBlock, bytes_of, cycle_start, stream_packet, talkers, tape_at}
pub use Rattle.fw_order.specs.declared.limits.TheConstants.{MOST_HALF_STEPS, MOST_RESETS}
pub use Rattle.fw_order.specs.declared.order.Order.{Order}
pub use Rattle.fw_order.specs.declared.order.Transaction.{Transaction}
pub use Rattle.fw_order.specs.declared.order.Wanted.{Wanted}
pub use Rattle.fw_order.specs.declared.order.Wanted.TheVariants.{BroadcastIn, BroadcastOut, PlugToPlug}
pub use Rattle.fw_model_controllers.specs.Requests.{procedure_head}
pub use Rattle.fw_tree.proofs.ReachLaws.{sound_made}
pub use Rattle.fw_tree.specs.Cables.{IsOnBus}
pub use Rattle.fw_tree.specs.Numbers.{number_at}
pub use Rattle.fw_tree.specs.SelfIds.{facts_at}
pub use Rattle.fw_tree.specs.Topology.{IsJoined, Made, Topology}
pub use Rattle.fw_tree.specs.declared.facts.PhyFacts.{PhyFacts}
pub use Rattle.fw_words.specs.Quadlet.{quadlet_at}
pub use Rattle.fw_words.specs.Swaps.{swap_bytes}
pub use Rattle.fw_words.specs.declared.swap.Swap.{Swap}
pub use Rattle.std.proofs.Common.{Bool, IsFalse, IsTrue, List, None, Option, Some, [], ap, append_assoc, arith, cond, false, inl, inr, is_some, length, nat_le, nat_lt, not, option_map, refl}
pub use Rattle.std.proofs.Common.{slice_get, subst, suc, sym, true, unwrap_or, zero, ℕ, ◌&&◌, ◌*◌, ◌++◌, ◌+◌, ◌-◌, ◌/◌, ◌<◌, ◌==◌, ◌^◌, ◌||◌, ◌∙◌, ◌∷◌, ◌≡◌, ◌≢◌, ◌≤◌, ◌⊎◌}
pub use Rattle.std.proofs.lemmas.Bool.{cases_eq, cases_lt}
pub use Rattle.std.proofs.lemmas.Bool.Decides.{nat_tests}
pub use Rattle.std.proofs.lemmas.Option.{same_Some}
pub use Rattle.std.specs.Int.{to_be_bytes, w32}
pub use Rattle.std.specs.Prelude.{Ok, ⊤}
