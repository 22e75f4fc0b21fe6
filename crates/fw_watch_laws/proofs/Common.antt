-- What most files of proofs import.
pub use Rattle.fw_model_account.specs.Account.{Account, Allocation, Locks, Operation, Reads, Request, total}
pub use Rattle.fw_model_account.specs.Decode.{move_at, register_of_move}
pub use Rattle.fw_model_account.specs.Events.{after_second, after_withholding}
pub use Rattle.fw_model_account.specs.Fold.{next_account, no_account}
pub use Rattle.fw_model_account.specs.Moves.{AllocateChannel, AllocateUnits, ConnectFirst, ConnectInput, ConnectOverlaid, DisconnectInput, DisconnectOutput, Move, ReleaseChannel, ReleaseUnits}
pub use Rattle.fw_model_account.specs.Packets.{Locked, Read as ReadReply, Reply, asked, asked_by, ended, is_reply_to, is_swapped, replied}
pub use Rattle.fw_model_account.specs.Sound.{IsSound}
pub use Rattle.fw_model_account.specs.Words.{BandwidthAvailable, ChannelsAvailable, InputPlug, OutputPlug, Register as Place, is_node, register_of, word_of}
pub use Rattle.fw_model_account.specs.Words.{register_at as place_at}
pub use Rattle.fw_async.specs.declared.packet.Head.{Head}
pub use Rattle.fw_async.specs.declared.packet.Packet.{Packet}
pub use Rattle.fw_async.specs.declared.packet.Packet.TheVariants.{CycleStart, Lock as LockRequest, LockReply, ReadBlock, ReadBlockReply, ReadQuadlet, ReadQuadletReply, WriteBlock, WriteQuadlet}
pub use Rattle.fw_async.specs.declared.packet.Packet.TheVariants.{WriteReply}
pub use Rattle.fw_terms.specs.Labels.{label_code}
pub use Rattle.fw_terms.specs.Tables.{update}
pub use Rattle.fw_terms.specs.declared.label.Label.TheVariants.{Procedure}
pub use Rattle.fw_terms.specs.declared.plug.PlugAt.{PlugAt}
pub use Rattle.fw_log_entry.specs.Log.{Fits, InOrder}
pub use Rattle.fw_log_entry.specs.Network.{device_of_id, first_id}
pub use Rattle.fw_log_entry.specs.declared.entry.Entry.{Entry}
pub use Rattle.fw_log_entry.specs.declared.entry.Entry.TheVariants.{Async, End, Event, Iso, Outcome, Reset, Shown}
pub use Rattle.fw_log_entry.specs.declared.entry.EventEntry.{EventEntry}
pub use Rattle.fw_log_entry.specs.declared.entry.ResetEntry.{ResetEntry}
pub use Rattle.fw_log_entry.specs.declared.entry.Timed.{Timed}
pub use Rattle.fw_log_entry.specs.declared.nodes.NodeRow.{NodeRow}
pub use Rattle.fw_model_audit.specs.Looked.{ShowsWords, looked_packet}
pub use Rattle.fw_watch_known.specs.Channels.{channel_at, fresh, undue}
unfoldable pub use Rattle.fw_watch_known.specs.Heard.{after_heard}
unfoldable pub use Rattle.fw_watch_known.specs.Judging.{judged, judged_counts}
pub use Rattle.fw_watch_requests.specs.Standing.{asked_at_register, is_from, is_read, lock_answer, lock_of, node_of, with_request}
unfoldable pub use Rattle.fw_watch_requests.specs.Standing.{answer_of, answered, answers, is_of, made_by, old_word, standing_following}
unfoldable pub use Rattle.fw_watch_requests.specs.Standing.{without_answered, without_same, without_source}
pub use Rattle.fw_watch_known.specs.States.{buried, is_manager, manager_by, no_state}
unfoldable pub use Rattle.fw_watch_known.specs.States.{after_death, ended_second, known_of, node_of_device, reset_state, ticked_second, with_known, with_known_plug}
pub use Rattle.fw_watch_known.specs.Swapped.{holder_of, swapped_by}
unfoldable pub use Rattle.fw_watch_known.specs.Swapped.{swapped, with_holder}
pub use Rattle.fw_watch_requests.specs.declared.asked.Answer.{Answer}
pub use Rattle.fw_watch_requests.specs.declared.asked.Asked.{Asked}
pub use Rattle.fw_watch_requests.specs.declared.asked.Asking.{Asking}
pub use Rattle.fw_watch_requests.specs.declared.asked.Asking.TheVariants.{Read, Swap as SwapOf}
pub use Rattle.fw_watch_known.specs.declared.channel.Channel.{Channel}
pub use Rattle.fw_watch_known.specs.declared.second.Second.{Second}
pub use Rattle.fw_watch_known.specs.declared.state.State.{State}
pub use Rattle.fw_watch_known.specs.declared.swap.Made.{Made}
pub use Rattle.fw_plug.specs.Words.{Settings, flag}
pub use Rattle.fw_watch_remarks.specs.Knowing.{all_known, differing, nothing_known}
unfoldable pub use Rattle.fw_watch_remarks.specs.Knowing.{bit_of}
pub use Rattle.fw_watch_remarks.specs.Registers.{is_managed}
unfoldable pub use Rattle.fw_watch_remarks.specs.Registers.{register_at}
pub use Rattle.fw_watch_remarks.specs.Remarks.{Said, said}
pub use Rattle.fw_watch_remarks.specs.declared.known.Known.{Known}
pub use Rattle.fw_watch_remarks.specs.declared.register.At.{At}
pub use Rattle.fw_watch_remarks.specs.declared.register.WatchedRegister.{WatchedRegister}
pub use Rattle.fw_watch_remarks.specs.declared.register.WatchedRegister.TheVariants.{Bandwidth, ChannelsHigh, ChannelsLow, Input, Output}
pub use Rattle.fw_watch_remarks.specs.declared.remark.Remark.TheVariants.{NewInSecond, UnitsInSecond, Unseen}
pub use Rattle.fw_watch.specs.Answering.{after_answered, after_heeded, after_shown_by, made, with_packet}
unfoldable pub use Rattle.fw_watch.specs.Answering.{after_answer, after_followed, after_found, after_made, after_packet, heed, with_manager}
unfoldable pub use Rattle.fw_watch.specs.Holding.{held_remarks}
unfoldable pub use Rattle.fw_watch.specs.Judging.{judge_remarks}
pub use Rattle.fw_watch.specs.Steps.{after_word, packet_of}
unfoldable pub use Rattle.fw_watch.specs.Steps.{after, after_event, after_shown, after_what, remarks, shown_at, ticked}
pub use Rattle.fw_watch.specs.Watched.{known, known_from}
pub use Rattle.fw_watch.specs.declared.answer.Heed.{Heed}
pub use Rattle.fw_watch.specs.declared.answer.Heed.TheVariants.{Follow, Ignore, Refuse}
pub use Rattle.fw_watch_laws.specs.LastKnown.{Glimpse, IsNumber, IsPlace, answer_glimpse, fixed, glimpse, glimpse_by, is_same_by, known_left, left, word_glimpse, word_left}
pub use Rattle.fw_watch_laws.specs.Orderly.{HasNone, IsOrderly, offset_of}
pub use Rattle.fw_words.specs.Quadlet.{quadlet_at}
pub use Rattle.fw_words.specs.declared.swap.Swap.{Swap}
pub use Rattle.fw_words.specs.declared.swap.TheConstants.{COMPARE_SWAP}
pub use Rattle.std.proofs.Common.{Bool, IfSome, List, None, Option, Some, [], ap, arith, false, get_or, if◌then◌else◌, inl, inr, is_none, is_some, length, nat_le, nat_lt, not, refl, slice_get, subst}
pub use Rattle.std.proofs.Common.{suc, sym, true, true≢false, unwrap_or, zero, ℕ, ◌%◌, ◌&&◌, ◌*◌, ◌++◌, ◌+◌, ◌-◌, ◌<◌, ◌==◌, ◌^◌, ◌||◌, ◌∙◌, ◌∷◌, ◌≡◌, ◌≢◌, ◌≤◌, ◌⊎◌}
pub use Rattle.std.proofs.lemmas.Bool.{cases_Bool, eq-eqb, eqb-true}
pub use Rattle.std.proofs.lemmas.Bool.Decides.{nat_tests}
pub use Rattle.std.proofs.lemmas.List.Elements.{All-filter}
pub use Rattle.std.proofs.lemmas.Option.{same_Some}
pub use Rattle.std.specs.Bool.{⊤}
pub use Rattle.std.specs.List.{All, filter, list_any}
