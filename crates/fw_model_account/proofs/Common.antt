-- What most files of proofs import.
pub use Rattle.fw_model_account.specs.Account.{Account, Allocation, Connected, Connections, Locks, Pending, allocated, counter, has_connection, is_open, is_pending, is_there}
pub use Rattle.fw_model_account.specs.Decode.{move_at}
pub use Rattle.fw_model_account.specs.Fold.{next_account}
pub use Rattle.fw_model_account.specs.Moves.{AllocateChannel, AllocateUnits, Can, ConnectFirst, ConnectInput, ConnectOverlaid, DisconnectInput, DisconnectOutput, HasConnection, HasRoom, Move}
pub use Rattle.fw_model_account.specs.Moves.{ReleaseChannel, ReleaseUnits, add_connection, after, drop_connection}
pub use Rattle.fw_model_account.specs.Network.{is_input, is_output}
pub use Rattle.fw_model_account.specs.Packets.{ended}
pub use Rattle.fw_model_account.specs.Sound.{IsSound}
pub use Rattle.fw_model_account.specs.Words.{BandwidthAvailable, ChannelsAvailable, InputPlug, Register, bits_word, register_of, word_of}
pub use Rattle.fw_async.specs.declared.packet.Head.{Head}
pub use Rattle.fw_async.specs.declared.packet.Packet.TheVariants.{LockReply}
pub use Rattle.fw_terms.specs.Tables.{update}
unfoldable pub use Rattle.fw_terms.specs.Tables.{sum_to}
pub use Rattle.fw_terms.specs.declared.plug.ConnectionKind.{ConnectionKind}
pub use Rattle.fw_terms.specs.declared.plug.ConnectionKind.TheVariants.{Broadcast, PointToPoint}
pub use Rattle.fw_terms.specs.declared.plug.PlugAt.{PlugAt}
pub use Rattle.fw_log_entry.specs.Network.{device_of_id}
pub use Rattle.fw_log_entry.specs.declared.entry.Entry.TheVariants.{Async}
pub use Rattle.fw_log_entry.specs.declared.entry.ResetEntry.{ResetEntry}
pub use Rattle.fw_log_entry.specs.declared.nodes.NodeRow.{NodeRow}
pub use Rattle.fw_plug.specs.Words.{flag, units_of}
pub use Rattle.fw_words.specs.Quadlet.{field}
pub use Rattle.std.proofs.Common.{Bool, List, None, Option, Some, [], ap, arith, cond, false, inl, inr, is_some, nat_lt, not, refl, subst, suc, sym, true, true≢false, ℕ, ◌&&◌, ◌+◌, ◌-◌, ◌<◌, ◌==◌}
pub use Rattle.std.proofs.Common.{◌^◌, ◌∙◌, ◌∷◌, ◌≡◌, ◌≢◌, ◌≤◌, ◌⊎◌}
pub use Rattle.std.proofs.lemmas.Bool.{false≢true}
pub use Rattle.std.proofs.lemmas.Bool.Decides.{nat_tests}
