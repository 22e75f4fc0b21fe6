-- What most files of proofs import.
pub use Rattle.fw_model_account.proofs.Moves.{moves_keep}
pub use Rattle.fw_model_account.proofs.Network.{output_in_range}
pub use Rattle.fw_model_account.proofs.Open.{same_open}
pub use Rattle.fw_model_account.specs.Account.{Account, Allocation, Connections, Request, counter, has_connection, is_free, is_open, is_pending, is_there}
pub use Rattle.fw_model_account.specs.Decode.{IsMove, allowed, decoded, move_at}
pub use Rattle.fw_model_account.specs.Moves.{Move}
pub use Rattle.fw_model_account.specs.Network.{is_input, is_output}
pub use Rattle.fw_model_account.specs.Sound.{IsSound}
pub use Rattle.fw_model_account.specs.Words.{ChannelsAvailable, word_of}
pub use Rattle.fw_terms.specs.Tables.{update}
unfoldable pub use Rattle.fw_terms.specs.Tables.{find_to}
pub use Rattle.fw_terms.specs.declared.plug.ConnectionKind.{ConnectionKind}
pub use Rattle.fw_terms.specs.declared.plug.PlugAt.{PlugAt}
pub use Rattle.fw_log_entry.specs.declared.entry.ResetEntry.{ResetEntry}
pub use Rattle.fw_log_entry.specs.declared.nodes.NodeRow.{NodeRow}
pub use Rattle.fw_account_tables.specs.Stands.{AskedFor, Follows, ResourcesFor, SeatsFor, ShowsReset, StandsFor, allocation_of, charge_at, no_seats, place, seats_at, word_at}
pub use Rattle.fw_account_tables.specs.Swaps.{connection_value, moved_by, shows_room}
pub use Rattle.fw_account_tables.specs.declared.tables.Asked.{Asked}
pub use Rattle.fw_account_tables.specs.declared.tables.Asked.TheVariants.{Nothing as NotAsked}
pub use Rattle.fw_account_tables.specs.declared.tables.Charge.{Charge}
pub use Rattle.fw_account_tables.specs.declared.tables.Charge.TheVariants.{Connected, Free, Pending}
pub use Rattle.fw_account_tables.specs.declared.tables.Seats.{Seats}
pub use Rattle.fw_account_tables.specs.declared.tables.Tables.{Tables}
pub use Rattle.fw_plug.specs.Units.{units}
pub use Rattle.fw_plug.specs.Words.{flag, in_word, is_connected, out_fields, out_word}
pub use Rattle.fw_words.specs.Quadlet.{field}
pub use Rattle.std.proofs.Common.{Bool, Global, List, None, Option, Some, Vec, [], ap, arith, cond, false, get_or, get_or-set_other, get_or-set_same, inl, inr, is_some, length, length-set}
pub use Rattle.std.proofs.Common.{nat_lt, not, refl, rules, slice_index, slice_set, subst, suc, sym, true, true≢false, zero, ℕ, ◌%◌, ◌&&◌, ◌*◌, ◌+◌, ◌-◌, ◌/◌, ◌<◌, ◌==◌, ◌^◌, ◌||◌, ◌∙◌, ◌≡◌}
pub use Rattle.std.proofs.Common.{◌≢◌, ◌≤◌, ◌⊎◌}
pub use Rattle.std.proofs.lemmas.Bool.{cases_eq, false≢true}
pub use Rattle.std.proofs.lemmas.Bool.Decides.{nat_tests}
pub use Rattle.std.specs.Option.{option_map}
pub use Rattle.std.specs.Vec.{with_item}
