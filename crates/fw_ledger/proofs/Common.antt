-- What most files of proofs import.
pub use Rattle.fw_model_account.proofs.Network.{output_in_range}
pub use Rattle.fw_model_account.proofs.Open.{same_open}
pub use Rattle.fw_model_account.specs.Account.{Account, Allocation, Connections, Locks, Request, counter, has_connection, is_free, is_open, is_there}
pub use Rattle.fw_model_account.specs.Decode.{IsMove, move_at}
pub use Rattle.fw_model_account.specs.Moves.{Move}
pub use Rattle.fw_model_account.specs.Network.{is_input, is_output}
pub use Rattle.fw_model_account.specs.Sound.{IsSound}
pub use Rattle.fw_model_account.specs.Words.{word_of}
pub use Rattle.fw_terms.specs.Tables.{update}
pub use Rattle.fw_terms.specs.declared.plug.PlugAt.{PlugAt}
pub use Rattle.fw_log_entry.specs.declared.entry.ResetEntry.{ResetEntry}
pub use Rattle.fw_log_entry.specs.declared.nodes.NodeRow.{NodeRow}
pub use Rattle.fw_ledger.specs.Deaths.{orphaned_charge, orphaned_seats}
pub use Rattle.fw_ledger.specs.Refused.{GoesOn, response_in}
pub use Rattle.fw_ledger.specs.Resets.{AreRates, renewed_seats}
pub use Rattle.fw_account_tables.specs.Stands.{AskedFor, Follows, ResourcesFor, SeatsFor, ShowsReset, StandsFor, allocation_of, charge_at, no_seats, place, seats_at, word_at}
pub use Rattle.fw_account_tables.specs.Swaps.{moved_by}
pub use Rattle.fw_account_tables.specs.declared.tables.Asked.{Asked}
pub use Rattle.fw_account_tables.specs.declared.tables.Asked.TheVariants.{Nothing as NotAsked}
pub use Rattle.fw_account_tables.specs.declared.tables.Charge.{Charge}
pub use Rattle.fw_account_tables.specs.declared.tables.Charge.TheVariants.{Connected, Free, Pending}
pub use Rattle.fw_account_tables.specs.declared.tables.Seats.{Seats}
pub use Rattle.fw_account_tables.specs.declared.tables.Tables.{Tables}
pub use Rattle.fw_plug.specs.Words.{flag, in_word, is_connected, out_word}
pub use Rattle.fw_words.specs.Quadlet.{field}
pub use Rattle.std.proofs.Common.{Bool, Global, List, None, Option, Some, Vec, [], ap, arith, cond, drop, false, get_or, get_or-set_other, get_or-set_same, inl, inr, is_some, length, length-set, map}
pub use Rattle.std.proofs.Common.{nat_lt, not, refl, rules, slice_index, slice_set, subst, suc, sym, take, true, zero, ℕ, ◌%◌, ◌&&◌, ◌*◌, ◌+◌, ◌-◌, ◌/◌, ◌<◌, ◌==◌, ◌^◌, ◌||◌, ◌∙◌, ◌≡◌}
pub use Rattle.std.proofs.Common.{◌≢◌, ◌≤◌, ◌⊎◌}
pub use Rattle.std.proofs.lemmas.Bool.{cases_eq, false≢true}
pub use Rattle.std.proofs.lemmas.Bool.Decides.{nat_tests}
pub use Rattle.std.proofs.lemmas.Result.{err_from_is_err_and}
pub use Rattle.std.specs.Option.{option_map}
pub use Rattle.std.specs.Vec.{with_item}
