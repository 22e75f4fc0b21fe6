-- What most files of proofs import.
pub use Rattle.fw_model_account.specs.Account.{Account, Request, counter, has_connection}
pub use Rattle.fw_model_account.specs.Network.{is_input, is_output}
pub use Rattle.fw_terms.specs.Tables.{at_plug}
unfoldable pub use Rattle.fw_terms.specs.Tables.{sum_to}
pub use Rattle.fw_terms.specs.declared.plug.PlugAt.{PlugAt}
pub use Rattle.fw_log_entry.specs.Network.{device_of_id}
pub use Rattle.fw_log_entry.specs.declared.entry.Entry.{Entry}
pub use Rattle.fw_log_entry.specs.declared.entry.Entry.TheVariants.{Async, Iso, Reset}
pub use Rattle.fw_log_entry.specs.declared.entry.ResetEntry.{ResetEntry}
pub use Rattle.fw_log_entry.specs.declared.nodes.NodeRow.{NodeRow}
pub use Rattle.fw_model_audit.specs.Looked.{Asks, Happens, Looked, Other, Replies, Response, Shows, looked, looked_packet}
pub use Rattle.fw_holders.specs.Counts.{IsWithin, entry_judged, packet_judged}
pub use Rattle.fw_holders.specs.Deeds.{packet_told, told}
pub use Rattle.fw_holders.specs.Seated.{ends_in}
pub use Rattle.fw_holders.specs.Table.{input_line, output_line}
unfoldable pub use Rattle.fw_holders.specs.Table.{channel_lines, counts_below, lines_below, plug_lines}
pub use Rattle.fw_holders.specs.Told.{Holds, HolderState, TakesMore, holders, line_of}
unfoldable pub use Rattle.fw_holders.specs.Told.{line, rest_of_line}
pub use Rattle.fw_holders.specs.declared.judged.Judged.{Judged}
pub use Rattle.fw_ledger.specs.Refused.{IsAnswered, ShowsAnswer}
pub use Rattle.fw_account_tables.specs.Stands.{SeatsFor, StandsFor}
pub use Rattle.fw_ledger.specs.declared.answer.Answer.{Answer}
pub use Rattle.fw_account_tables.specs.declared.tables.Seats.{Seats}
pub use Rattle.fw_account_tables.specs.declared.tables.Tables.{Tables}
pub use Rattle.fw_holders_text.specs.Names.{nodes_of, right}
pub use Rattle.fw_words.specs.Quadlet.{field}
pub use Rattle.std.proofs.Common.{Bool, List, None, Ok, OnOk, Option, Some, [], ap, arith, codes, cond, decimal, false, length, nat_lt, refl, slice_index, subst, sym, true, ℕ, ◌++◌, ◌+◌, ◌<◌, ◌==◌}
pub use Rattle.std.proofs.Common.{◌^◌, ◌∙◌, ◌∷◌, ◌≡◌, ◌≤◌}
pub use Rattle.std.proofs.lemmas.Bool.{false≢true}
pub use Rattle.std.proofs.lemmas.List.{append-nil}
