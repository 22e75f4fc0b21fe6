-- What most files of proofs import.
pub use Rattle.fw_async.specs.declared.packet.Packet.{Packet}
pub use Rattle.fw_log_entry.specs.declared.entry.Entry.TheVariants.{Reset}
pub use Rattle.fw_log_entry.specs.declared.nodes.NodeRow.{NodeRow}
pub use Rattle.fw_log_json.specs.Ids.{id_object, node_objects}
pub use Rattle.fw_log_json.specs.Objects.{object}
unfoldable pub use Rattle.fw_log_json.specs.Objects.{prefix_fields}
pub use Rattle.fw_log_json_packets.proofs.Joins.{coded, counted, moved, one_text, then}
pub use Rattle.fw_log_json_packets.specs.Values.{name_value, number_value}
unfoldable pub use Rattle.fw_log_json_packets.specs.Values.{array, code, field, quoted}
pub use Rattle.fw_log_names.specs.Names.{format_name, function_name, port_name, rcode_name, retry_name, tcode_name}
pub use Rattle.fw_text.specs.Texts.{hex_bytes}
unfoldable pub use Rattle.fw_text.specs.Texts.{hex}
pub use Rattle.fw_phy.specs.declared.packet.PhyPacket.{PhyPacket}
pub use Rattle.std.proofs.Common.{Bool, IfSome, List, None, OnOk, Option, Some, [], ap, append_assoc, arith, codes, decimal, drop, false, get_or, if◌then◌else◌, length, map, refl, subst, suc, sym}
pub use Rattle.std.proofs.Common.{true, ℕ, ◌&&◌, ◌++◌, ◌+◌, ◌<◌, ◌==◌, ◌^◌, ◌∙◌, ◌∷◌, ◌≡◌, ◌≤◌}
pub use Rattle.std.proofs.Math.ListN.{drop_of_length-le}
pub use Rattle.std.proofs.lemmas.Bool.Decides.{nat_tests}
pub use Rattle.std.proofs.lemmas.Result.{on_ok_weaker}
pub use Rattle.std.specs.List.{join_with_byte}
