-- What most files of proofs import.
pub use Rattle.fw_log_entry.specs.Network.{speed_of}
pub use Rattle.fw_log_entry.specs.declared.entry.ResetEntry.{ResetEntry}
unfoldable pub use Rattle.fw_map.specs.Faults.{branches}
pub use Rattle.fw_map.specs.Fields.{IsLast, field_in, field_of, fields}
pub use Rattle.fw_map.specs.Growing.{Agrees, Grown, Joining, is_open}
pub use Rattle.fw_map.specs.Trees.{Hangs, HasPackets, HasSizes, at_root, down_to, speed_at}
pub use Rattle.fw_map.specs.declared.tree.Tree.{Tree}
pub use Rattle.fw_phy.specs.Phy.{Fits}
pub use Rattle.fw_phy.specs.declared.packet.PhyPacket.{PhyPacket}
pub use Rattle.fw_tree.proofs.CountLaws.{counted_else, counted_none, counted_same, counted_yes, counted_zero}
pub use Rattle.fw_tree.proofs.ForestLaws.{truth}
pub use Rattle.fw_tree.specs.Numbers.{counted, is_there, number_at}
pub use Rattle.fw_tree.specs.Paths.{comes_before}
pub use Rattle.std.proofs.Common.{Bool, List, None, Option, Some, [], ap, append_assoc, arith, codes, drop, false, if◌then◌else◌, inl, inr, length, nat_lt, not, refl, slice_get, slice_index}
pub use Rattle.std.proofs.Common.{slice_index_or, slice_set, string_bytes, subst, suc, sym, true, unwrap_or, zero, ℕ, ◌&&◌, ◌++◌, ◌+◌, ◌-◌, ◌<◌, ◌==◌, ◌∙◌, ◌∷◌, ◌≡◌, ◌≤◌, ◌⊎◌}
pub use Rattle.std.proofs.lemmas.Bool.{cases_eq, cases_lt, eq-eqb, ne_eqb}
pub use Rattle.std.proofs.lemmas.Bool.Decides.{nat_tests}
pub use Rattle.std.specs.List.{All}
