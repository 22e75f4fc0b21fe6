-- What most files of proofs import.
pub use Rattle.fw_terms.specs.declared.device.DeviceKind.{DeviceKind}
pub use Rattle.fw_terms.specs.declared.device.DeviceKind.TheVariants.{Relay}
pub use Rattle.fw_devices.specs.Entries.{row_of}
pub use Rattle.fw_devices.specs.Frames.{NetworkFrame}
pub use Rattle.fw_devices.specs.Kept.{IsFound}
pub use Rattle.fw_devices.specs.Network.{Network, kind_at, kinds_of, node_at, same_bytes}
pub use Rattle.fw_log_entry.specs.declared.nodes.NodeRow.{NodeRow}
pub use Rattle.fw_node.specs.State.{NodeState, after_second, first_state}
pub use Rattle.fw_tree.proofs.ReachLaws.{sound_made}
pub use Rattle.fw_tree.specs.Cables.{IsOnBus}
pub use Rattle.fw_tree.specs.Numbers.{number_at}
pub use Rattle.fw_tree.specs.Topology.{Made, Topology}
pub use Rattle.std.proofs.Common.{Bool, List, None, Option, Some, [], ap, arith, false, get_or, inl, inr, length, map, refl, rules, slice_get, slice_set, subst, sym, take, true, ℕ, ◌++◌, ◌+◌, ◌<◌}
pub use Rattle.std.proofs.Common.{◌∙◌, ◌∷◌, ◌≡◌, ◌≤◌}
pub use Rattle.std.proofs.lemmas.Bool.{cases_eq, cases_lt}
pub use Rattle.std.proofs.lemmas.List.{length-map, length_push, with_items_is}
pub use Rattle.std.specs.Vec.{vec_capacity, with_items}
