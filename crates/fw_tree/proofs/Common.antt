-- What most files of proofs import.
pub use Rattle.fw_phy.specs.declared.packet.PhyPacket.{PhyPacket}
pub use Rattle.fw_tree.specs.Branch.{Ports}
pub use Rattle.fw_tree.specs.Cables.{InRange, IsOnBus, LeadsTo, Peers, Walk, along, here, is_seen, peer, unseen}
pub use Rattle.fw_tree.specs.Forest.{AreCables, HasNoLoop}
pub use Rattle.fw_tree.specs.Numbers.{AreNodes, has_number, is_there, number_at, rank}
unfoldable pub use Rattle.fw_tree.specs.Numbers.{counted, device_at}
pub use Rattle.fw_tree.specs.Parents.{IsOn, IsParent, Settled, parent_at}
pub use Rattle.fw_tree.specs.Rounds.{HasParent, LeavesBy, is_open, open_count, stays}
pub use Rattle.fw_tree.specs.SelfIds.{ArePackets, facts_at}
pub use Rattle.fw_tree.specs.Topology.{IsSound, Made, Topology}
pub use Rattle.fw_tree.specs.declared.facts.End.{End}
pub use Rattle.fw_tree.specs.declared.facts.PhyFacts.{PhyFacts}
pub use Rattle.fw_tree.specs.declared.rounds.Parent.{Parent}
pub use Rattle.std.proofs.Common.{Bool, IfSome, IsTrue, List, None, Option, Some, [], ap, arith, false, get_or-set_other, get_or-set_same, if◌then◌else◌, inl, inr, length, length-set, nat_lt, not}
pub use Rattle.std.proofs.Common.{refl, replicate, slice_index_or, slice_set, subst, suc, sym, take, true, zero, ℕ, ◌&&◌, ◌++◌, ◌+◌, ◌-◌, ◌<◌, ◌==◌, ◌||◌, ◌∙◌, ◌∷◌, ◌≡◌, ◌≤◌, ◌⊎◌}
pub use Rattle.std.proofs.lemmas.Bool.{cases_eq, cases_lt}
pub use Rattle.std.proofs.lemmas.Bool.Decides.{nat_tests}
pub use Rattle.std.proofs.lemmas.List.{get_or_past}
