use Rattle.std.proofs.Common.{IsSome, IsTrue}
use Rattle.fw_terms.specs.Devices.{has_link}
use Rattle.fw_tests_nodes.proofs.nodes.packets.packets_in_quadlets.Given as goal

abbrev pub invariant-loop-request : goal.invariant-loop-request
invariant-loop-request g l = record { number : IsSome l.node.number; link : IsTrue (has_link l.node.kind) }
