use Rattle.std.proofs.Common.{◌≡◌, None, IsSome, IsTrue}
use Rattle.fw_terms.specs.Devices.{has_link}
use Rattle.fw_tests_nodes.proofs.nodes.frames.commands.Given as goal

abbrev pub invariant-loop-packet : goal.invariant-loop-packet
invariant-loop-packet g l = record { number : IsSome l.node.number; link : IsTrue (has_link l.node.kind); given : l.node.waiting ≡ None }
