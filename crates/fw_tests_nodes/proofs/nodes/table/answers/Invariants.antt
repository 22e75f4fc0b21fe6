use Rattle.std.proofs.Common.{IsSome, IsTrue}
use Rattle.fw_terms.specs.Devices.{has_link}
use Rattle.fw_tests_nodes.proofs.nodes.table.answers.Given as goal

abbrev pub invariant-loop-ask : goal.invariant-loop-ask
invariant-loop-ask g l = record { number : IsSome l.node.number; link : IsTrue (has_link l.node.kind) }
