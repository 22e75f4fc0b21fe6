use Rattle.fw_tree.specs.Numbering.{IsGreatest}
use Rattle.fw_tree.proofs.cabling.Cabling.manager.Given as goal

abbrev pub invariant-loop-node : goal.invariant-loop-node
invariant-loop-node l = IsGreatest l.self-inside.facts l.n.number l.node l.manager
