use Rattle.fw_ledger.proofs.Common.{◌≡◌, take}
use Rattle.fw_ledger.proofs.counts.same_nodes.Given as goal

abbrev pub invariant-loop-row : goal.invariant-loop-row
invariant-loop-row l = l.same ≡ take l.row-index l.nodes
