use Rattle.std.proofs.Common.{◌≡◌, take}
use Rattle.fw_holders_text.proofs.bus_nodes.same_nodes.Given as goal

abbrev pub invariant-loop-row : goal.invariant-loop-row
invariant-loop-row l = l.same ≡ take l.row-index l.nodes
