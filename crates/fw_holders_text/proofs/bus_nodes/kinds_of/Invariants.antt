use Rattle.std.proofs.Common.{◌≡◌, length, take}
use Rattle.fw_holders_text.specs.Kept.{AreKinds}
use Rattle.fw_holders_text.proofs.bus_nodes.kinds_of.Given as goal

abbrev pub invariant-loop-row : goal.invariant-loop-row
invariant-loop-row l = record { size : length l.kinds ≡ 256; are : AreKinds (take l.row-index l.nodes) l.kinds }
