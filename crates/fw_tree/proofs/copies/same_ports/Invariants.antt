use Rattle.fw_tree.proofs.Common.{◌≡◌, take}
use Rattle.fw_tree.proofs.copies.same_ports.Given as goal

abbrev pub invariant-loop-port : goal.invariant-loop-port
invariant-loop-port l = take l.port l.ports ≡ take l.port l.others
