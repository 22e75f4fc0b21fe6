use Rattle.std.proofs.Common.{◌≡◌, take}
use Rattle.fw_phy.proofs.copies.same_packets.Given as goal

abbrev pub invariant-loop-n : goal.invariant-loop-n
invariant-loop-n l = take l.n l.packets ≡ take l.n l.others
