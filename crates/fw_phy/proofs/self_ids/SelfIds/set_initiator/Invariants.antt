use Rattle.std.proofs.Common.{◌≡◌, ◌++◌, take, drop}
use Rattle.std.specs.Prelude.{map}
use Rattle.fw_phy.specs.Phy.{begun_by}
use Rattle.fw_phy.proofs.self_ids.SelfIds.set_initiator.Given as goal

abbrev pub invariant-loop-packet : goal.invariant-loop-packet
invariant-loop-packet l = l.packets ≡ map (begun_by l.phy) (take l.packet-index l.initial.packets) ++ drop l.packet-index l.initial.packets
