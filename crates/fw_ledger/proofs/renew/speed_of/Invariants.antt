use Rattle.fw_ledger.proofs.Common.{◌≡◌, drop}
use Rattle.fw_log_entry.specs.Network.{speed_of}
use Rattle.fw_ledger.proofs.renew.speed_of.Given as goal

abbrev pub invariant-loop-packet : goal.invariant-loop-packet
invariant-loop-packet l = speed_of l.n (drop l.packet-index l.ids) ≡ speed_of l.n l.ids
