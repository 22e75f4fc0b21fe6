use Rattle.fw_log.proofs.Common.{◌-◌, length}
use Rattle.fw_log.proofs.IdsLaws.{IdsRead}
use Rattle.fw_log.proofs.read_reset.read_ids.Given as goal

abbrev pub invariant-loop-at : goal.invariant-loop-at
invariant-loop-at l = IdsRead l.ids l.bytes l.at

abbrev pub decreases-loop-at : goal.decreases-loop-at
decreases-loop-at l = length l.bytes - l.at
