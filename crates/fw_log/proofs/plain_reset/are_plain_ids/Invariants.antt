use Rattle.fw_log.proofs.Common.{length}
use Rattle.fw_log.proofs.PlainResetLaws.{IdsMet}
use Rattle.fw_log.proofs.plain_reset.are_plain_ids.Given as goal

abbrev pub invariant-loop-rest : goal.invariant-loop-rest
invariant-loop-rest l = IdsMet l.bytes l.rest l.turn

abbrev pub decreases-loop-rest : goal.decreases-loop-rest
decreases-loop-rest l = length l.rest
