use Rattle.fw_cmp.proofs.Works.{heard_unless}
use Rattle.fw_cmp.proofs.Common.{false≢true}
use Rattle.fw_cmp.proofs.work.ActiveJob.new.Goals as goal

pub invariant_of-result-2 : goal.invariant_of-result-2
invariant_of-result-2 c = record { heard = heard_unless c.args.current c.in_default.not-Hearing; asking = λ e. absurd (false≢true e) }
