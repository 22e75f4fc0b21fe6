use Rattle.fw_model_audit.proofs.Vouched.{vouched_exactly}
use Rattle.fw_model_audit.proofs.audits_vouch.Goals as goal

pub returns : goal.returns
returns c = vouched_exactly
