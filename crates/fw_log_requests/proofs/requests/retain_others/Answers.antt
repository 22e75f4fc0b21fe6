use Rattle.std.proofs.Common.{rules}
use Rattle.arrayvec.proofs.ArrayVecLemmas.{filter-from_retain}
use Rattle.fw_log_requests.specs.Requests.{without_answered}
use Rattle.fw_log_requests.proofs.requests.retain_others.Goals as goal

pub returns : goal.returns
unfolding without_answered
returns c = filter-from_retain _ _ _ (λ x b f' y called. search rules) _ _ c.retain.ensures
