use Rattle.std.proofs.Common.{rules}
use Rattle.arrayvec.proofs.ArrayVecLemmas.{filter-from_retain}
use Rattle.fw_watch_requests.specs.Standing.{without_answered}
use Rattle.fw_watch_requests.proofs.taking.retain_unanswered.Goals as goal

pub returns : goal.returns
unfolding without_answered
returns c = filter-from_retain _ _ _ (λ x b f' y called. search rules) _ _ c.retain.ensures
