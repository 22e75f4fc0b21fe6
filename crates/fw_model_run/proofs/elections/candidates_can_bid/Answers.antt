use Rattle.fw_model_run.proofs.Candidates.{first_candidates, step_candidates, candidate_manager, candidate_bids}
use Rattle.fw_model_run.proofs.elections.candidates_can_bid.Goals as goal

pub returns-clause-first : goal.returns-clause-first
returns-clause-first c = first_candidates

pub returns-clause-actions : goal.returns-clause-actions
returns-clause-actions c = step_candidates

pub returns-clause-lives : goal.returns-clause-lives
returns-clause-lives c = λ s d h is. h.lives d is

pub returns-clause-manager : goal.returns-clause-manager
returns-clause-manager c = λ s d h is. let n = candidate_manager s d h is in (n.number, n.is)

pub returns-clause-bids : goal.returns-clause-bids
returns-clause-bids c = candidate_bids
