-- The bid of a candidate: what it asks, and how it ends (IEEE 1394-1995, 8.4.2.5).
use Rattle.std.specs.Prelude.{ℕ, ◌==◌, Bool, true, false, Some, if◌then◌else◌}
use Rattle.fw_csr.specs.declared.offset.TheConstants.{BUS_MANAGER_ID}
use Rattle.fw_csr.specs.Requests.{request_at}
use Rattle.fw_csr.specs.declared.request.Request.{Request}
use Rattle.fw_manager.specs.declared.bid.Bid.{Bid}
use Rattle.fw_manager.specs.declared.bid.Bid.TheVariants.{Send, Elected, Defeated, Done}
use Rattle.fw_manager.specs.declared.candidate.BidProgress.{BidProgress}
use Rattle.fw_manager.specs.declared.candidate.BidProgress.TheVariants.{Fresh, Asked, Heard, Answered}

-- the epoch of the latest bid, and how far that came
pub record CandidateState : Type 0 where
  pub epoch : ℕ
  pub stage : BidProgress

-- no bid was made yet
abbrev pub first_state : CandidateState
first_state = record { epoch = 0; stage = Fresh }

-- how far the bid of an epoch has come
abbrev pub stage_in : ℕ → CandidateState → BidProgress
stage_in epoch c = if c.epoch == epoch then c.stage else Fresh

-- the lock request of the bid stands
abbrev pub is_asked : BidProgress → Bool
is_asked Asked = true
is_asked Fresh = false
is_asked (Heard word) = false
is_asked Answered = false

-- the candidate's request of an epoch stands
abbrev pub is_standing_in : ℕ → CandidateState → Bool
is_standing_in epoch c = is_asked (stage_in epoch c)

-- the compare_swap of BUS_MANAGER_ID from the word for no bus manager to the number of the candidate's node
abbrev pub bid_request : ℕ → Request
bid_request node = request_at BUS_MANAGER_ID (Some (record { argument = 0x3F; new = node }))

-- what a candidate does next, by the stage of its bid
abbrev pub bid_of : ℕ → ℕ → BidProgress → Bid
bid_of node manager Fresh = Send manager (bid_request node)
bid_of node manager Asked = Done
bid_of node manager (Heard word) = if word == 0x3F then Elected else Defeated word
bid_of node manager Answered = Done

-- what the candidate does next
abbrev pub next : ℕ → ℕ → ℕ → CandidateState → Bid
next epoch node manager c = bid_of node manager (stage_in epoch c)

-- the stage of a bid after the candidate's turn
abbrev pub stage_after : BidProgress → BidProgress
stage_after Fresh = Asked
stage_after Asked = Answered
stage_after (Heard word) = Answered
stage_after Answered = Answered

-- the candidate after its turn in an epoch
abbrev pub after_next : ℕ → CandidateState → CandidateState
after_next epoch c = record { epoch = epoch; stage = stage_after (stage_in epoch c) }

-- it has heard the word that its compare_swap found
abbrev pub after_hear : ℕ → CandidateState → CandidateState
after_hear word c = record { epoch = c.epoch; stage = Heard word }
