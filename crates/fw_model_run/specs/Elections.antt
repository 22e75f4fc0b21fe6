-- Candidates for the bus manager in a run (IEEE 1394-1995, 8.4.2.5).
use Rattle.std.specs.Prelude.{ℕ, Bool, true, false, Option, Some, None}
use Rattle.fw_terms.specs.Tables.{update}
use Rattle.fw_manager.specs.Bids.{CandidateState, first_state as new_candidate}

-- who is a candidate for the bus manager, by device
pub record Election : Type 0 where
  pub begun : Bool  -- a computer was made a candidate: from then on the script swaps BUS_MANAGER_ID no more
  pub candidates : ℕ → Option CandidateState  -- by device; none if it is no candidate

-- nobody is a candidate, and nobody was
abbrev pub no_election : Election
no_election = record { begun = false; candidates = λ d. None }

-- the candidate of device d is this one, or it is none
abbrev pub with_candidate : Election → ℕ → Option CandidateState → Election
with_candidate e d c = record e { candidates = update e.candidates d c }

-- device d becomes one
abbrev pub with_new_candidate : Election → ℕ → Election
with_new_candidate e d = record { begun = true; candidates = update e.candidates d (Some new_candidate) }
