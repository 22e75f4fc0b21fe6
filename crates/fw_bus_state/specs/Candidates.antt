-- The table of candidates, against the election of a run.
use Rattle.std.specs.Prelude.{ℕ, ◌≡◌, ◌<◌, ◌≤◌, List, length, Bool, Option, None, slice_index_or}
use Rattle.fw_manager.specs.Bids.{CandidateState}
use Rattle.fw_model_run.specs.Elections.{Election}

-- the candidates of the declared devices, and whether there ever was one
pub record CandidateTable : Type 0 where
  pub list : List (Option CandidateState)
  pub begun : Bool

-- how many devices are declared
abbrev pub count_of : CandidateTable → ℕ
count_of t = length t.list

-- the candidate of a device, if it is one
abbrev pub candidate_in : CandidateTable → ℕ → Option CandidateState
candidate_in t d = slice_index_or t.list d None

-- the candidates of the declared devices are those of the election, and no other device is one
pub record HasElection (t : CandidateTable) (devices : ℕ) (e : Election) : Type 0 where
  pub size : length t.list ≡ devices
  pub begun : t.begun ≡ e.begun
  pub each : (d : ℕ) → d < devices → slice_index_or t.list d None ≡ e.candidates d
  pub others : (d : ℕ) → devices ≤ d → e.candidates d ≡ None
