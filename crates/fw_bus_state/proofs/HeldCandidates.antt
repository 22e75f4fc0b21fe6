-- The candidate that a place of the table holds.
use Rattle.fw_bus_state.proofs.Common.{◌≡◌, ℕ, ◌<◌, List, length, Bool, Option, Some, None, slice_index_or, ap, sym, subst, ◌∙◌, arith, candidate_in}
use Rattle.std.proofs.lemmas.List.{get_or_read}
use Rattle.fw_manager.specs.Bids.{CandidateState}
use Rattle.fw_bus_state.specs.Candidates.{CandidateTable, count_of}

pub held_at : (t : CandidateTable) (list : List (Option CandidateState)) (begun : Bool) (d i : ℕ) (x : Option CandidateState) (c : CandidateState)
    → record { list = list; begun = begun } ≡ t → d < count_of t → i ≡ d → x ≡ slice_index_or list i x → x ≡ Some c → candidate_in t d ≡ Some c
held_at t list begun d i x c is lt same found some = subst (λ (z : CandidateTable). d < count_of z → candidate_in z d ≡ Some c) is go lt
  where
    go : d < length list → slice_index_or list d None ≡ Some c
    go low = sym (get_or_read list i x (omega (arith, low, same)) found None ∙ ap (λ k. slice_index_or list k None) same) ∙ some
