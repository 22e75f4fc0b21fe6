-- A round of all controllers that have begun takes in each one with something to restore.
use Rattle.fw_model_rounds.proofs.Common.{◌≡◌, ℕ, ◌<◌, Some, List, ap, arith, ◌⊎◌, inl, inr, to_come, Situation, times, IsRound}
use Rattle.std.specs.Prelude.{slice_get}
use Rattle.fw_cmp.specs.Controllers.{first_state}
use Rattle.fw_model_rounds.proofs.EightRounds.{times_member}
use Rattle.fw_model_rounds.proofs.Resets.{first_has_none}

pub round_of_members : (ks : List ℕ) (s : Situation) → ((k : ℕ) → k < 63 → (s.at k ≡ first_state) ⊎ ((i : ℕ) × (slice_get ks i ≡ Some k))) → IsRound ks s
round_of_members ks s members k lt some = go (members k lt)
  where
    go : (s.at k ≡ first_state) ⊎ ((i : ℕ) × (slice_get ks i ≡ Some k)) → 0 < times k ks
    go (inl e) = absurd (omega (arith, ap to_come e, first_has_none, some))
    go (inr m) = times_member k m.0 ks m.1
