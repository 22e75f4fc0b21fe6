-- Who is a candidate in a state of a run: what the bus needs to let it bid.
use Rattle.std.specs.Prelude.{ℕ, ◌≡◌, ◌≤◌, ◌&&◌, not, List, Bool, Option, Some, is_some, IsTrue}
use Rattle.fw_terms.specs.declared.device.DeviceKind.{DeviceKind}
use Rattle.fw_terms.specs.Devices.{is_contender, is_capable}
use Rattle.fw_log_entry.specs.declared.entry.ResetEntry.{ResetEntry}
use Rattle.fw_devices.specs.Network.{kind_at}
use Rattle.fw_manager.specs.Bids.{CandidateState}
use Rattle.fw_model_run.specs.State.{State, epoch_of, number_in, linked_number, manager_in}

-- A candidate is a computer whose controller lives. If a device on the bus contends, there is an isochronous resource manager: so there is
-- one if there is a candidate.
pub record AreCandidates (candidates : ℕ → Option CandidateState) (latest : Option ResetEntry) (kinds : List DeviceKind) (dead : ℕ → Bool) : Type 0 where
  pub lives : (d : ℕ) → IsTrue (is_some (candidates d)) → IsTrue (is_some (linked_number latest d) && not (dead d))
  pub capable : (d : ℕ) → IsTrue (is_some (candidates d)) → IsTrue (is_capable (kind_at kinds d))
  -- no bid is of an epoch that is still to come
  pub past : (d : ℕ) (c : CandidateState) → candidates d ≡ Some c → c.epoch ≤ epoch_of latest
  pub manages : (d : ℕ) → IsTrue (is_some (number_in latest d)) → IsTrue (is_contender (kind_at kinds d)) → IsTrue (is_some (manager_in latest))

-- those of a state are such
abbrev pub HasCandidates : State → Type 0
HasCandidates s = AreCandidates s.election.candidates s.account.latest s.declared.kinds s.dead
