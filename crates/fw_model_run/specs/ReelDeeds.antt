-- Deeds of candidates for the bus manager (IEEE 1394-1995, 8.4.2.5), of the reel, and the end of a script.
use Rattle.std.specs.Prelude.{ℕ, ◌≡◌, ◌<◌, length, List, Option, Some, ⊤, IsTrue, IsFalse}
use Rattle.fw_terms.specs.Devices.{is_capable}
use Rattle.fw_log_entry.specs.declared.entry.Entry.TheVariants.{End}
use Rattle.fw_devices.specs.Network.{kind_at}
use Rattle.fw_order.specs.declared.limits.TheConstants.{MOST_HALF_STEPS}
use Rattle.fw_model_run.specs.Bidding.{bid_step, bidden, is_candidate}
use Rattle.fw_model_run.specs.Elections.{with_new_candidate}
use Rattle.fw_model_run.specs.Entries.{dubbing}
use Rattle.fw_model_run.specs.Recording.{tied_to, with_block}
use Rattle.fw_model_run.specs.State.{State, entered, manager_in, is_living, is_on, has_deck}
use Rattle.fw_model_run.specs.Deed.{Deed, silent, saying}
use Rattle.fw_model_run.specs.Found.{FoundBid}

-- ---- candidates for the bus manager

-- a computer with a living controller, which is no candidate
pub record MayBecomeCandidate (s : State) (d : ℕ) : Type 0 where
  pub lives : IsTrue (is_living s d)
  pub capable : IsTrue (is_capable (kind_at s.declared.kinds d))
  pub fresh : IsFalse (is_candidate s d)

-- it becomes one
abbrev pub becoming_candidate : State → ℕ → Deed
becoming_candidate s d = silent s (MayBecomeCandidate s d) (record s { election = with_new_candidate s.election d })

-- a half step more of a candidate whose controller lives, on a bus that has a manager
pub record MayContend (s : State) (d : ℕ) (found : FoundBid) : Type 0 where
  pub lives : IsTrue (is_living s d)
  pub few : s.half_steps < MOST_HALF_STEPS
  pub candidate : s.election.candidates d ≡ Some found.candidate
  pub manages : manager_in s.account.latest ≡ Some found.manager

-- a half step of a candidate, which is counted
abbrev pub contending : State → ℕ → FoundBid → Deed
contending s d found = record {
  may = MayContend s d found;
  cycle = s.clock.cycle;
  says = (bid_step s d found.manager found.candidate).says;
  after = bidden s d (bid_step s d found.manager found.candidate);
}

-- ---- the reel

-- a deck or a camcorder on the bus
pub record MayTie (s : State) (d : ℕ) : Type 0 where
  pub declared : d < length s.declared.names
  pub deck : IsTrue (has_deck s d)
  pub on : IsTrue (is_on s d)

-- the reel is emptied, and tied to a deck
abbrev pub tying : State → ℕ → Deed
tying s d = saying s (MayTie s d) (dubbing d) (tied_to s d)

-- what the tied deck has heard of a written cycle goes onto the reel, if it has room; the bus writes nothing of it
abbrev pub keeping : State → Option (List ℕ) → Deed
keeping s block = silent s ⊤ (with_block s block)

-- ---- the end

-- the end of the script is written
abbrev pub finishing : State → Deed
finishing s = saying s ⊤ End (record s { account = entered s.account End })
