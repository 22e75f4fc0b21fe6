-- A machine stands for another state that differs only elsewhere.
use Rattle.fw_bus_state.proofs.Common.{◌≡◌, ℕ, ◌+◌, Bool, ap, State, directory_of, Machine, StandsFor, PlugAt, Account, word_of}
use Rattle.fw_model_account.specs.Words.{Register}
use Rattle.fw_model_controllers.specs.Lingering.{SameLinger}
use Rattle.fw_model_run.specs.State.{linked_number, list_to, manager_in}
use Rattle.fw_model_run.specs.Afterwards.{counted}
use Rattle.fw_bus_state.specs.Stands.{seen, devices_at}

-- what a run has of its devices is the same if the account keeps the same of them
pub devices_kept : (s : State) (l : Account) (lingers : PlugAt → Bool) → l.latest ≡ s.account.latest → ((r : Register) → word_of l r ≡ word_of s.account r) → l.withheld ≡ s.account.withheld
    → SameLinger s.account l → ((p : PlugAt) → lingers p ≡ s.dub.lingers p)
    → record (devices_at s) { seen = record (seen s) { latest = l.latest; words = λ r. word_of l r; withheld = l.withheld }; continues = l.continues; lingers = lingers } ≡ devices_at s
devices_kept s l lingers latest words withheld continues hear = λ i. record (devices_at s) {
  seen = record (seen s) { latest = latest i; words = λ r. words r i; withheld = withheld i };
  continues = λ p. continues p i;
  lingers = λ p. hear p i;
}

-- what controllers are told is the same if the latest entry and its cycle are
pub directory_same : (s t : State) → t.account.latest ≡ s.account.latest → t.clock.over_at ≡ s.clock.over_at → directory_of t ≡ directory_of s
directory_same s t latest cycle = λ i. record { node = list_to 63 (linked_number (latest i)); manager = manager_in (latest i); over_at = cycle i }

-- half steps more were given
pub counted_stands : (m : Machine) (s : State) (k : ℕ) → StandsFor m s → StandsFor (record m { half_steps = m.half_steps + k }) (counted s k)
counted_stands m s k st = record {
  devices = st.devices;
  clock = record { cycle = st.clock.cycle; reclaiming = st.clock.reclaiming; half_steps = ap (λ n. n + k) st.clock.half_steps; written = st.clock.written; resets = st.clock.resets };
  table = st.table;
  directory = st.directory;
  wire = st.wire;
  streams = st.streams;
  answered = st.answered;
  unsent = st.unsent;
  election = st.election;
  bids = st.bids;
  reel = st.reel;
  around = st.around;
}

-- another number of bus resets counts
pub resets_stand : (m : Machine) (s : State) (j k : ℕ) → j ≡ k → StandsFor m s → StandsFor (record m { resets = j }) (record s { resets = k })
resets_stand m s j k same st = record {
  devices = st.devices;
  clock = record { cycle = st.clock.cycle; reclaiming = st.clock.reclaiming; half_steps = st.clock.half_steps; written = st.clock.written; resets = same };
  table = st.table;
  directory = st.directory;
  wire = st.wire;
  streams = st.streams;
  answered = st.answered;
  unsent = st.unsent;
  election = st.election;
  bids = st.bids;
  reel = st.reel;
  around = st.around;
}
