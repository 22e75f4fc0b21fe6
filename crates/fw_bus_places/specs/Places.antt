-- A machine by the numbers of its parts.
use Rattle.std.specs.Prelude.{ℕ, ◌≡◌, ◌<◌, ◌≤◌, List, ◌∷◌, ◌++◌, Option, length, slice_index_or}
use Rattle.fw_async.specs.Wire.{Pairs, bytes_from}
use Rattle.fw_async.specs.Letters.{HasLetters}
use Rattle.fw_devices.specs.Frames.{AreWithin, IsOf, frame_of}
use Rattle.fw_bus_state.specs.Copies.{controllers_at}
use Rattle.fw_bus_state.specs.declared.machine.Machine.{Machine}
use Rattle.fw_bus_places.specs.declared.places.Places.{Places}
use Rattle.fw_bus_places.specs.declared.rest.Rest.{Rest}

-- ---- what only lines and bus resets change

-- it is so of a machine
pub record IsRestOf (r : Rest) (m : Machine) : Type 0 where
  pub frame : frame_of m.devices ≡ r.frame.value
  pub directory : m.directory ≡ r.directory
  pub cycle : m.cycle ≡ r.cycle
  pub reclaiming : m.reclaiming ≡ r.reclaiming
  pub resets : m.resets ≡ r.resets
  pub written : m.written ≡ r.written
  pub dead : m.controllers.flags ≡ r.dead
  pub streams : m.streams ≡ r.streams
  pub candidates : m.candidates ≡ r.candidates
  pub tied : m.tied ≡ r.tied

-- a machine with it, but for its devices and controllers
abbrev pub with_rest : Rest → Machine → Machine
with_rest r m = record m {
  directory = r.directory;
  cycle = r.cycle;
  reclaiming = r.reclaiming;
  resets = r.resets;
  written = r.written;
  streams = r.streams;
  candidates = r.candidates;
  tied = r.tied;
}

-- ---- the whole

-- the machine whose parts have these numbers
pub record IsPlace (p : Places) (words : List ℕ) (m : Machine) : Type 0 where
  pub rest_at : ℕ
  pub reel_at : ℕ
  pub wire_at : ℕ
  pub bids_at : ℕ
  pub nodes_are_at : List ℕ
  pub controllers_are_at : List ℕ
  pub words_are : words ≡ rest_at ∷ reel_at ∷ wire_at ∷ bids_at ∷ m.half_steps ∷ length nodes_are_at ∷ (nodes_are_at ++ controllers_are_at)
  pub few : length controllers_are_at ≤ 63
  pub rest_within : rest_at < length p.rests
  pub rest : (d : Rest) → IsRestOf (slice_index_or p.rests rest_at d) m
  pub reel_within : reel_at < length p.reels
  pub reel : (d : List (List ℕ)) → slice_index_or p.reels reel_at d ≡ m.reel
  pub wire_within : wire_at < length p.letters
  pub wire : (d : List (Option (List ℕ))) → HasLetters m.wire (slice_index_or p.letters wire_at d)
  pub bids_within : bids_at < length p.letters
  pub bids : (d : List (Option (List ℕ))) → HasLetters m.bids (slice_index_or p.letters bids_at d)
  pub devices : IsOf (frame_of m.devices) p.nodes nodes_are_at m.devices
  pub controllers_within : AreWithin controllers_are_at (length p.controllers)
  pub controllers : m.controllers.list ≡ controllers_at p.controllers controllers_are_at

-- parts that were kept are still there, under their numbers
pub record AreMore {P : Type 0} (old new : List P) : Type 0 where
  pub more : List P
  pub is : new ≡ old ++ more

pub record IsWider (old new : Places) : Type 0 where
  pub rests : AreMore old.rests new.rests
  pub reels : AreMore old.reels new.reels
  pub letters : AreMore old.letters new.letters
  pub nodes : AreMore old.nodes new.nodes
  pub controllers : AreMore old.controllers new.controllers

-- ---- what is given back

-- the same requests stand of each node
abbrev pub HasSameLetters : Pairs → Pairs → Type 0
HasSameLetters pairs others = (node : ℕ) → bytes_from node pairs ≡ bytes_from node others

-- the two are the same but for the order of the outstanding requests
pub record IsAsGood (m n : Machine) : Type 0 where
  pub same : m ≡ record n { wire = m.wire; bids = m.bids }
  pub wire : HasSameLetters m.wire n.wire
  pub bids : HasSameLetters m.bids n.bids
