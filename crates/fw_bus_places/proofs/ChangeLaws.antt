-- A machine that was kept and changes into another with the same rest, and a machine that is as good as one that was kept.
use Rattle.std.proofs.Common.{ℕ, ◌≡◌, ◌<◌, List, [], ◌∷◌, length, arith, take, drop, get_or, slice_index_or, sym, ap, subst, ◌∙◌}
use Rattle.fw_async.specs.Wire.{Pairs}
use Rattle.fw_cmp.specs.Losses.{Listening}
use Rattle.fw_node.specs.State.{NodeState}
use Rattle.fw_devices.specs.Frames.{IsOf, frame_of}
use Rattle.fw_devices.specs.Network.{Network}
use Rattle.fw_bus_state.specs.Copies.{controllers_at}
use Rattle.fw_bus_state.specs.Tables.{ControllerTable}
use Rattle.fw_bus_state.specs.declared.machine.Machine.{Machine}
use Rattle.fw_bus_places.specs.declared.places.Places.{Places}
use Rattle.fw_bus_places.specs.declared.rest.Rest.{Rest}
use Rattle.fw_bus_places.specs.Places.{IsRestOf, IsPlace, IsAsGood, HasSameLetters, with_rest}
use Rattle.fw_bus_places.proofs.GiveLaws.{rest_number, devices_of, controllers_of, given_back}

-- a list that has something under a number has something
some_of : {A : Type 0} (xs : List A) (k : ℕ) → k < length xs → A
some_of [] k low = absurd (omega (arith, low))
some_of (x ∷ xs) k low = x

module _ (p : Places) (now words : List ℕ) (m n : Machine) (stands : IsPlace p now m) (place : IsPlace p words n) (same : get_or now 0 0 ≡ get_or words 0 0) where
  -- the rest of the one is that of the other
  abbrev rest : Rest
  rest = get_or p.rests place.rest_at (some_of p.rests place.rest_at place.rest_within)

  rest_is : IsRestOf rest n
  rest_is = place.rest (some_of p.rests place.rest_at place.rest_within)

  rest_was : IsRestOf rest m
  rest_was = let some = some_of p.rests place.rest_at place.rest_within in
      subst (λ (k : ℕ). IsRestOf (get_or p.rests k some) m) (sym (rest_number p now m stands) ∙ (same ∙ rest_number p words n place)) (stands.rest some)

  pub devices_are : (kept : List NodeState) (numbers : List ℕ) → kept ≡ p.nodes → numbers ≡ take (get_or words 5 0) (drop 6 words) → IsOf (frame_of m.devices) kept numbers n.devices
  devices_are kept numbers all at = subst (λ f. IsOf f kept numbers n.devices) (sym rest_was.frame) (devices_of p words n place rest kept numbers rest_is all at)

  pub changed : (devices : Network) (controllers : ControllerTable) (kept : List Listening) (numbers : List ℕ) (reel : List (List ℕ)) (wire bids : Pairs) (half : ℕ) → devices ≡ n.devices
      → controllers ≡ record m.controllers { list = controllers_at kept numbers } → kept ≡ p.controllers → numbers ≡ drop (get_or words 5 0) (drop 6 words) → reel ≡ n.reel → half ≡ n.half_steps
      → HasSameLetters wire n.wire → HasSameLetters bids n.bids
      → IsAsGood (record m { devices = devices; controllers = controllers; reel = reel; wire = wire; bids = bids; half_steps = half }) n
  changed devices controllers kept numbers reel wire bids half same_devices is all at same_reel same_half same_wire same_bids =
      let dead = rest_was.dead in
      let tables : controllers ≡ n.controllers =
      is ∙ (ap (λ f. record { list = controllers_at kept numbers; flags = f }) dead ∙ controllers_of p words n place rest kept numbers rest_is all at) in
      given_back p words n place rest m (record m { devices = devices; controllers = controllers }) devices controllers reel wire bids half rest_is lent
      same_devices tables same_reel same_half same_wire same_bids
    where
      lent : ◌≡◌ {A = Machine} (record m { devices = devices; controllers = controllers }) (with_rest rest (record m { devices = devices; controllers = controllers }))
      lent = λ i. record {
        devices = devices;
        controllers = controllers;
        wire = m.wire;
        directory = rest_was.directory i;
        cycle = rest_was.cycle i;
        reclaiming = rest_was.reclaiming i;
        resets = rest_was.resets i;
        half_steps = m.half_steps;
        written = rest_was.written i;
        streams = rest_was.streams i;
        candidates = rest_was.candidates i;
        bids = m.bids;
        tied = rest_was.tied i;
        reel = m.reel;
      }

-- ---- what is as good as a machine that was kept was kept under its numbers

rest_of : (r : Rest) (n : Machine) (wire bids : Pairs) → IsRestOf r n → IsRestOf r (record n { wire = wire; bids = bids })
rest_of r n wire bids of = record {
  frame = of.frame;
  directory = of.directory;
  cycle = of.cycle;
  reclaiming = of.reclaiming;
  resets = of.resets;
  written = of.written;
  dead = of.dead;
  streams = of.streams;
  candidates = of.candidates;
  tied = of.tied;
}

with_requests : (p : Places) (words : List ℕ) (n : Machine) (wire bids : Pairs) → HasSameLetters wire n.wire → HasSameLetters bids n.bids → IsPlace p words n
    → IsPlace p words (record n { wire = wire; bids = bids })
with_requests p words n wire bids same_wire same_bids place = record {
  rest_at = place.rest_at;
  reel_at = place.reel_at;
  wire_at = place.wire_at;
  bids_at = place.bids_at;
  nodes_are_at = place.nodes_are_at;
  controllers_are_at = place.controllers_are_at;
  words_are = place.words_are;
  few = place.few;
  rest_within = place.rest_within;
  rest = λ d. rest_of (slice_index_or p.rests place.rest_at d) n wire bids (place.rest d);
  reel_within = place.reel_within;
  reel = place.reel;
  wire_within = place.wire_within;
  wire = λ d node. same_wire node ∙ place.wire d node;
  bids_within = place.bids_within;
  bids = λ d node. same_bids node ∙ place.bids d node;
  devices = place.devices;
  controllers_within = place.controllers_within;
  controllers = place.controllers;
}

pub place_good : (p : Places) (words : List ℕ) (m n : Machine) → IsAsGood m n → IsPlace p words n → IsPlace p words m
place_good p words m n good place =
    let P : Machine → Type 0 = IsPlace p words in
    subst P (sym good.same) (with_requests p words n m.wire m.bids good.wire good.bids place)
