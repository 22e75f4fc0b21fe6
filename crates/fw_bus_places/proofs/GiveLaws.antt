-- The numbers of a machine that was kept, and the machine that is given back.
use Rattle.std.proofs.Common.{ℕ, ◌≡◌, ◌<◌, ◌≤◌, ◌+◌, ◌++◌, List, [], Option, None, length, take, drop, get_or, slice_index_or, refl, sym, ap, subst, ◌∙◌, arith}
use Rattle.std.proofs.lemmas.List.{length-append, take_at, drop_at}
use Rattle.fw_async.specs.Wire.{Pairs}
use Rattle.fw_async.specs.Letters.{HasLetters}
use Rattle.fw_cmp.specs.Losses.{Listening}
use Rattle.fw_node.specs.State.{NodeState}
use Rattle.fw_devices.specs.Frames.{AreWithin, IsOf}
use Rattle.fw_devices.specs.Network.{Network}
use Rattle.fw_bus_state.specs.Copies.{controllers_at}
use Rattle.fw_bus_state.specs.Tables.{ControllerTable}
use Rattle.fw_bus_state.specs.declared.machine.Machine.{Machine}
use Rattle.fw_bus_places.specs.declared.places.Places.{Places}
use Rattle.fw_bus_places.specs.declared.rest.Rest.{Rest}
use Rattle.fw_bus_places.specs.Places.{IsRestOf, IsPlace, IsAsGood, HasSameLetters, with_rest}

module _ (p : Places) (words : List ℕ) (n : Machine) (place : IsPlace p words n) where
  -- ---- the numbers

  pub rest_number : get_or words 0 0 ≡ place.rest_at
  rest_number = ap (λ l. get_or l 0 0) place.words_are

  pub reel_number : get_or words 1 0 ≡ place.reel_at
  reel_number = ap (λ l. get_or l 1 0) place.words_are

  wire_number : get_or words 2 0 ≡ place.wire_at
  wire_number = ap (λ l. get_or l 2 0) place.words_are

  pub bids_number : get_or words 3 0 ≡ place.bids_at
  bids_number = ap (λ l. get_or l 3 0) place.words_are

  pub half_number : get_or words 4 0 ≡ n.half_steps
  half_number = ap (λ l. get_or l 4 0) place.words_are

  count_is : get_or words 5 0 ≡ length place.nodes_are_at
  count_is = ap (λ l. get_or l 5 0) place.words_are

  pub count_fits : 6 + get_or words 5 0 ≤ length words
  count_fits =
      let size = ap length place.words_are in
      let both = length-append place.nodes_are_at place.controllers_are_at in
      omega (arith, size, both, count_is)

  numbers_are : drop 6 words ≡ place.nodes_are_at ++ place.controllers_are_at
  numbers_are = ap (drop 6) place.words_are

  pub nodes_are : take (get_or words 5 0) (drop 6 words) ≡ place.nodes_are_at
  nodes_are = ap (λ k. take k (drop 6 words)) count_is ∙ ap (take (length place.nodes_are_at)) numbers_are ∙ take_at place.nodes_are_at place.controllers_are_at (length place.nodes_are_at) refl

  pub controllers_are : drop (get_or words 5 0) (drop 6 words) ≡ place.controllers_are_at
  controllers_are = ap (λ k. drop k (drop 6 words)) count_is ∙ ap (drop (length place.nodes_are_at)) numbers_are ∙ drop_at place.nodes_are_at place.controllers_are_at (length place.nodes_are_at) refl

  -- ---- that there is something under each

  pub rest_there : (number : ℕ) → number ≡ get_or words 0 0 → number < length p.rests
  rest_there number at = omega (arith, at, rest_number, place.rest_within)

  pub reel_there : (number : ℕ) → number ≡ get_or words 1 0 → number < length p.reels
  reel_there number at = omega (arith, at, reel_number, place.reel_within)

  pub wire_there : (number : ℕ) → number ≡ get_or words 2 0 → number < length p.letters
  wire_there number at = omega (arith, at, wire_number, place.wire_within)

  pub bids_there : (number : ℕ) → number ≡ get_or words 3 0 → number < length p.letters
  bids_there number at = omega (arith, at, bids_number, place.bids_within)

  -- ---- what it is

  pub rest_of : (number : ℕ) (r : Rest) → number ≡ get_or words 0 0 → ((d : Rest) → get_or p.rests number d ≡ r) → IsRestOf r n
  rest_of number r at is = subst (λ x. IsRestOf x n) (ap (λ k. get_or p.rests k r) (sym (at ∙ rest_number)) ∙ is r) (place.rest r)

  pub devices_of : (r : Rest) (kept : List NodeState) (numbers : List ℕ) → IsRestOf r n → kept ≡ p.nodes → numbers ≡ take (get_or words 5 0) (drop 6 words) → IsOf r.frame.value kept numbers n.devices
  devices_of r kept numbers of same at =
      subst (λ (k : List NodeState). IsOf r.frame.value k numbers n.devices) (sym same) (subst (λ (x : List ℕ). IsOf r.frame.value p.nodes x n.devices) (sym (at ∙ nodes_are)) (record {
        network = place.devices.network;
        few = place.devices.few;
        same = place.devices.same;
        frame = of.frame;
        within = place.devices.within;
        nodes = place.devices.nodes;
      }))

  pub few_of : (numbers : List ℕ) → numbers ≡ drop (get_or words 5 0) (drop 6 words) → length numbers ≤ 63
  few_of numbers at = let e = ap length (at ∙ controllers_are) in omega (arith, e, place.few)

  pub within_of : (kept : List Listening) (numbers : List ℕ) → kept ≡ p.controllers → numbers ≡ drop (get_or words 5 0) (drop 6 words) → AreWithin numbers (length kept)
  within_of kept numbers same at =
      subst (λ (x : List ℕ). AreWithin x (length kept)) (sym (at ∙ controllers_are)) (subst (λ (k : List Listening). AreWithin place.controllers_are_at (length k)) (sym same) place.controllers_within)

  pub controllers_of : (r : Rest) (kept : List Listening) (numbers : List ℕ) → IsRestOf r n → kept ≡ p.controllers → numbers ≡ drop (get_or words 5 0) (drop 6 words)
      → ◌≡◌ {A = ControllerTable} (record { list = controllers_at kept numbers; flags = r.dead }) n.controllers
  controllers_of r kept numbers of same at =
      let numbered = at ∙ controllers_are in
      let list : controllers_at kept numbers ≡ n.controllers.list = (λ i. controllers_at (same i) (numbered i)) ∙ sym place.controllers in
      let flags = sym of.dead in
      λ i. record { list = list i; flags = flags i }

  pub reel_of : (number : ℕ) (reel : List (List ℕ)) → number ≡ get_or words 1 0 → ((d : List (List ℕ)) → reel ≡ get_or p.reels number d) → reel ≡ n.reel
  reel_of number reel at is = is [] ∙ ap (λ k. get_or p.reels k []) (at ∙ reel_number) ∙ place.reel []

  pub wire_of : (number : ℕ) (wire : Pairs) → number ≡ get_or words 2 0 → ((d : List (Option (List ℕ))) → HasLetters wire (get_or p.letters number d)) → HasSameLetters wire n.wire
  wire_of number wire at has node = has [] node ∙ ap (λ k. slice_index_or (get_or p.letters k []) node None) (at ∙ wire_number) ∙ sym (place.wire [] node)

  pub bids_of : (number : ℕ) (bids : Pairs) → number ≡ get_or words 3 0 → ((d : List (Option (List ℕ))) → HasLetters bids (get_or p.letters number d)) → HasSameLetters bids n.bids
  bids_of number bids at has node = has [] node ∙ ap (λ k. slice_index_or (get_or p.letters k []) node None) (at ∙ bids_number) ∙ sym (place.bids [] node)

  -- ---- the machine

  pub given_back : (r : Rest) (old lent : Machine) (devices : Network) (controllers : ControllerTable) (reel : List (List ℕ)) (wire bids : Pairs) (half : ℕ) → IsRestOf r n
      → lent ≡ with_rest r (record old { devices = devices; controllers = controllers }) → devices ≡ n.devices → controllers ≡ n.controllers → reel ≡ n.reel → half ≡ n.half_steps
      → HasSameLetters wire n.wire → HasSameLetters bids n.bids → IsAsGood (record lent { reel = reel; wire = wire; bids = bids; half_steps = half }) n
  given_back r old lent devices controllers reel wire bids half of is same_devices same_controllers same_reel same_half same_wire same_bids =
      let directory = sym of.directory in
      let cycle = sym of.cycle in
      let reclaiming = sym of.reclaiming in
      let resets = sym of.resets in
      let written = sym of.written in
      let streams = sym of.streams in
      let candidates = sym of.candidates in
      let tied = sym of.tied in
      record {
        same = ap (λ (x : Machine). record x { reel = reel; wire = wire; bids = bids; half_steps = half }) is ∙ (λ i. record {
          devices = same_devices i;
          controllers = same_controllers i;
          wire = wire;
          directory = directory i;
          cycle = cycle i;
          reclaiming = reclaiming i;
          resets = resets i;
          half_steps = same_half i;
          written = written i;
          streams = streams i;
          candidates = candidates i;
          bids = bids;
          tied = tied i;
          reel = same_reel i;
        });
        wire = same_wire;
        bids = same_bids;
      }
