-- Machines that were kept stay under their numbers, and what is kept of one are the numbers of its parts.
use Rattle.std.proofs.Common.{ℕ, suc, ◌≡◌, ◌<◌, ◌≤◌, ◌+◌, ◌++◌, List, [], ◌∷◌, length, map, get_or, slice_index, slice_index_or, refl, sym, ap, subst, ◌∙◌, arith, append_assoc}
use Rattle.std.proofs.lemmas.List.{length-append, length-map, get_or_append_left, get_or-map, same_lists}
use Rattle.fw_kept_parts.specs.Tables.{Keeps, KeepsAll}
use Rattle.fw_async.specs.Letters.{HasLetters}
use Rattle.fw_cmp.specs.Losses.{first_listening}
use Rattle.fw_devices.specs.Frames.{AreWithin, IsOf, nodes_at}
use Rattle.fw_devices.specs.Network.{Network, node_at}
use Rattle.fw_bus_state.specs.Copies.{controllers_at}
use Rattle.fw_bus_state.specs.declared.machine.Machine.{Machine}
use Rattle.fw_bus_places.specs.declared.places.Places.{Places}
use Rattle.fw_bus_places.specs.Places.{IsRestOf, IsPlace, AreMore, IsWider}

-- ---- parts that were kept before

pub more_of : {P W : Type 0} (IsOf : P → W → Type 0) (old new : List P) (whole : W) (n : ℕ) → Keeps IsOf old new whole n → AreMore old new
more_of IsOf old new whole n k = record { more = k.more; is = k.is }

pub more_all : {P W : Type 0} (IsOf : P → W → Type 0) (old new : List P) (wholes : List W) (out now : List ℕ) → KeepsAll IsOf old new wholes out now → AreMore old new
more_all IsOf old new wholes out now k = record { more = k.more; is = k.is }

pub more_more : {P : Type 0} (old mid new : List P) → AreMore old mid → AreMore mid new → AreMore old new
more_more old mid new one other = record {
  more = one.more ++ other.more;
  is = other.is ∙ ap (λ l. l ++ other.more) one.is ∙ append_assoc old one.more other.more;
}

pub longer : {P : Type 0} (old new : List P) → AreMore old new → length old ≤ length new
longer old new m = let e = ap length m.is ∙ length-append old m.more in omega (arith, e)

-- what is under a number stays there
pub stays : {P : Type 0} (old new : List P) (n : ℕ) (d : P) → AreMore old new → n < length old → get_or new n d ≡ get_or old n d
stays old new n d m h = ap (λ l. get_or l n d) m.is ∙ get_or_append_left old m.more d n h

pub all_stay : {P : Type 0} (old new : List P) (d : P) (numbers : List ℕ) → AreMore old new → AreWithin numbers (length old) → map (λ k. get_or new k d) numbers ≡ map (λ k. get_or old k d) numbers
all_stay old new d [] m within = refl
all_stay old new d (n ∷ numbers) m within =
    ap (λ x. x ∷ map (λ k. get_or new k d) numbers) (stays old new n d m (within 0 (omega arith)))
    ∙ ap (λ t. get_or old n d ∷ t) (all_stay old new d numbers m (λ j h. within (suc j) (omega (arith, h))))

pub within_more : {P : Type 0} (old new : List P) (numbers : List ℕ) → AreMore old new → AreWithin numbers (length old) → AreWithin numbers (length new)
within_more old new numbers m within d h = let w = within d h in let l = longer old new m in omega (arith, w, l)

-- so a machine that was kept is kept still
pub place_stays : (p q : Places) (words : List ℕ) (m : Machine) → IsWider p q → IsPlace p words m → IsPlace q words m
place_stays p q words m wider place = record {
  rest_at = place.rest_at;
  reel_at = place.reel_at;
  wire_at = place.wire_at;
  bids_at = place.bids_at;
  nodes_are_at = place.nodes_are_at;
  controllers_are_at = place.controllers_are_at;
  words_are = place.words_are;
  few = place.few;
  rest_within = let l = longer p.rests q.rests wider.rests in omega (arith, place.rest_within, l);
  rest = λ d. subst (λ r. IsRestOf r m) (sym (stays p.rests q.rests place.rest_at d wider.rests place.rest_within)) (place.rest d);
  reel_within = let l = longer p.reels q.reels wider.reels in omega (arith, place.reel_within, l);
  reel = λ d. stays p.reels q.reels place.reel_at d wider.reels place.reel_within ∙ place.reel d;
  wire_within = let l = longer p.letters q.letters wider.letters in omega (arith, place.wire_within, l);
  wire = λ d. subst (HasLetters m.wire) (sym (stays p.letters q.letters place.wire_at d wider.letters place.wire_within)) (place.wire d);
  bids_within = let l = longer p.letters q.letters wider.letters in omega (arith, place.bids_within, l);
  bids = λ d. subst (HasLetters m.bids) (sym (stays p.letters q.letters place.bids_at d wider.letters place.bids_within)) (place.bids d);
  devices = record {
    network = place.devices.network;
    few = place.devices.few;
    same = place.devices.same;
    frame = place.devices.frame;
    within = within_more p.nodes q.nodes place.nodes_are_at wider.nodes place.devices.within;
    nodes = place.devices.nodes ∙ sym (all_stay p.nodes q.nodes _ place.nodes_are_at wider.nodes place.devices.within);
  };
  controllers_within = within_more p.controllers q.controllers place.controllers_are_at wider.controllers place.controllers_within;
  controllers = place.controllers ∙ sym (all_stay p.controllers q.controllers first_listening place.controllers_are_at wider.controllers place.controllers_within);
}

-- ---- parts of one kind

-- the parts of wholes that are parts themselves are these
pub parts_are : {P : Type 0} (old new wholes : List P) (out now : List ℕ) (d : P) (k : KeepsAll (λ (p w : P). p ≡ w) old new wholes out now) → wholes ≡ map (λ n. get_or new n d) k.numbers
parts_are old new wholes out now d k = sym (same_lists (map (λ n. get_or new n d) k.numbers) wholes (length-map k.numbers (λ n. get_or new n d) ∙ k.size) (λ i w h.
    let low : i < length k.numbers = omega (arith, h, length-map k.numbers (λ n. get_or new n d)) in
    get_or-map (λ n. get_or new n d) k.numbers i 0 w low ∙ k.at i d w low))
