-- What is kept of a machine after a half step: parts that stay have their numbers still.
use Rattle.std.proofs.Common.{ℕ, ◌≡◌, ◌<◌, ◌≤◌, ◌+◌, ◌++◌, List, [], ◌∷◌, inl, inr, Bool, Option, IsTrue}
use Rattle.std.proofs.Common.{length, map, drop, get_or, set, slice_index, slice_index_or, refl, sym, ap, subst, ◌∙◌, arith}
use Rattle.std.proofs.lemmas.Bool.{cases_eq}
use Rattle.std.proofs.lemmas.List.{append-nil, length-map, length-set, get_or-map, get_or-set_same, get_or-set_other, get_or_default}
use Rattle.fw_kept_parts.specs.Tables.{Keeps, KeepsAll}
use Rattle.fw_async.specs.Wire.{Pairs}
use Rattle.fw_async.specs.Letters.{HasLetters}
use Rattle.fw_cmp.specs.Losses.{Listening, first_listening}
use Rattle.fw_devices.specs.Frames.{AreWithin}
use Rattle.fw_bus_state.specs.declared.machine.Machine.{Machine}
use Rattle.fw_bus_state.specs.Copies.{controllers_at}
use Rattle.fw_bus_state.specs.Halves.{IsHalfFrom}
use Rattle.fw_bus_places.specs.declared.places.Places.{Places}
use Rattle.fw_bus_places.specs.declared.rest.Rest.{Rest}
use Rattle.fw_bus_places.specs.Places.{IsPlace, IsRestOf}
use Rattle.fw_bus_places.proofs.GiveLaws.{reel_number, bids_number, controllers_are, reel_there, bids_there}
use Rattle.fw_bus_places.proofs.KeepingLaws.{AreLetters, IsItself}
use Rattle.fw_bus_places.proofs.PlaceLaws.{more_of, longer, stays}

-- what is there under a number is kept under it
pub still : {P W : Type 0} (IsOf : P → W → Type 0) (old : List P) (whole : W) (n : ℕ) → n < length old → ((d : P) → IsOf (slice_index_or old n d) whole) → Keeps IsOf old old whole n
still IsOf old whole n within at = record { more = []; is = sym (append-nil old); within = within; at = at }

-- what only lines and bus resets change is as before a half step, if streams are
pub rest_after : (r : Rest) (device : ℕ) (asks : Bool) (n m : Machine) → IsRestOf r n → IsHalfFrom device asks n m → m.streams ≡ r.streams → IsRestOf r m
rest_after r device asks n m of half streams = record {
  frame = half.frame ∙ of.frame;
  directory = ap (λ (x : Machine). x.directory) half.rest ∙ of.directory;
  cycle = ap (λ (x : Machine). x.cycle) half.rest ∙ of.cycle;
  reclaiming = ap (λ (x : Machine). x.reclaiming) half.rest ∙ of.reclaiming;
  resets = ap (λ (x : Machine). x.resets) half.rest ∙ of.resets;
  written = ap (λ (x : Machine). x.written) half.rest ∙ of.written;
  dead = half.flags ∙ of.dead;
  streams = streams;
  candidates = ap (λ (x : Machine). x.candidates) half.rest ∙ of.candidates;
  tied = ap (λ (x : Machine). x.tied) half.rest ∙ of.tied;
}

-- ---- parts in a list

module _ {A : Type 0} (first : A) (old list : List A) (now : List ℕ) (within : AreWithin now (length old)) where
  abbrev copies : List A
  copies = map (λ k. slice_index_or old k first) now

  -- one that is a copy has the number of it
  copy_at : (k : ℕ) (d w : A) → k < length now → k < length list → get_or list k first ≡ get_or copies k first → get_or old (slice_index now k) d ≡ get_or list k w
  copy_at k d w low there same =
      get_or_default old (slice_index now k) d first (within k low)
      ∙ (sym (get_or-map (λ j. slice_index_or old j first) now k 0 first low) ∙ (sym same ∙ get_or_default list k first w there))

  pub all_still : (before after : List ℕ) → list ≡ copies → after ≡ before ++ now → KeepsAll IsItself old old list before after
  all_still before after is words = record {
    more = [];
    is = sym (append-nil old);
    numbers = now;
    words = words;
    size = sym size;
    within = within;
    at = λ k d w low. copy_at k d w low (omega (arith, low, size)) (ap (λ (l : List A). get_or l k first) is);
  }
    where
      size : length list ≡ length now
      size = ap length is ∙ length-map now (λ k. slice_index_or old k first)

  pub one_kept : (kept : List A) (before after : List ℕ) (device number : ℕ) → device < length now → length list ≡ length now
      → ((d : ℕ) → (d ≡ device → ⊥) → get_or list d first ≡ get_or copies d first) → (x : A) → x ≡ get_or list device first → Keeps IsItself old kept x number
      → after ≡ before ++ set now device number → KeepsAll IsItself old kept list before after
  one_kept kept before after device number low size others x is k words = record {
    more = k.more;
    is = k.is;
    numbers = set now device number;
    words = words;
    size = length-set now device number ∙ sym size;
    within = λ j here. within_all j (omega (arith, here, length-set now device number));
    at = λ j d w here. at_all j d w (omega (arith, here, length-set now device number));
  }
    where
      more : length old ≤ length kept
      more = longer old kept (more_of IsItself old kept x number k)

      within_all : (j : ℕ) → j < length now → slice_index (set now device number) j < length kept
      within_all j here = elim (cases_eq j device) [
        | inl same ↦ let e = ap (slice_index (set now device number)) same ∙ get_or-set_same now device number 0 low in omega (arith, e, k.within)
        | inr other ↦ let e = get_or-set_other now device j number 0 other in let w = within j here in omega (arith, e, w, more)
      ]

      at_all : (j : ℕ) (d w : A) → j < length now → get_or kept (slice_index (set now device number) j) d ≡ get_or list j w
      at_all j d w here = elim (cases_eq j device) [
        | inl same ↦
            ap (λ n. get_or kept n d) (ap (slice_index (set now device number)) same ∙ get_or-set_same now device number 0 low)
            ∙ (k.at d ∙ (is ∙ (ap (λ n. get_or list n first) (sym same) ∙ get_or_default list j first w (omega (arith, here, size)))))
        | inr other ↦
            ap (λ n. get_or kept n d) (get_or-set_other now device j number 0 other)
            ∙ (stays old kept (slice_index now j) d (more_of IsItself old kept x number k) (within j here) ∙ copy_at j d w here (omega (arith, here, size)) (others j other))
      ]

-- ---- the parts that no half step changes

module _ (p : Places) (now : List ℕ) (n m : Machine) (place : IsPlace p now n) (device : ℕ) (asks : Bool) (half : IsHalfFrom device asks n m) where
  pub reel_kept : (number : ℕ) → number ≡ get_or now 1 0 → Keeps IsItself p.reels p.reels m.reel number
  reel_kept number at = still IsItself p.reels m.reel number (reel_there p now n place number at) (λ d.
      ap (λ k. get_or p.reels k d) (at ∙ reel_number p now n place) ∙ (place.reel d ∙ sym (ap (λ (x : Machine). x.reel) half.rest)))

  pub bids_kept : (letters : List (List (Option (List ℕ)))) (number wire_at : ℕ) → number ≡ get_or now 3 0 → Keeps AreLetters p.letters letters m.wire wire_at
      → Keeps AreLetters letters letters m.bids number
  bids_kept letters number wire_at at wire =
      let more = more_of AreLetters p.letters letters m.wire wire_at wire in
      let within = bids_there p now n place number at in
      let long = longer p.letters letters more in
      still AreLetters letters m.bids number (omega (arith, within, long)) (λ d.
      subst (λ (b : Pairs). HasLetters b (get_or letters number d)) (sym (ap (λ (x : Machine). x.bids) half.rest))
      (subst (HasLetters n.bids) (sym (stays p.letters letters number d more within ∙ ap (λ k. get_or p.letters k d) (at ∙ bids_number p now n place))) (place.bids d)))

  pub others_kept : (numbers : List ℕ) → numbers ≡ drop (get_or now 5 0) (drop 6 now) → (d : ℕ) → (d ≡ device → ⊥)
      → slice_index_or m.controllers.list d first_listening ≡ slice_index_or (controllers_at p.controllers numbers) d first_listening
  others_kept numbers at d other = half.others d other
      ∙ ap (λ (l : List Listening). slice_index_or l d first_listening) (place.controllers ∙ ap (controllers_at p.controllers) (sym (at ∙ controllers_are p now n place)))

  pub few_kept : length m.controllers.list ≤ 63
  few_kept = let e = ap length place.controllers ∙ length-map place.controllers_are_at (λ k. slice_index_or p.controllers k first_listening) in omega (arith, e, half.same_size, place.few)
