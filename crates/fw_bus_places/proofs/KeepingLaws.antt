-- The numbers of the parts of a machine, once all are kept.
use Rattle.std.proofs.Common.{ℕ, ◌≡◌, ◌<◌, ◌≤◌, ◌++◌, List, [], ◌∷◌, Option, length, slice_index, sym, ap, subst, ◌∙◌, refl, arith}
use Rattle.fw_kept_parts.specs.Tables.{Keeps, KeepsAll}
use Rattle.fw_async.specs.Wire.{Pairs}
use Rattle.fw_async.specs.Letters.{HasLetters}
use Rattle.fw_cmp.specs.Losses.{Listening, first_listening}
use Rattle.fw_node.specs.State.{NodeState}
use Rattle.fw_devices.specs.Network.{Network, IsNetwork, node_at}
use Rattle.fw_devices.specs.Frames.{IsOf, frame_of}
use Rattle.fw_bus_state.specs.declared.machine.Machine.{Machine}
use Rattle.fw_bus_places.specs.declared.places.Places.{Places}
use Rattle.fw_bus_places.specs.declared.rest.Rest.{Rest}
use Rattle.fw_bus_places.specs.Places.{IsRestOf, IsPlace, IsWider}
use Rattle.fw_bus_places.proofs.PlaceLaws.{more_of, more_all, more_more, longer, stays, parts_are}

-- what is kept of requests
abbrev pub AreLetters : List (Option (List ℕ)) → Pairs → Type 0
AreLetters letters wire = HasLetters wire letters

-- a node, a controller or a reel is kept as it is
abbrev pub IsItself : {P : Type 0} → P → P → Type 0
IsItself kept part = kept ≡ part

module _ (p : Places) (m : Machine) (rests : List Rest) (reels : List (List (List ℕ))) (mid letters : List (List (Option (List ℕ)))) (nodes : List NodeState) (controllers : List Listening)
    (n0 n1 n2 n3 count : ℕ)
    (prefix words : List ℕ) (rest : Keeps IsRestOf p.rests rests m n0) (reel : Keeps IsItself p.reels reels m.reel n1) (wire : Keeps AreLetters p.letters mid m.wire n2)
    (bids : Keeps AreLetters mid letters m.bids n3)
    (all_nodes : KeepsAll IsItself p.nodes nodes m.devices.nodes (n0 ∷ n1 ∷ n2 ∷ n3 ∷ m.half_steps ∷ count ∷ []) prefix)
    (all_controllers : KeepsAll IsItself p.controllers controllers m.controllers.list prefix words) where
  abbrev pub places : Places
  places = record { rests = rests; reels = reels; letters = letters; nodes = nodes; controllers = controllers; turns = tt; requests = tt; next_nodes = tt; next_controllers = tt }

  pub kept_wider : IsWider p places
  kept_wider = record {
    rests = more_of IsRestOf p.rests rests m n0 rest;
    reels = more_of IsItself p.reels reels m.reel n1 reel;
    letters = more_more p.letters mid letters (more_of AreLetters p.letters mid m.wire n2 wire) (more_of AreLetters mid letters m.bids n3 bids);
    nodes = more_all IsItself p.nodes nodes m.devices.nodes (n0 ∷ n1 ∷ n2 ∷ n3 ∷ m.half_steps ∷ count ∷ []) prefix all_nodes;
    controllers = more_all IsItself p.controllers controllers m.controllers.list prefix words all_controllers;
  }

  pub kept_place : IsNetwork m.devices → length m.devices.names ≤ 63 → length m.devices.nodes ≡ length m.devices.names → count ≡ length m.devices.nodes → length m.controllers.list ≤ 63
      → IsPlace places words m
  kept_place network few same counted few_controllers =
      let later = more_of AreLetters mid letters m.bids n3 bids in
      let l = longer mid letters later in
      record {
        rest_at = n0;
        reel_at = n1;
        wire_at = n2;
        bids_at = n3;
        nodes_are_at = all_nodes.numbers;
        controllers_are_at = all_controllers.numbers;
        words_are = all_controllers.words ∙ ap (λ z. z ++ all_controllers.numbers) all_nodes.words
            ∙ ap (λ k. n0 ∷ n1 ∷ n2 ∷ n3 ∷ m.half_steps ∷ k ∷ (all_nodes.numbers ++ all_controllers.numbers)) (counted ∙ sym all_nodes.size);
        few = let s = all_controllers.size in omega (arith, s, few_controllers);
        rest_within = rest.within;
        rest = rest.at;
        reel_within = reel.within;
        reel = reel.at;
        wire_within = omega (arith, wire.within, l);
        wire = λ d. subst (HasLetters m.wire) (sym (stays mid letters n2 d later wire.within)) (wire.at d);
        bids_within = bids.within;
        bids = bids.at;
        devices = record {
          network = network;
          few = few;
          same = same;
          frame = refl;
          within = all_nodes.within;
          nodes = parts_are p.nodes nodes m.devices.nodes (n0 ∷ n1 ∷ n2 ∷ n3 ∷ m.half_steps ∷ count ∷ []) prefix _ all_nodes;
        };
        controllers_within = all_controllers.within;
        controllers = parts_are p.controllers controllers m.controllers.list prefix words first_listening all_controllers;
      }
