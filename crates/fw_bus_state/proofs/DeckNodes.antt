-- The units of nodes are the decks of the run, through each change of the devices.
use Rattle.fw_bus_state.proofs.Common.{◌≡◌, ◌≢◌, ◌⊎◌, inl, inr, ℕ, ◌+◌, ◌<◌, ◌≤◌, List, [], ◌∷◌, ◌++◌, length}
use Rattle.fw_bus_state.proofs.Common.{map, slice_set, Bool, true, false, cond, Option, Some, None, is_some, refl, ap, sym, subst}
use Rattle.fw_bus_state.proofs.Common.{◌∙◌, arith, IsTrue, IsFalse, cases_eq, cases_lt, false≢true, get_or_append_left, get_or_push, get_or-set_other, get_or-set_same, length-append, length-map}
use Rattle.fw_bus_state.proofs.Common.{length-set, DeviceKind, Relay, Request, ResetEntry, Account, NodeState, passed, tape_of, node_number, Network, kind_at, node_at, IsReset, numbered}
use Rattle.fw_bus_state.proofs.Common.{after_reset_entry, IsGood, State, number_in, is_on, with_device, Machine}
use Rattle.std.proofs.Common.{◌^◌}
use Rattle.std.proofs.lemmas.List.{get_or-map}
use Rattle.fw_terms.specs.Devices.{has_unit}
use Rattle.fw_tape.specs.Motion.{MayPass}
use Rattle.fw_node.specs.State.{after_request}
use Rattle.fw_node.specs.State as Nodes
use Rattle.fw_model_run.specs.Afterwards.{after_cycles}
use Rattle.fw_model_run.specs.Decks.{DeckState, first_deck, IsAtRest}
use Rattle.fw_model_run.specs.Decks as Runs
use Rattle.fw_model_run.specs.State.{linked_number, has_deck}
use Rattle.fw_model_run.specs.Units.{HasDeck}
use Rattle.fw_model_run.proofs.Units.{first_kept, request_kept, reset_kept, rest_kept, second_kept, passed_kept, tape_is, may_pass}
use Rattle.fw_bus_state.specs.Stands.{HasDecks, IsReady}

-- ---- one node changes

pub decks_set : (nodes : List NodeState) (s t : State) (d : ℕ) (n : NodeState) → d < length nodes → HasDecks nodes s.declared.kinds s.decks → HasDeck n (has_deck t d) (t.decks d)
    → ((c : ℕ) → c ≢ d → HasDeck (node_at nodes c) (has_deck s c) (s.decks c) → HasDeck (node_at nodes c) (has_deck t c) (t.decks c))
    → ((c : ℕ) → c ≢ d → t.decks c ≡ s.decks c) → HasDecks (slice_set nodes d n) t.declared.kinds t.decks
decks_set nodes s t d n low h here elsewhere same = record {
  each = λ c lt. go c (cases_eq c d) (let e = length-set nodes d n in omega (arith, e, lt));
  others = λ c past. let e = length-set nodes d n in same c (apart c (omega (arith, e, past))) ∙ h.others c (omega (arith, e, past));
}
  where
    apart : (c : ℕ) → length nodes ≤ c → c ≢ d
    apart c past e = absurd (omega (arith, past, low, e))

    go : (c : ℕ) → (c ≡ d) ⊎ (c ≢ d) → c < length nodes → HasDeck (node_at (slice_set nodes d n) c) (has_deck t c) (t.decks c)
    go c (inl e) lt =
        let P : ℕ → Type 0 = λ c. HasDeck (node_at (slice_set nodes d n) c) (has_deck t c) (t.decks c) in
        let Q : NodeState → Type 0 = λ m. HasDeck m (has_deck t d) (t.decks d) in
        subst P (sym e) (subst Q (sym (get_or-set_same nodes d n (Nodes.first_state Relay 0 0 false) low)) here)
    go c (inr ne) lt =
        let Q : NodeState → Type 0 = λ m. HasDeck m (has_deck t c) (t.decks c) in
        subst Q (sym (get_or-set_other nodes d c n (Nodes.first_state Relay 0 0 false) ne)) (elsewhere c ne (h.each c lt))

-- a request is no command
pub decks_requested : (nodes : List NodeState) (s : State) (d : ℕ) (o : Option Request) → d < length nodes → HasDecks nodes s.declared.kinds s.decks
    → HasDecks (slice_set nodes d (after_request o (node_at nodes d))) s.declared.kinds s.decks
decks_requested nodes s d o low h = decks_set nodes s s d (after_request o (node_at nodes d)) low h (asked o (h.each d low)) (λ c ne x. x) (λ c ne. refl)
  where
    asked : (o : Option Request) → HasDeck (node_at nodes d) (has_deck s d) (s.decks d) → HasDeck (after_request o (node_at nodes d)) (has_deck s d) (s.decks d)
    asked None x = x
    asked (Some r) x = request_kept r (has_deck s d) (node_at nodes d) (s.decks d) x

-- ---- all nodes change

-- each node by itself
pub mapped_at : (f : NodeState → NodeState) (nodes : List NodeState) (d : ℕ) → d < length nodes → node_at (map f nodes) d ≡ f (node_at nodes d)
mapped_at f nodes d lt = get_or-map f nodes d (Nodes.first_state Relay 0 0 false) (Nodes.first_state Relay 0 0 false) lt

pub decks_mapped : (f : NodeState → NodeState) (nodes : List NodeState) (s t : State) → HasDecks nodes s.declared.kinds s.decks
    → ((d : ℕ) (n : NodeState) → HasDeck n (has_deck s d) (s.decks d) → HasDeck (f n) (has_deck t d) (t.decks d))
    → ((d : ℕ) → s.decks d ≡ first_deck → t.decks d ≡ first_deck) → HasDecks (map f nodes) t.declared.kinds t.decks
decks_mapped f nodes s t h keeps firsts = record {
  each = λ d lt.
      let size = length-map nodes f in
      let low : d < length nodes = omega (arith, lt, size) in
      let Q : NodeState → Type 0 = λ m. HasDeck m (has_deck t d) (t.decks d) in
      subst Q (sym (mapped_at f nodes d low)) (keeps d (node_at nodes d) (h.each d low));
  others = λ d past. let size = length-map nodes f in firsts d (h.others d (omega (arith, past, size)));
}

-- cycles go by
pub decks_pass : (cycles : ℕ) (nodes : List NodeState) (s : State) → HasDecks nodes s.declared.kinds s.decks
    → HasDecks (map (passed cycles) nodes) s.declared.kinds (after_cycles s cycles).decks
decks_pass cycles nodes s h = decks_mapped (passed cycles) nodes s (after_cycles s cycles) h
    (λ d n x. passed_kept cycles (has_deck s d) n (s.decks d) x) (λ d e. ap (Runs.passed cycles) e)

-- the second is over
pub decks_rest : (nodes : List NodeState) (s : State) → HasDecks nodes s.declared.kinds s.decks → HasDecks (map Nodes.after_second nodes) s.declared.kinds s.decks
decks_rest nodes s h = decks_mapped Nodes.after_second nodes s s h (λ d n x. second_kept (has_deck s d) n (s.decks d) x) (λ d e. e)

-- tapes may move on for as long as time may go on
pub tapes_may_pass : {m : Machine} (cycles : ℕ) → IsReady m → m.cycle + cycles ≤ 2 ^ 52 → (d : ℕ) → d < length m.devices.nodes
    → MayPass cycles (tape_of (node_at m.devices.nodes d))
tapes_may_pass {m} cycles r few d lt =
    let s = r.state in
    let cycle = r.stands.clock.cycle in
    let h = r.stands.devices.decks.each d lt in
    subst (MayPass cycles) (sym (tape_is (has_deck s d) (node_at m.devices.nodes d) (s.decks d) h))
    (go (has_deck s d) (may_pass s cycles d r.good (omega (arith, few, cycle))))
  where
    go : (b : Bool) → MayPass cycles (r.state.decks d).unit.tape → MayPass cycles (cond b (r.state.decks d).unit.tape None)
    go true may = may
    go false may = tt

-- the end of the second moves none
pub rested_may_pass : {m : Machine} (n : Network) → IsReady m → m.cycle + 1 ≤ 2 ^ 52 → n ≡ record m.devices { nodes = map Nodes.after_second m.devices.nodes }
    → (d : ℕ) → d < length n.nodes → MayPass 1 (tape_of (node_at n.nodes d))
rested_may_pass {m} n r few is = subst P (sym is) each
  where
    P : Network → Type 0
    P n = (d : ℕ) → d < length n.nodes → MayPass 1 (tape_of (node_at n.nodes d))

    each : P (record m.devices { nodes = map Nodes.after_second m.devices.nodes })
    each d lt =
        let size = length-map m.devices.nodes Nodes.after_second in
        let low : d < length m.devices.nodes = omega (arith, lt, size) in
        subst (λ (n : NodeState). MayPass 1 (tape_of n)) (sym (mapped_at Nodes.after_second m.devices.nodes d low)) (tapes_may_pass 1 r few d low)

-- ---- a bus reset

-- a device that is off is at rest
at_rest : (s : State) (d : ℕ) → IsGood s → number_in s.account.latest d ≡ None → IsAtRest (s.decks d)
at_rest s d g off = (g.decks d).off (no_link s.account.latest off)
  where
    no_link : (o : Option ResetEntry) → number_in o d ≡ None → IsFalse (is_some (linked_number o d))
    no_link o e = grind (arith, e)

-- if each device that is on the bus stays on it
pub decks_reset : (old new : Network) (s : State) (initiator : ℕ) (e : ResetEntry) → ((d : ℕ) → number_in s.account.latest d ≡ None → IsAtRest (s.decks d))
    → HasDecks old.nodes s.declared.kinds s.decks → IsReset old new initiator e → ((d : ℕ) → IsTrue (is_on s d) → IsTrue (is_some (node_number e.nodes d)))
    → HasDecks new.nodes (after_reset_entry s e).declared.kinds (after_reset_entry s e).decks
decks_reset old new s initiator e rests h r stays = record {
  each = λ d lt.
      let size = r.size in
      let low : d < length old.nodes = omega (arith, lt, size) in
      let Q : NodeState → Type 0 = λ m. HasDeck m (has_deck s d) (Runs.after_reset (s.decks d)) in
      subst Q (sym (r.nodes d low)) (go d (node_number e.nodes d) refl (number_in s.account.latest d) refl (h.each d low));
  others = λ d past. let size = r.size in ap Runs.after_reset (h.others d (omega (arith, past, size)));
}
  where
    go : (d : ℕ) (now : Option ℕ) → node_number e.nodes d ≡ now → (was : Option ℕ) → number_in s.account.latest d ≡ was
        → HasDeck (node_at old.nodes d) (has_deck s d) (s.decks d)
        → HasDeck (numbered now e.manager (node_at old.nodes d)) (has_deck s d) (Runs.after_reset (s.decks d))
    go d None at None was x = rest_kept (has_deck s d) (node_at old.nodes d) (s.decks d) (rests d was) x
    go d None at (Some m) was x = absurd (false≢true (sym (ap is_some at) ∙ stays d (ap is_some was)))
    go d (Some k) at o was x = reset_kept k _ (has_deck s d) (node_at old.nodes d) (s.decks d) x

-- ---- a device more

pub decks_declared : (nodes : List NodeState) (s : State) (name : List ℕ) (kind : DeviceKind) (ports speed : ℕ) (withheld : Bool) → length nodes ≡ length s.declared.names
    → IsGood s → HasDecks nodes s.declared.kinds s.decks
    → HasDecks (nodes ++ Nodes.first_state kind (length s.declared.names) speed withheld ∷ []) (s.declared.kinds ++ kind ∷ []) s.decks
decks_declared nodes s name kind ports speed withheld size g h = record {
  each = λ d lt. go d lt (cases_lt d (length nodes));
  others = λ d past. h.others d (let grown = length-append nodes (new ∷ []) in omega (arith, past, grown));
}
  where
    new : NodeState
    new = Nodes.first_state kind (length s.declared.names) speed withheld

    t : State
    t = record s { declared = with_device s.declared name kind ports speed }

    go : (d : ℕ) → d < length (nodes ++ new ∷ []) → (d < length nodes) ⊎ (length nodes ≤ d) → HasDeck (node_at (nodes ++ new ∷ []) d) (has_deck t d) (s.decks d)
    go d lt (inl low) =
        let named = g.declared.named in
        let same = g.declared.kinds.size in
        let k = get_or_append_left s.declared.kinds (kind ∷ []) Relay d (omega (arith, low, size, named, same)) in
        let Q : NodeState → Type 0 = λ m. HasDeck m (has_deck t d) (s.decks d) in
        subst Q (sym (get_or_append_left nodes (new ∷ []) (Nodes.first_state Relay 0 0 false) d low))
        (subst (λ x. HasDeck (node_at nodes d) (has_unit x) (s.decks d)) (sym k) (h.each d low))
    go d lt (inr past) =
        let named = g.declared.named in
        let same = g.declared.kinds.size in
        let grown = length-append nodes (new ∷ []) in
        let here : length nodes ≡ d = omega (arith, lt, past, grown) in
        let k : kind_at t.declared.kinds d ≡ kind = get_or_push s.declared.kinds kind Relay d (omega (arith, here, size, named, same)) in
        let Q : NodeState → Type 0 = λ m. HasDeck m (has_deck t d) (s.decks d) in
        subst Q (sym (get_or_push nodes new (Nodes.first_state Relay 0 0 false) d here))
        (subst (λ x. HasDeck new (has_unit x) (s.decks d)) (sym k)
        (subst (λ x. HasDeck new (has_unit kind) x) (sym (h.others d past)) (first_kept kind (length s.declared.names) speed withheld)))

pub rests_good : (good s : State) → IsGood good → s.account ≡ good.account → s.decks ≡ good.decks → (d : ℕ) → number_in s.account.latest d ≡ None
    → IsAtRest (s.decks d)
rests_good good s g account decks d off =
    subst (λ (f : ℕ → DeckState). IsAtRest (f d)) (sym decks) (at_rest good d g (sym (ap (λ (l : Account). number_in l.latest d) account) ∙ off))
