-- Each change of the devices keeps which input plugs of the nodes go on hearing, against the run.
use Rattle.fw_bus_state.proofs.Common.{◌≡◌, ◌≢◌, ◌⊎◌, inl, inr, ℕ, ◌<◌, ◌≤◌, ◌==◌, ◌&&◌, List, [], ◌∷◌, ◌++◌, length, map, slice_index, slice_index_or, slice_set, Bool, false, Option, Some, None}
use Rattle.fw_bus_state.proofs.Common.{is_some, refl, ap, sym, subst, ◌∙◌, arith, IsTrue, cases_eq, cases_lt, false≢true, nat_tests, get_or_append_left, get_or_push, get_or-set_same, get_or-set_other}
use Rattle.fw_bus_state.proofs.Common.{length-append, length-map, length-set, input_plugs_of, at_plug, DeviceKind, Relay, PlugAt, Request, ResetEntry, is_active, disconnected, Account, InputPlug}
use Rattle.fw_bus_state.proofs.Common.{word_of, facts_at, UnitState, NodeState, HasSpace, Network, kind_at, node_at, node_number, IsReset, numbered, State, number_in, is_on, with_device}
use Rattle.fw_bus_state.proofs.Common.{after_reset_entry, IsGood, IsNodeAt, HasNodes}
use Rattle.fw_node.specs.State as Nodes
use Rattle.fw_devices.specs.Entries.{is_number}
use Rattle.fw_model_run.specs.Dubs.{Dub, hears_in, dub_after_reset}
use Rattle.fw_model_run.specs.Hearing.{HasHearing}
use Rattle.fw_model_run.proofs.Hearing.{off_hears, hears_by_word}
use Rattle.fw_bus_state.specs.Reels.{HearsAs, HasHearers, PlugsHear}
use Rattle.fw_bus_state.proofs.DeckNodes.{mapped_at}
use Rattle.fw_bus_state.proofs.Flags.{active_at, active_size, rested_flag, rested_size, first_flag}
use Rattle.fw_bus_state.proofs.InputFlags.{LeavesInputs, same_inputs, request_inputs, first_inputs, first_deaf}
use Rattle.fw_bus_state.proofs.Latest.{on_declared, undeclared_off}
use Rattle.fw_bus_state.proofs.Renumbered.{Extends}
use Rattle.fw_bus_state.specs.Stands.{seen, space_seen}

-- ---- one device

-- no plug of a device that is off goes on
quiet_off : (s : State) (d k : ℕ) → HasHearing s → number_in s.account.latest d ≡ None → s.dub.lingers (at_plug d k) ≡ false
quiet_off s d k h off = h.quiet d k (ap is_some off)

-- a device that is as it was declared but for its unit, if no plug of it goes on
first_hears : (u : Option UnitState) (kind : DeviceKind) (device rate : ℕ) (withheld : Bool) (d : ℕ) (k : Dub)
    → ((i : ℕ) → k.lingers (at_plug d i) ≡ false) → HearsAs (record (Nodes.first_state kind device rate withheld) { unit = u }) d k.lingers
first_hears u kind device rate withheld d k none = record { size = first_inputs kind device rate; flags = λ i lt. first_flag (input_plugs_of kind) i ∙ sym (none i) }

-- a node has the words of the account
abbrev ShowsWords : NodeState → ℕ → Account → Type 0
ShowsWords n d l = (k : ℕ) → k < length n.plugs.inputs → slice_index n.plugs.inputs k ≡ word_of l (InputPlug (at_plug d k))

space_words : (s : State) (d number : ℕ) (n : NodeState) → HasSpace n (space_seen (seen s) d number) → ShowsWords n d s.account
space_words s d number n h k lt = let size = h.inputs in h.input_words k (omega (arith, lt, size))

-- plugs go on exactly if their words stay
abbrev pub HearUnchanged : State → State → Type 0
HearUnchanged s t = (p : PlugAt) → t.dub.lingers p ≡ ((word_of t.account (InputPlug p) == word_of s.account (InputPlug p)) && s.dub.lingers p)

-- a request that leaves a flag if it leaves the word, in the node as in the account
request_hears : (n m : NodeState) (d : ℕ) (s t : State) → LeavesInputs n m → ShowsWords n d s.account → ShowsWords m d t.account
    → HearUnchanged s t → HearsAs n d s.dub.lingers → HearsAs m d t.dub.lingers
request_hears n m d s t leaves before later linger h = record {
  size = leaves.size ∙ (h.size ∙ sym leaves.plugs);
  flags = λ k lt. let plugs = leaves.plugs in let low : k < length n.plugs.inputs = omega (arith, lt, plugs) in
      leaves.flags k low ∙ ((λ i. (later k lt i == before k low i) && h.flags k low i) ∙ sym (linger (at_plug d k)));
}

-- ---- a request to one node

-- each device's flags stay if its words do
pub nodes_hear : (nodes now : List NodeState) (s t : State) → HasHearing s → HasNodes nodes (seen s) → HasNodes now (seen t) → length now ≡ length nodes
    → t.account.latest ≡ s.account.latest → HearUnchanged s t → ((d : ℕ) → d < length nodes → LeavesInputs (node_at nodes d) (node_at now d))
    → HasHearers nodes s.dub.lingers → HasHearers now t.dub.lingers
nodes_hear nodes now s t quiet_ before later size latest linger leaves h =
    record { each = λ d lt. go d (omega (arith, lt, size)) lt (number_in s.account.latest d) refl }
  where
    quiet : (v w : ℕ) (b : Bool) → b ≡ false → ((v == w) && b) ≡ false
    quiet v w b e = grind (arith, e)

    go : (d : ℕ) → d < length nodes → d < length now → (o : Option ℕ) → number_in s.account.latest d ≡ o → HearsAs (node_at now d) d t.dub.lingers
    go d low lt None off =
        let is = subst (λ o. IsNodeAt o (seen t) d (node_at now d)) (ap (λ o. number_in o d) latest ∙ off) (later.each d lt) in
        subst (λ n. HearsAs n d t.dub.lingers) (sym is)
        (first_hears (node_at now d).unit (kind_at t.declared.kinds d) d (facts_at t.declared.topology.devices d).speed (node_at now d).withheld d t.dub
        (λ k. linger (at_plug d k) ∙ quiet _ _ _ (quiet_off s d k quiet_ off)))
    go d low lt (Some n) at =
        let was = subst (λ o. IsNodeAt o (seen s) d (node_at nodes d)) at (before.each d low) in
        let is = subst (λ o. IsNodeAt o (seen t) d (node_at now d)) (ap (λ o. number_in o d) latest ∙ at) (later.each d lt) in
        request_hears (node_at nodes d) (node_at now d) d s t (leaves d low) (space_words s d n (node_at nodes d) was)
        (space_words t d n (node_at now d) is) linger (h.each d low)

-- the node of one device carries a request out, or none
pub asked_hears : (nodes : List NodeState) (s t : State) (d : ℕ) (o : Option Request) → HasHearing s → HasNodes nodes (seen s)
    → HasNodes (slice_set nodes d (Nodes.after_request o (node_at nodes d))) (seen t) → d < length nodes → t.account.latest ≡ s.account.latest
    → HearUnchanged s t → HasHearers nodes s.dub.lingers → HasHearers (slice_set nodes d (Nodes.after_request o (node_at nodes d))) t.dub.lingers
asked_hears nodes s t d o quiet before later low latest linger h =
    nodes_hear nodes (slice_set nodes d new) s t quiet before later (length-set nodes d new) latest linger (λ c lt. leaves c lt (cases_eq c d)) h
  where
    new : NodeState
    new = Nodes.after_request o (node_at nodes d)

    leaves : (c : ℕ) → c < length nodes → (c ≡ d) ⊎ (c ≢ d) → LeavesInputs (node_at nodes c) (node_at (slice_set nodes d new) c)
    leaves c lt (inl e) =
        let P : ℕ → Type 0 = λ c. LeavesInputs (node_at nodes c) (node_at (slice_set nodes d new) c) in
        subst P (sym e)
        (subst (λ n. LeavesInputs (node_at nodes d) n) (sym (get_or-set_same nodes d new (Nodes.first_state Relay 0 0 false) low))
        (request_inputs o (node_at nodes d) (h.each d low).size))
    leaves c lt (inr ne) =
        subst (λ n. LeavesInputs (node_at nodes c) n) (sym (get_or-set_other nodes d c new (Nodes.first_state Relay 0 0 false) ne)) (same_inputs (node_at nodes c))

-- ---- what touches no plug

-- a state with the same account and the same plugs that go on
pub hear_same : (s t : State) → t.account ≡ s.account → ((p : PlugAt) → t.dub.lingers p ≡ s.dub.lingers p) → HearUnchanged s t
hear_same s t account lingers p = stays _ _ _ _ (ap (λ (l : Account). word_of l (InputPlug p)) account) (lingers p)
  where
    stays : (v w : ℕ) (a b : Bool) → v ≡ w → a ≡ b → a ≡ ((v == w) && b)
    stays v w a b same e = grind (arith, nat_tests, same, e)

-- registers that stay keep which plugs go on
pub hears_kept : (n m : NodeState) (d : ℕ) (k : Dub) → m.plugs ≡ n.plugs → HearsAs n d k.lingers → HearsAs m d k.lingers
hears_kept n m d k same h = subst (λ p. HearsAs (record m { plugs = p }) d k.lingers) (sym same) (record { size = h.size; flags = h.flags })

-- ---- a device more

pub hearers_declared : (nodes : List NodeState) (s : State) (name : List ℕ) (kind : DeviceKind) (ports speed : ℕ) (withheld : Bool) → IsGood s → HasHearing s → HasNodes nodes (seen s)
    → HasHearers nodes s.dub.lingers
    → HasHearers (nodes ++ Nodes.first_state kind (length s.declared.names) speed withheld ∷ []) (record s { declared = with_device s.declared name kind ports speed }).dub.lingers
hearers_declared nodes s name kind ports speed withheld g quiet at h = record { each = λ d lt. go d lt (cases_lt d (length nodes)) }
  where
    new : NodeState
    new = Nodes.first_state kind (length s.declared.names) speed withheld

    go : (d : ℕ) → d < length (nodes ++ new ∷ []) → (d < length nodes) ⊎ (length nodes ≤ d) → HearsAs (node_at (nodes ++ new ∷ []) d) d s.dub.lingers
    go d lt (inl low) = subst (λ n. HearsAs n d s.dub.lingers) (sym (get_or_append_left nodes (new ∷ []) (Nodes.first_state Relay 0 0 false) d low)) (h.each d low)
    go d lt (inr past) =
        let size = at.size in
        let here : length nodes ≡ d = omega (arith, lt, past, length-append nodes (new ∷ [])) in
        subst (λ n. HearsAs n d s.dub.lingers) (sym (get_or_push nodes new (Nodes.first_state Relay 0 0 false) d here))
        (first_hears (Nodes.first_unit kind) kind (length s.declared.names) speed withheld d s.dub
        (λ k. quiet_off s d k quiet (undeclared_off s d g (omega (arith, here, size)))))

-- ---- a bus reset

-- the state before it has the account of a good one, and may have more devices and cables
pub hearers_reset : (old new : Network) (s0 s : State) (initiator : ℕ) (e : ResetEntry) → IsGood s0 → HasHearing s0 → Extends s0 s → s.dub ≡ s0.dub → HasNodes old.nodes (seen s)
    → IsReset old new initiator e → ((d : ℕ) → IsTrue (is_on s d) → IsTrue (is_some (node_number e.nodes d))) → HasHearers old.nodes s.dub.lingers
    → HasHearers new.nodes (after_reset_entry s e).dub.lingers
hearers_reset old new s0 s initiator e g quiet x dub at r stays h = record {
  each = λ d lt. let size = r.size in let low : d < length old.nodes = omega (arith, lt, size) in
      subst (λ n. HearsAs n d m.lingers) (sym (r.nodes d low)) (go d (node_number e.nodes d) refl (number_in s.account.latest d) refl (at.each d low) (h.each d low));
}
  where
    m : Dub
    m = dub_after_reset s.account s.dub

    -- a plug of a device that was off
    joins : (d k : ℕ) → number_in s.account.latest d ≡ None → m.lingers (at_plug d k) ≡ false
    joins d k off = (λ i. hears_in (x.account i) (dub i) (at_plug d k)) ∙ off_hears s0 d k g quiet (ap is_some (sym (ap (λ (l : Account). number_in l.latest d) x.account) ∙ off))

    -- a plug of one that was on
    was : (d n k : ℕ) → number_in s.account.latest d ≡ Some n → k < input_plugs_of (kind_at s.declared.kinds d)
        → is_active (word_of s.account (InputPlug (at_plug d k))) (s.dub.lingers (at_plug d k)) ≡ m.lingers (at_plug d k)
    was d n k at lt =
        let before : number_in s0.account.latest d ≡ Some n = sym (ap (λ (l : Account). number_in l.latest d) x.account) ∙ at in
        let kind = ap input_plugs_of (x.kinds d (on_declared s0 d n g before)) in
        (λ i. is_active (word_of (x.account i) (InputPlug (at_plug d k))) ((dub i).lingers (at_plug d k)))
        ∙ (hears_by_word s0 d k g (ap is_some before) (omega (arith, lt, kind)) ∙ sym (λ i. hears_in (x.account i) (dub i) (at_plug d k)))

    flags : (n : NodeState) → length n.plugs.lingering_inputs ≡ length n.plugs.inputs → (number : ℕ) (manager : Bool) → (d : ℕ)
        → ((k : ℕ) → k < length n.plugs.inputs
        → is_active (slice_index n.plugs.inputs k) (slice_index_or n.plugs.lingering_inputs k false) ≡ m.lingers (at_plug d k))
        → HearsAs (Nodes.after_reset number manager n) d m.lingers
    flags n size number manager d is = record {
      size = active_size n.plugs.inputs n.plugs.lingering_inputs size ∙ sym (length-map n.plugs.inputs disconnected);
      flags = λ k lt. let count = length-map n.plugs.inputs disconnected in let low : k < length n.plugs.inputs = omega (arith, lt, count) in
          active_at n.plugs.inputs n.plugs.lingering_inputs k size low ∙ is k low;
    }

    go : (d : ℕ) (now : Option ℕ) → node_number e.nodes d ≡ now → (o : Option ℕ) → number_in s.account.latest d ≡ o → IsNodeAt o (seen s) d (node_at old.nodes d)
        → HearsAs (node_at old.nodes d) d s.dub.lingers → HearsAs (numbered now e.manager (node_at old.nodes d)) d m.lingers
    go d None off (Some n) on is had = absurd (false≢true (sym (ap is_some off) ∙ stays d (ap is_some on)))
    go d None off None gone is had =
        subst (λ n. HearsAs n d m.lingers) (sym is)
        (first_hears (node_at old.nodes d).unit (kind_at s.declared.kinds d) d (facts_at s.declared.topology.devices d).speed (node_at old.nodes d).withheld d m (λ k. joins d k gone))
    go d (Some k) on None gone is had =
        let rate : ℕ = (facts_at s.declared.topology.devices d).speed in
        let kind : DeviceKind = kind_at s.declared.kinds d in
        subst (λ n. HearsAs (Nodes.after_reset k (is_number e.manager k) n) d m.lingers) (sym is)
        (flags (record (Nodes.first_state kind d rate (node_at old.nodes d).withheld) { unit = (node_at old.nodes d).unit }) (first_inputs kind d rate) k (is_number e.manager k) d
        (λ j lt. first_deaf kind d rate j lt ∙ sym (joins d j gone)))
    go d (Some k) on (Some n) at_n is had =
        flags (node_at old.nodes d) had.size k (is_number e.manager k) d
        (λ j lt. let size = is.inputs in let low : j < input_plugs_of (kind_at s.declared.kinds d) = omega (arith, lt, size) in
        (λ i. is_active (is.input_words j low i) (had.flags j lt i)) ∙ was d n j at_n low)

-- ---- the end of the second

pub hearers_rest : (nodes : List NodeState) (s t : State) → ((p : PlugAt) → t.dub.lingers p ≡ false) → HasHearers nodes s.dub.lingers → HasHearers (map Nodes.after_second nodes) t.dub.lingers
hearers_rest nodes s t none h = record { each = λ d lt. go d (omega (arith, lt, length-map nodes Nodes.after_second)) }
  where
    go : (d : ℕ) → d < length nodes → HearsAs (node_at (map Nodes.after_second nodes) d) d t.dub.lingers
    go d low =
        let x = h.each d low in
        let flags = (node_at nodes d).plugs.lingering_inputs in
        subst (λ n. HearsAs n d t.dub.lingers) (sym (mapped_at Nodes.after_second nodes d low))
        (record { size = rested_size flags ∙ x.size; flags = λ k lt. rested_flag flags k ∙ sym (none (at_plug d k)) })

-- ---- which plugs hear

-- an input plug of a node on the bus hears exactly if the run says so
pub node_hears : (nodes : List NodeState) (s : State) (d n : ℕ) → IsGood s → HasNodes nodes (seen s) → HasHearers nodes s.dub.lingers → d < length nodes
    → number_in s.account.latest d ≡ Some n → PlugsHear (node_at nodes d) d s
node_hears nodes s d n g at h low is k lt =
    let space = subst (λ o. IsNodeAt o (seen s) d (node_at nodes d)) is (at.each d low) in
    let size = space.inputs in
    let few : k < input_plugs_of (kind_at s.declared.kinds d) = omega (arith, lt, size) in
    let x = h.each d low in
    (λ i. is_active (space.input_words k few i) (x.flags k lt i)) ∙ hears_by_word s d k g (ap is_some is) few
