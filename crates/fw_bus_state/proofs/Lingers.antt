-- Each change of the devices keeps which output plugs of the nodes linger, against the account.
use Rattle.fw_bus_state.proofs.Common.{◌≡◌, ◌≢◌, ◌⊎◌, inl, inr, ℕ, ◌<◌, ◌≤◌, ◌==◌, ◌&&◌, ◌||◌, List, []}
use Rattle.fw_bus_state.proofs.Common.{◌∷◌, ◌++◌, length, map, slice_index, slice_index_or, slice_set, Bool, true, false, Option, Some}
use Rattle.fw_bus_state.proofs.Common.{None, is_some, refl, ap, sym, subst, ◌∙◌, arith, IsTrue, cases_eq, cases_lt, false≢true, nat_tests, get_or_append_left, get_or_push, get_or-set_same}
use Rattle.fw_bus_state.proofs.Common.{get_or-set_other, length-append, length-map, length-set, output_plugs_of, at_plug, DeviceKind, Relay, Request, ResetEntry, is_active, disconnected, Account}
use Rattle.fw_bus_state.proofs.Common.{OutputPlug, word_of, facts_at, UnitState, NodeState, HasSpace, Network, kind_at, node_at, node_number, IsReset, Shows, numbered, State, number_in, is_on}
use Rattle.fw_bus_state.proofs.Common.{with_device, after_reset_entry, IsGood, IsNodeAt, HasNodes, HasLingering}
use Rattle.fw_log_entry.specs.declared.entry.Entry.TheVariants.{Reset}
use Rattle.fw_model_account.specs.Account.{has_connection}
use Rattle.fw_model_account.specs.Network.{is_output, is_output_of}
use Rattle.fw_model_account.specs.Sound.{IsSound}
use Rattle.fw_model_account.proofs.Network.{any_at}
use Rattle.fw_node.specs.State as Nodes
use Rattle.fw_devices.specs.Entries.{is_number, row_of}
use Rattle.fw_model_controllers.specs.Lingering.{NoneLingers, LingerUnchanged, LingerActive}
use Rattle.fw_model_controllers.proofs.LingersAlong.{entry_lingers}
use Rattle.fw_model_run.proofs.Lingers.{talks_by_word, off_talks}
use Rattle.fw_bus_state.specs.Lingering.{LingersAs, TalksAs}
use Rattle.fw_bus_state.proofs.DeckNodes.{mapped_at}
use Rattle.fw_bus_state.proofs.Flags.{LeavesFlags, same_flags, request_flags, active_at, active_size, rested_flag, rested_size, first_flag, first_size, first_rests}
use Rattle.fw_bus_state.proofs.Latest.{on_declared, undeclared_off}
use Rattle.fw_bus_state.proofs.Renumbered.{Extends}
use Rattle.fw_bus_state.proofs.Resets.{output_there, output_not_there}
use Rattle.fw_bus_state.specs.Stands.{seen, space_seen}

-- ---- one device

-- no plug of a device that is off goes on
quiet_off : (s : State) (d k : ℕ) → IsGood s → number_in s.account.latest d ≡ None → s.account.continues (at_plug d k) ≡ false
quiet_off s d k g off = rests (has_connection (s.account.outputs (at_plug d k))) (s.account.continues (at_plug d k)) (off_talks s d k g (ap is_some off))
  where
    rests : (a b : Bool) → (a || b) ≡ false → b ≡ false
    rests a b e = grind (arith, e)

-- a device that is as it was declared but for its unit, if no plug of it goes on
first_lingers : (u : Option UnitState) (kind : DeviceKind) (device rate : ℕ) (withheld : Bool) (d : ℕ) (l : Account)
    → ((k : ℕ) → l.continues (at_plug d k) ≡ false) → LingersAs (record (Nodes.first_state kind device rate withheld) { unit = u }) d l.continues
first_lingers u kind device rate withheld d l none = record { size = first_size kind device rate; flags = λ k lt. first_flag (output_plugs_of kind) k ∙ sym (none k) }

-- a node has the words of the account
abbrev ShowsWords : NodeState → ℕ → Account → Type 0
ShowsWords n d l = (k : ℕ) → k < length n.plugs.outputs → slice_index n.plugs.outputs k ≡ word_of l (OutputPlug (at_plug d k))

space_words : (s : State) (d number : ℕ) (n : NodeState) → HasSpace n (space_seen (seen s) d number) → ShowsWords n d s.account
space_words s d number n h k lt = let size = h.outputs in h.output_words k (omega (arith, lt, size))

-- a request that leaves a flag if it leaves the word, in the node as in the account
request_lingers : (n m : NodeState) (d : ℕ) (l a : Account) → LeavesFlags n m → ShowsWords n d l → ShowsWords m d a
    → LingerUnchanged l a → LingersAs n d l.continues → LingersAs m d a.continues
request_lingers n m d l a leaves before later linger h = record {
  size = leaves.size ∙ (h.size ∙ sym leaves.plugs);
  flags = λ k lt. let plugs = leaves.plugs in let low : k < length n.plugs.outputs = omega (arith, lt, plugs) in
      leaves.flags k low ∙ ((λ i. (later k lt i == before k low i) && h.flags k low i) ∙ sym (linger (at_plug d k)));
}

-- ---- a request to one node

-- each device's flags stay if its words do
pub nodes_unchanged : (nodes now : List NodeState) (s t : State) → IsGood s → HasNodes nodes (seen s) → HasNodes now (seen t) → length now ≡ length nodes
    → t.account.latest ≡ s.account.latest → LingerUnchanged s.account t.account → ((d : ℕ) → d < length nodes → LeavesFlags (node_at nodes d) (node_at now d))
    → HasLingering nodes s.account.continues → HasLingering now t.account.continues
nodes_unchanged nodes now s t g before later size latest linger leaves h =
    record { each = λ d lt. go d (omega (arith, lt, size)) lt (number_in s.account.latest d) refl }
  where
    quiet : (v w : ℕ) (b : Bool) → b ≡ false → ((v == w) && b) ≡ false
    quiet v w b e = grind (arith, e)

    go : (d : ℕ) → d < length nodes → d < length now → (o : Option ℕ) → number_in s.account.latest d ≡ o → LingersAs (node_at now d) d t.account.continues
    go d low lt None off =
        let is = subst (λ o. IsNodeAt o (seen t) d (node_at now d)) (ap (λ o. number_in o d) latest ∙ off) (later.each d lt) in
        subst (λ n. LingersAs n d t.account.continues) (sym is)
        (first_lingers (node_at now d).unit (kind_at t.declared.kinds d) d (facts_at t.declared.topology.devices d).speed (node_at now d).withheld d t.account
        (λ k. linger (at_plug d k) ∙ quiet _ _ _ (quiet_off s d k g off)))
    go d low lt (Some n) at =
        let was = subst (λ o. IsNodeAt o (seen s) d (node_at nodes d)) at (before.each d low) in
        let is = subst (λ o. IsNodeAt o (seen t) d (node_at now d)) (ap (λ o. number_in o d) latest ∙ at) (later.each d lt) in
        request_lingers (node_at nodes d) (node_at now d) d s.account t.account (leaves d low) (space_words s d n (node_at nodes d) was)
        (space_words t d n (node_at now d) is) linger (h.each d low)

-- the node of one device carries a request out, or none
pub requested : (nodes : List NodeState) (s t : State) (d : ℕ) (o : Option Request) → IsGood s → HasNodes nodes (seen s)
    → HasNodes (slice_set nodes d (Nodes.after_request o (node_at nodes d))) (seen t) → d < length nodes → t.account.latest ≡ s.account.latest
    → LingerUnchanged s.account t.account → HasLingering nodes s.account.continues → HasLingering (slice_set nodes d (Nodes.after_request o (node_at nodes d))) t.account.continues
requested nodes s t d o g before later low latest linger h =
    nodes_unchanged nodes (slice_set nodes d new) s t g before later (length-set nodes d new) latest linger (λ c lt. leaves c lt (cases_eq c d)) h
  where
    new : NodeState
    new = Nodes.after_request o (node_at nodes d)

    leaves : (c : ℕ) → c < length nodes → (c ≡ d) ⊎ (c ≢ d) → LeavesFlags (node_at nodes c) (node_at (slice_set nodes d new) c)
    leaves c lt (inl e) =
        let P : ℕ → Type 0 = λ c. LeavesFlags (node_at nodes c) (node_at (slice_set nodes d new) c) in
        subst P (sym e)
        (subst (λ n. LeavesFlags (node_at nodes d) n) (sym (get_or-set_same nodes d new (Nodes.first_state Relay 0 0 false) low))
        (request_flags o (node_at nodes d) (h.each d low).size))
    leaves c lt (inr ne) =
        subst (λ n. LeavesFlags (node_at nodes c) n) (sym (get_or-set_other nodes d c new (Nodes.first_state Relay 0 0 false) ne)) (same_flags (node_at nodes c))

-- ---- what touches no plug

-- the same account, as after a transaction of the script
pub unchanged_same : (l : Account) → LingerUnchanged l l
unchanged_same l p = same (word_of l (OutputPlug p)) (l.continues p)
  where
    same : (w : ℕ) (b : Bool) → b ≡ ((w == w) && b)
    same w b = grind (arith, nat_tests)

-- registers that stay keep which plugs linger
pub lingers_kept : (n m : NodeState) (d : ℕ) (l : Account) → m.plugs ≡ n.plugs → LingersAs n d l.continues → LingersAs m d l.continues
lingers_kept n m d l same h = subst (λ p. LingersAs (record m { plugs = p }) d l.continues) (sym same) (record { size = h.size; flags = h.flags })

-- ---- a device more

pub lingering_declared : (nodes : List NodeState) (s : State) (name : List ℕ) (kind : DeviceKind) (ports speed : ℕ) (withheld : Bool) → IsGood s → HasNodes nodes (seen s)
    → HasLingering nodes s.account.continues
    → HasLingering (nodes ++ Nodes.first_state kind (length s.declared.names) speed withheld ∷ []) (record s { declared = with_device s.declared name kind ports speed }).account.continues
lingering_declared nodes s name kind ports speed withheld g at h = record { each = λ d lt. go d lt (cases_lt d (length nodes)) }
  where
    new : NodeState
    new = Nodes.first_state kind (length s.declared.names) speed withheld

    go : (d : ℕ) → d < length (nodes ++ new ∷ []) → (d < length nodes) ⊎ (length nodes ≤ d) → LingersAs (node_at (nodes ++ new ∷ []) d) d s.account.continues
    go d lt (inl low) = subst (λ n. LingersAs n d s.account.continues) (sym (get_or_append_left nodes (new ∷ []) (Nodes.first_state Relay 0 0 false) d low)) (h.each d low)
    go d lt (inr past) =
        let size = at.size in
        let here : length nodes ≡ d = omega (arith, lt, past, length-append nodes (new ∷ [])) in
        subst (λ n. LingersAs n d s.account.continues) (sym (get_or_push nodes new (Nodes.first_state Relay 0 0 false) d here))
        (first_lingers (Nodes.first_unit kind) kind (length s.declared.names) speed withheld d s.account
        (λ k. quiet_off s d k g (undeclared_off s d g (omega (arith, here, size)))))

-- ---- a bus reset

-- the state before it has the account of a good one, and may have more devices and cables
pub lingering_reset : (old new : Network) (s0 s : State) (initiator : ℕ) (e : ResetEntry) → IsGood s0 → Extends s0 s → HasNodes old.nodes (seen s)
    → IsReset old new initiator e → Shows s.declared.topology s.declared.kinds e
    → ((d : ℕ) → IsTrue (is_on s d) → IsTrue (is_some (node_number e.nodes d))) → HasLingering old.nodes s.account.continues → HasLingering new.nodes (after_reset_entry s e).account.continues
lingering_reset old new s0 s initiator e g x at r shows stays h = record {
  each = λ d lt. let size = r.size in let low : d < length old.nodes = omega (arith, lt, size) in
      subst (λ n. LingersAs n d m.continues) (sym (r.nodes d low)) (go d (node_number e.nodes d) refl (number_in s.account.latest d) refl (at.each d low) (h.each d low));
}
  where
    m : Account
    m = (after_reset_entry s e).account

    active_ : LingerActive e s.account m
    active_ = entry_lingers s.account m (Reset e) (subst (λ (l : Account). IsSound l) (sym x.account) g.reclaims.step.sound) refl

    -- a plug that was not there
    joins : (d k : ℕ) → number_in s.account.latest d ≡ None → m.continues (at_plug d k) ≡ false
    joins d k off =
        active_.joins (at_plug d k)
        (ap (λ (l : Account). is_output l.latest (at_plug d k)) x.account
        ∙ output_not_there s0 d k g (sym (ap (λ (l : Account). number_in l.latest d) x.account) ∙ off))

    -- a plug of the entry
    there : (d n k : ℕ) → node_number e.nodes d ≡ Some n → k < output_plugs_of (kind_at s.declared.kinds d) → is_output (Some e) (at_plug d k) ≡ true
    there d n k is lt =
        any_at (is_output_of (at_plug d k)) e.nodes n (row_of d (kind_at s.declared.kinds d)) (shows.numbers d n is) (grind (arith, nat_tests, lt))

    -- a plug that was there
    was : (d n k : ℕ) → number_in s.account.latest d ≡ Some n → k < output_plugs_of (kind_at s.declared.kinds d)
        → is_output s.account.latest (at_plug d k) ≡ true
    was d n k is lt =
        let before : number_in s0.account.latest d ≡ Some n = sym (ap (λ (l : Account). number_in l.latest d) x.account) ∙ is in
        let kind = ap output_plugs_of (x.kinds d (on_declared s0 d n g before)) in
        ap (λ (l : Account). is_output l.latest (at_plug d k)) x.account ∙ output_there s0 d n k g before (omega (arith, lt, kind))

    low_speed : (d n : ℕ) → node_number e.nodes d ≡ Some n → (facts_at s.declared.topology.devices d).speed < 4
    low_speed d n is = let w = shows.network.speeds n in let v = shows.speeds d n is in omega (arith, w, v)

    flags : (n : NodeState) → length n.plugs.lingering_outputs ≡ length n.plugs.outputs → (number : ℕ) (manager : Bool) → (d : ℕ)
        → ((k : ℕ) → k < length n.plugs.outputs
        → is_active (slice_index n.plugs.outputs k) (slice_index_or n.plugs.lingering_outputs k false) ≡ m.continues (at_plug d k))
        → LingersAs (Nodes.after_reset number manager n) d m.continues
    flags n size number manager d is = record {
      size = active_size n.plugs.outputs n.plugs.lingering_outputs size ∙ sym (length-map n.plugs.outputs disconnected);
      flags = λ k lt. let count = length-map n.plugs.outputs disconnected in let low : k < length n.plugs.outputs = omega (arith, lt, count) in
          active_at n.plugs.outputs n.plugs.lingering_outputs k size low ∙ is k low;
    }

    go : (d : ℕ) (now : Option ℕ) → node_number e.nodes d ≡ now → (o : Option ℕ) → number_in s.account.latest d ≡ o → IsNodeAt o (seen s) d (node_at old.nodes d)
        → LingersAs (node_at old.nodes d) d s.account.continues → LingersAs (numbered now e.manager (node_at old.nodes d)) d m.continues
    go d None off (Some n) on is had = absurd (false≢true (sym (ap is_some off) ∙ stays d (ap is_some on)))
    go d None off None gone is had =
        subst (λ n. LingersAs n d m.continues) (sym is)
        (first_lingers (node_at old.nodes d).unit (kind_at s.declared.kinds d) d (facts_at s.declared.topology.devices d).speed (node_at old.nodes d).withheld d m (λ k. joins d k gone))
    go d (Some k) on None gone is had =
        let rate : ℕ = (facts_at s.declared.topology.devices d).speed in
        let kind : DeviceKind = kind_at s.declared.kinds d in
        subst (λ n. LingersAs (Nodes.after_reset k (is_number e.manager k) n) d m.continues) (sym is)
        (flags (record (Nodes.first_state kind d rate (node_at old.nodes d).withheld) { unit = (node_at old.nodes d).unit }) (first_size kind d rate) k (is_number e.manager k) d
        (λ j lt. first_rests kind d rate j (low_speed d k on) lt ∙ sym (joins d j gone)))
    go d (Some k) on (Some n) at_n is had =
        flags (node_at old.nodes d) had.size k (is_number e.manager k) d
        (λ j lt. let size = is.outputs in let low : j < output_plugs_of (kind_at s.declared.kinds d) = omega (arith, lt, size) in
        (λ i. is_active (is.output_words j low i) (had.flags j lt i)) ∙ sym (active_.stays (at_plug d j) (was d n j at_n low) (there d k j on low)))

-- ---- the end of the second

pub lingering_rests : (nodes : List NodeState) (s t : State) → NoneLingers t.account → HasLingering nodes s.account.continues → HasLingering (map Nodes.after_second nodes) t.account.continues
lingering_rests nodes s t none h = record { each = λ d lt. go d (omega (arith, lt, length-map nodes Nodes.after_second)) }
  where
    go : (d : ℕ) → d < length nodes → LingersAs (node_at (map Nodes.after_second nodes) d) d t.account.continues
    go d low =
        let x = h.each d low in
        let flags = (node_at nodes d).plugs.lingering_outputs in
        subst (λ n. LingersAs n d t.account.continues) (sym (mapped_at Nodes.after_second nodes d low))
        (record { size = rested_size flags ∙ x.size; flags = λ k lt. rested_flag flags k ∙ sym (none (at_plug d k)) })

-- ---- which plugs talk

-- a node on the bus talks at an output plug exactly if the account says so
pub node_talks : (nodes : List NodeState) (s : State) (d n : ℕ) → IsGood s → HasNodes nodes (seen s) → HasLingering nodes s.account.continues → d < length nodes
    → number_in s.account.latest d ≡ Some n → TalksAs (node_at nodes d) d s.account
node_talks nodes s d n g at h low is k lt =
    let space = subst (λ o. IsNodeAt o (seen s) d (node_at nodes d)) is (at.each d low) in
    let size = space.outputs in
    let few : k < output_plugs_of (kind_at s.declared.kinds d) = omega (arith, lt, size) in
    let x = h.each d low in
    (λ i. is_active (space.output_words k few i) (x.flags k lt i)) ∙ talks_by_word s d k g (ap is_some is) few
