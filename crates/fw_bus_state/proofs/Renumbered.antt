-- A bus reset keeps what nodes keep against the account.
use Rattle.fw_bus_state.proofs.Common.{◌≡◌, ℕ, ◌<◌, ◌≤◌, List, [], ◌∷◌, length, map, get_or, slice_index, cond, Bool, Option, Some, None, is_some, refl, ap, sym, subst, ◌∙◌, arith, IsTrue, false}
use Rattle.fw_bus_state.proofs.Common.{false≢true, get_or-replicate, get_or_append_left, length-map, length-replicate, at_plug, DeviceKind, Relay, output_plugs_of, input_plugs_of, ResetEntry}
use Rattle.fw_bus_state.proofs.Common.{disconnected, Account, OutputPlug, InputPlug, word_of, node_of, facts_at, UnitState, NodeState, HasSpace, Network, kind_at, node_at, node_number, IsReset, Shows}
use Rattle.fw_bus_state.proofs.Common.{numbered, State, number_in, is_on, with_device, space_at, after_reset_entry, IsGood, IsLatest, IsNodeAt, HasNodes}
use Rattle.std.proofs.lemmas.List.{ext_get_or}
use Rattle.std.proofs.lemmas.List as Lists
use Rattle.std.proofs.Math.ListN as Plain
use Rattle.fw_plug.specs.Plugs.{first_out_word, first_in_word}
use Rattle.fw_plug.specs.Words.{out_word, in_word}
use Rattle.fw_csr.specs.Manager.{initial_words}
use Rattle.fw_model_account.specs.Events.{after_reset}
use Rattle.fw_log_entry.specs.Network.{speed_of}
use Rattle.fw_model_account.specs.Network.{declared}
use Rattle.fw_model_account.proofs.Resets.{reset_remainder, reset_high, reset_low}
use Rattle.fw_tree.specs.Cables.{IsOnBus}
use Rattle.fw_tree.specs.Topology.{Topology}
use Rattle.fw_node.specs.State as Nodes
use Rattle.fw_devices.specs.Network.{kinds_of}
use Rattle.fw_devices.specs.Entries.{is_number}
use Rattle.fw_bus_state.specs.Stands.{manager_device, seen, space_seen}
use Rattle.fw_bus_state.proofs.Latest.{on_declared, on_number, number_is}
use Rattle.fw_bus_state.proofs.Resets.{first_fields, first_input_fields, first_out_cleared, first_in_cleared, output_there, input_there}
use Rattle.fw_bus_state.proofs.Resets.{output_not_there, input_not_there, output_kept, input_kept, output_declared, input_declared}

-- the same account and decks, and the kinds of the devices that were declared; there may be more devices and cables
pub record Extends (s t : State) : Type 0 where
  pub account : t.account ≡ s.account
  pub cycle : t.clock.cycle ≡ s.clock.cycle
  pub decks : t.decks ≡ s.decks
  pub streams : t.streams ≡ s.streams
  pub kinds : (d : ℕ) → d < length s.declared.names → kind_at t.declared.kinds d ≡ kind_at s.declared.kinds d

-- a device more, which is off
pub extends_declared : (s : State) (name : List ℕ) (kind : DeviceKind) (ports speed : ℕ) → IsGood s
    → Extends s (record s { declared = with_device s.declared name kind ports speed })
extends_declared s name kind ports speed g =
    let named = g.declared.named in
    let same = g.declared.kinds.size in
    record { account = refl; cycle = refl; decks = refl; streams = refl; kinds = λ d lt. get_or_append_left s.declared.kinds (kind ∷ []) Relay d (omega arith) }

-- ---- the manager

-- its registers are as at first
reset_manager : (s : State) (e : ResetEntry) (d k : ℕ) (withheld : Bool) → withheld ≡ s.account.withheld
    → cond (is_number e.manager k) (Some (initial_words withheld)) None ≡ (space_at (after_reset_entry s e) d k).manager
reset_manager s e d k withheld same =
    let bandwidth = sym (reset_remainder e s.account) in
    let high = ap (λ (b : Bool). cond b 0xFFFF_FFFE 0xFFFF_FFFF) same ∙ sym (reset_high e s.account) in
    let low = sym (reset_low e s.account) in
    λ i. cond (is_number e.manager k)
    (Some (record { bus_manager_id = 0x3F; bandwidth_available = bandwidth i; channels_available_hi = high i; channels_available_lo = low i; withheld = same i })) None

-- ---- the words of a device that was a node

-- the word of an output plug that was there keeps its settings, and its connections are cleared
kept_output : (s0 s : State) (e : ResetEntry) (d n k : ℕ) → IsGood s0 → Extends s0 s → number_in s.account.latest d ≡ Some n
    → k < output_plugs_of (kind_at s.declared.kinds d)
    → disconnected (word_of s.account (OutputPlug (at_plug d k))) ≡ word_of (after_reset e s.account) (OutputPlug (at_plug d k))
kept_output s0 s e d n k g x at lt =
    let before : number_in s0.account.latest d ≡ Some n = sym (ap (λ (l : Account). number_in l.latest d) x.account) ∙ at in
    let kind : output_plugs_of (kind_at s.declared.kinds d) ≡ output_plugs_of (kind_at s0.declared.kinds d) =
    ap output_plugs_of (x.kinds d (on_declared s0 d n g before)) in
    let was = output_there s0 d n k g before (omega arith) in
    let P : Account → Type 0 = λ l. disconnected (word_of l (OutputPlug (at_plug d k))) ≡ word_of (after_reset e l) (OutputPlug (at_plug d k)) in
    subst P (sym x.account) (output_kept s0.account e (at_plug d k) (g.reclaims.step.sound.counts (at_plug d k)).0
    (g.reclaims.step.sound.settings_fit (at_plug d k) was) was)

-- so does that of an input plug its channel
kept_input : (s0 s : State) (e : ResetEntry) (d n k : ℕ) → IsGood s0 → Extends s0 s → number_in s.account.latest d ≡ Some n
    → k < input_plugs_of (kind_at s.declared.kinds d)
    → disconnected (word_of s.account (InputPlug (at_plug d k))) ≡ word_of (after_reset e s.account) (InputPlug (at_plug d k))
kept_input s0 s e d n k g x at lt =
    let before : number_in s0.account.latest d ≡ Some n = sym (ap (λ (l : Account). number_in l.latest d) x.account) ∙ at in
    let kind : input_plugs_of (kind_at s.declared.kinds d) ≡ input_plugs_of (kind_at s0.declared.kinds d) =
    ap input_plugs_of (x.kinds d (on_declared s0 d n g before)) in
    let was = input_there s0 d n k g before (omega arith) in
    let P : Account → Type 0 = λ l. disconnected (word_of l (InputPlug (at_plug d k))) ≡ word_of (after_reset e l) (InputPlug (at_plug d k)) in
    subst P (sym x.account) (input_kept s0.account e (at_plug d k) (g.reclaims.step.sound.counts (at_plug d k)).1
    (g.reclaims.step.sound.channels_fit (at_plug d k) was) was)

-- ---- those of a new one

-- the word of a new output plug is as it was declared
new_output : (s0 s : State) (e : ResetEntry) (d n k : ℕ) → IsGood s0 → Extends s0 s → Shows s.declared.topology s.declared.kinds e
    → number_in s.account.latest d ≡ None → node_number e.nodes d ≡ Some n
    → disconnected (first_out_word (facts_at s.declared.topology.devices d).speed) ≡ word_of (after_reset e s.account) (OutputPlug (at_plug d k))
new_output s0 s e d n k g x shows off at =
    let before : number_in s0.account.latest d ≡ None = sym (ap (λ (l : Account). number_in l.latest d) x.account) ∙ off in
    let not_there = output_not_there s0 d k g before in
    let P : Account → Type 0 = λ l. word_of (after_reset e l) (OutputPlug (at_plug d k)) ≡ out_word (first_fields (declared e (at_plug d k)).rate) in
    let now : word_of (after_reset e s.account) (OutputPlug (at_plug d k)) ≡ out_word (first_fields (declared e (at_plug d k)).rate) =
    subst P (sym x.account) (output_declared s0.account e (at_plug d k) not_there) in
    let speed : (declared e (at_plug d k)).rate ≡ (facts_at s.declared.topology.devices d).speed =
    ap (λ m. speed_of m e.ids) (number_is (Some e) d n at) ∙ shows.speeds d n at in
    let low : (facts_at s.declared.topology.devices d).speed < 4 = let w = shows.network.speeds n in let v = shows.speeds d n at in omega arith in
    first_out_cleared (facts_at s.declared.topology.devices d).speed low ∙ ap (λ rate. out_word (first_fields rate)) (sym speed) ∙ sym now

-- and that of a new input plug
new_input : (s0 s : State) (e : ResetEntry) (d k : ℕ) → IsGood s0 → Extends s0 s → number_in s.account.latest d ≡ None
    → disconnected first_in_word ≡ word_of (after_reset e s.account) (InputPlug (at_plug d k))
new_input s0 s e d k g x off =
    let before : number_in s0.account.latest d ≡ None = sym (ap (λ (l : Account). number_in l.latest d) x.account) ∙ off in
    let P : Account → Type 0 = λ l. word_of (after_reset e l) (InputPlug (at_plug d k)) ≡ in_word first_input_fields in
    first_in_cleared ∙ sym (subst P (sym x.account) (input_declared s0.account e (at_plug d k) (input_not_there s0 d k g before)))

-- ---- one device

-- each word of a list is cleared by itself
cleared_at : (words : List ℕ) (k : ℕ) → k < length words → slice_index (map disconnected words) k ≡ disconnected (slice_index words k)
cleared_at words k lt = Lists.get_or-map disconnected words k 0 0 lt

-- the node that a device is by the entry
renumbered : (s0 s : State) (e : ResetEntry) (d k : ℕ) (n : NodeState) (o : Option ℕ) → IsGood s0 → Extends s0 s
    → Shows s.declared.topology s.declared.kinds e → node_number e.nodes d ≡ Some k → number_in s.account.latest d ≡ o → n.withheld ≡ s.account.withheld → IsNodeAt o (seen s) d n
    → HasSpace (Nodes.after_reset k (is_number e.manager k) n) (space_seen (seen (after_reset_entry s e)) d k)
renumbered s0 s e d k n None g x shows at was same is =
    let P : NodeState → Type 0 = λ n. HasSpace (Nodes.after_reset k (is_number e.manager k) n) (space_seen (seen (after_reset_entry s e)) d k) in
    subst P (sym is) (fresh n.unit)
  where
    rate : ℕ
    rate = (facts_at s.declared.topology.devices d).speed

    outs : ℕ
    outs = output_plugs_of (kind_at s.declared.kinds d)

    ins : ℕ
    ins = input_plugs_of (kind_at s.declared.kinds d)

    -- whatever its unit keeps
    fresh : (u : Option UnitState)
        → HasSpace (Nodes.after_reset k (is_number e.manager k) (record (Nodes.first_state (kind_at s.declared.kinds d) d rate n.withheld) { unit = u }))
        (space_seen (seen (after_reset_entry s e)) d k)
    fresh u = record {
      number = refl;
      kind = refl;
      device = refl;
      rate = refl;
      outputs = length-map _ disconnected ∙ length-replicate outs (first_out_word rate);
      inputs = length-map _ disconnected ∙ length-replicate ins first_in_word;
      output_words = λ j lt.
          cleared_at _ j (let size = length-replicate outs (first_out_word rate) in omega arith)
          ∙ ap disconnected (get_or-replicate outs j (first_out_word rate) 0 lt) ∙ new_output s0 s e d k j g x shows was at;
      input_words = λ j lt.
          cleared_at _ j (let size = length-replicate ins first_in_word in omega arith) ∙ ap disconnected (get_or-replicate ins j first_in_word 0 lt)
          ∙ new_input s0 s e d j g x was;
      manager = reset_manager s e d k n.withheld same;
    }
renumbered s0 s e d k n (Some m) g x shows at was same is = record {
  number = refl;
  kind = is.kind;
  device = is.device;
  rate = is.rate;
  outputs = length-map n.plugs.outputs disconnected ∙ is.outputs;
  inputs = length-map n.plugs.inputs disconnected ∙ is.inputs;
  output_words = λ j lt. cleared_at n.plugs.outputs j (let size = is.outputs in omega arith) ∙ ap disconnected (is.output_words j lt)
      ∙ kept_output s0 s e d m j g x was lt;
  input_words = λ j lt. cleared_at n.plugs.inputs j (let size = is.inputs in omega arith) ∙ ap disconnected (is.input_words j lt)
      ∙ kept_input s0 s e d m j g x was lt;
  manager = reset_manager s e d k n.withheld same;
}

-- ---- the whole

-- a device that is on the bus stays on it if walks along the cables stay
pub stays_on : (s : State) (t : Topology) (kinds : List DeviceKind) (e : ResetEntry) → IsGood s → Shows t kinds e
    → length s.declared.topology.devices ≤ length t.devices → ((d : ℕ) → IsOnBus s.declared.topology.cables d → IsOnBus t.cables d)
    → (d : ℕ) → IsTrue (is_on s d) → IsTrue (is_some (node_number e.nodes d))
stays_on s t kinds e g shows more walks d on = go s.account.latest g.latest on
  where
    low : d < length s.declared.topology.devices
    low = let declared = on_declared s d (node_of s.account.latest d) g (on_number s d on) in let named = g.declared.named in omega arith

    go : (o : Option ResetEntry) → IsLatest o s.declared s.account → IsTrue (is_some (number_in o d)) → IsTrue (is_some (node_number e.nodes d))
    go None h on = absurd (false≢true on)
    go (Some x) h on = (shows.nodes d (omega (arith, low))).1 (walks d ((h.1.nodes d low).0 on))

-- If each device that is on the bus is on it by the entry too, the nodes of its bus reset are those of the account after it.
pub nodes_reset : (old new : Network) (s0 s : State) (initiator : ℕ) (e : ResetEntry) → IsGood s0 → Extends s0 s → HasNodes old.nodes (seen s) → old.withheld ≡ s.account.withheld
    → IsReset old new initiator e → Shows s.declared.topology s.declared.kinds e
    → ((d : ℕ) → IsTrue (is_on s d) → IsTrue (is_some (node_number e.nodes d))) → HasNodes new.nodes (seen (after_reset_entry s e))
nodes_reset old new s0 s initiator e g x h withheld r shows stays = record {
  size = r.size ∙ h.size;
  each = λ d lt. let size = r.size in let low : d < length old.nodes = omega arith in
      let P : NodeState → Type 0 = IsNodeAt (node_number e.nodes d) (seen (after_reset_entry s e)) d in
      subst P (sym (r.nodes d low)) (go d (node_number e.nodes d) refl (number_in s.account.latest d) refl (r.withhold d low ∙ withheld) (h.each d low));
}
  where
    go : (d : ℕ) (now : Option ℕ) → node_number e.nodes d ≡ now → (was : Option ℕ) → number_in s.account.latest d ≡ was → (node_at old.nodes d).withheld ≡ s.account.withheld
        → IsNodeAt was (seen s) d (node_at old.nodes d)
        → IsNodeAt now (seen (after_reset_entry s e)) d (numbered now e.manager (node_at old.nodes d))
    go d None at None was same is = is
    go d None at (Some m) was same is = absurd (false≢true (sym (ap is_some at) ∙ stays d (ap is_some was)))
    go d (Some k) at o was same is = renumbered s0 s e d k (node_at old.nodes d) o g x shows at was same is

-- the manager is the one that the entry shows
pub manager_reset : (old new : Network) (initiator : ℕ) (e : ResetEntry) → IsReset old new initiator e → new.manager ≡ manager_device (Some e)
manager_reset old new initiator e r = r.manager

-- each device stays of its kind
pub kinds_reset : (old new : Network) (initiator : ℕ) (e : ResetEntry) → IsReset old new initiator e → kinds_of new.nodes ≡ kinds_of old.nodes
kinds_reset old new initiator e r =
    ext_get_or Relay (kinds_of new.nodes) (kinds_of old.nodes)
    (length-map new.nodes (λ (n : NodeState). n.kind) ∙ r.size ∙ sym (length-map old.nodes (λ (n : NodeState). n.kind))) each
  where
    stays : (o manager : Option ℕ) (n : NodeState) → (numbered o manager n).kind ≡ n.kind
    stays None manager n = refl
    stays (Some k) manager n = refl

    each : (d : ℕ) → d < length (kinds_of new.nodes) → get_or (kinds_of new.nodes) d Relay ≡ get_or (kinds_of old.nodes) d Relay
    each d lt =
        let low : d < length old.nodes = omega (arith, r.size, length-map new.nodes (λ (n : NodeState). n.kind)) in
        Plain.get_or-map (λ (n : NodeState). n.kind) new.nodes d (Nodes.first_state Relay 0 0 false) ∙ ap (λ (n : NodeState). n.kind) (r.nodes d low)
        ∙ stays (node_number e.nodes d) e.manager (node_at old.nodes d)
        ∙ sym (Plain.get_or-map (λ (n : NodeState). n.kind) old.nodes d (Nodes.first_state Relay 0 0 false))
