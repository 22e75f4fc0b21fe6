-- What nodes keep as frames go between them and tapes go in and out: only units change, and responses that wait.
use Rattle.fw_bus_engine.proofs.Common.{◌≡◌, ◌≢◌, ◌⊎◌, inl, inr, ℕ, ◌+◌, ◌*◌, ◌<◌, List}
use Rattle.fw_bus_engine.proofs.Common.{length, slice_set, Bool, true, false, cond, ◌==◌, Option, Some, None, refl, ap, sym}
use Rattle.fw_bus_engine.proofs.Common.{subst, ◌∙◌, arith, IsTrue, cases_eq, get_or-set_other, get_or-set_same, length-set}
use Rattle.fw_bus_engine.proofs.Common.{Relay, after_at, Frame, node_of}
use Rattle.fw_bus_engine.proofs.Common.{NodeState, after_request, node_at, DeckState, IsGood}
use Rattle.fw_bus_engine.proofs.Common.{State, number_in, is_on, Machine}
use Rattle.fw_bus_engine.proofs.Common.{HasLingering, IsNodeAt, HasNodes, HasDecks, StandsFor, HasHearers}
use Rattle.fw_csr.specs.Manager.{ManagerWords, words_after}
use Rattle.fw_tape.specs.declared.cassette.Cassette.{Cassette}
use Rattle.fw_node.specs.Fcp.{after_frame}
use Rattle.fw_node.specs.State as Nodes
use Rattle.fw_devices.specs.Decks.{with_tape}
use Rattle.fw_model_run.specs.Spaces.{manager_words}
use Rattle.fw_model_run.proofs.FrameWrites.{write_by}
use Rattle.fw_bus_state.specs.Lingering.{LingersAs}
use Rattle.fw_bus_engine.proofs.AnsweredNodes.{FollowsRequest, devices_follow, kinds_set, nodes_set}
use Rattle.fw_bus_state.proofs.Latest.{on_number}
use Rattle.fw_bus_state.proofs.Lingers.{lingers_kept, unchanged_same}
use Rattle.fw_bus_state.proofs.Nodes.{node_kept}
use Rattle.fw_bus_state.specs.Reels.{HearsAs}
use Rattle.fw_bus_state.proofs.Hearing.{hears_kept, hear_same}
use Rattle.fw_bus_state.specs.Stands.{seen}

-- the machine with another node for a device
abbrev pub with_node : Machine → ℕ → NodeState → Machine
with_node m d n = record m { devices = record m.devices { nodes = slice_set m.devices.nodes d n } }

-- the state with other decks, in which no frame waits for its answer
abbrev pub with_decks : State → (ℕ → DeckState) → State
with_decks s f = record s { decks = f; frame = None }

-- ---- one node has another unit, or another response that waits

lingering_set : (nodes : List NodeState) (s : State) (d : ℕ) (n : NodeState) → d < length nodes → n.plugs ≡ (node_at nodes d).plugs → HasLingering nodes s.account.continues
    → HasLingering (slice_set nodes d n) s.account.continues
lingering_set nodes s d n low same h = record { each = λ c lt. go c (cases_eq c d) (let e = length-set nodes d n in omega (arith, e, lt)) }
  where
    go : (c : ℕ) → (c ≡ d) ⊎ (c ≢ d) → c < length nodes → LingersAs (node_at (slice_set nodes d n) c) c s.account.continues
    go c (inl e) lt =
        let P : ℕ → Type 0 = λ c. LingersAs (node_at (slice_set nodes d n) c) c s.account.continues in
        subst P (sym e) (subst (λ m. LingersAs m d s.account.continues) (sym (get_or-set_same nodes d n (Nodes.first_state Relay 0 0 false) low))
        (lingers_kept (node_at nodes d) n d s.account same (h.each d low)))
    go c (inr ne) lt = subst (λ m. LingersAs m c s.account.continues) (sym (get_or-set_other nodes d c n (Nodes.first_state Relay 0 0 false) ne)) (h.each c lt)

hearers_set : (nodes : List NodeState) (s : State) (d : ℕ) (n : NodeState) → d < length nodes → n.plugs ≡ (node_at nodes d).plugs → HasHearers nodes s.dub.lingers
    → HasHearers (slice_set nodes d n) s.dub.lingers
hearers_set nodes s d n low same h = record { each = λ c lt. go c (cases_eq c d) (let e = length-set nodes d n in omega (arith, e, lt)) }
  where
    go : (c : ℕ) → (c ≡ d) ⊎ (c ≢ d) → c < length nodes → HearsAs (node_at (slice_set nodes d n) c) c s.dub.lingers
    go c (inl e) lt =
        let P : ℕ → Type 0 = λ c. HearsAs (node_at (slice_set nodes d n) c) c s.dub.lingers in
        subst P (sym e) (subst (λ m. HearsAs m d s.dub.lingers) (sym (get_or-set_same nodes d n (Nodes.first_state Relay 0 0 false) low))
        (hears_kept (node_at nodes d) n d s.dub same (h.each d low)))
    go c (inr ne) lt = subst (λ m. HearsAs m c s.dub.lingers) (sym (get_or-set_other nodes d c n (Nodes.first_state Relay 0 0 false) ne)) (h.each c lt)

-- a node keeps its registers
abbrev pub KeepsRegisters : NodeState → NodeState → Type 0
KeepsRegisters n m = m ≡ record n { unit = m.unit; waiting = m.waiting }

pub deck_stands : (m : Machine) (s : State) (f : ℕ → DeckState) (d : ℕ) (n : NodeState) → StandsFor m s → d < length m.devices.nodes
    → KeepsRegisters (node_at m.devices.nodes d) n → (number_in s.account.latest d ≡ None → n.waiting ≡ None)
    → HasDecks (slice_set m.devices.nodes d n) (with_decks s f).declared.kinds (with_decks s f).decks → StandsFor (with_node m d n) (with_decks s f)
deck_stands m s f d n st low keeps rests decks = record {
  devices = record {
    topology = st.devices.topology;
    names = st.devices.names;
    kinds = kinds_set m.devices.nodes d n (ap (λ (x : NodeState). x.kind) keeps) ∙ st.devices.kinds;
    nodes = stays (nodes_set m.devices.nodes s s d n st.devices.nodes refl low here (λ c ne lt. st.devices.nodes.each c lt));
    lingering = record { each = (lingering_set m.devices.nodes s d n low (ap (λ (x : NodeState). x.plugs) keeps) st.devices.lingering).each };
    decks = decks;
    hearers = record { each = (hearers_set m.devices.nodes s d n low (ap (λ (x : NodeState). x.plugs) keeps) st.devices.hearers).each };
    latest = st.devices.latest;
    epoch = st.devices.epoch;
    manager = st.devices.manager;
    withheld = st.devices.withheld;
  };
  clock = st.clock;
  table = st.table;
  directory = st.directory;
  wire = st.wire;
  streams = st.streams;
  answered = st.answered;
  unsent = refl;
  election = st.election;
  bids = st.bids;
  reel = st.reel;
  around = st.around;
}
  where
    here : IsNodeAt (number_in s.account.latest d) (seen s) d n
    here = node_kept (number_in s.account.latest d) s d (node_at m.devices.nodes d) n keeps rests (st.devices.nodes.each d low)

    same : (o : Option ℕ) (c : ℕ) (x : NodeState) → IsNodeAt o (seen s) c x → IsNodeAt o (seen (with_decks s f)) c x
    same None c x is = is
    same (Some number) c x is = is

    stays : HasNodes (slice_set m.devices.nodes d n) (seen s) → HasNodes (slice_set m.devices.nodes d n) (seen (with_decks s f))
    stays h = record { size = h.size; each = λ c lt. same (number_in s.account.latest c) c (node_at (slice_set m.devices.nodes d n) c) (h.each c lt) }

-- ---- what is sent

-- nothing waits any longer
pub frame_waits : (n : NodeState) → (after_frame n).waiting ≡ None
frame_waits n = go n.waiting
  where
    go : (w : Option (ℕ × Frame)) → (after_frame (record n { waiting = w })).waiting ≡ None
    go None = refl
    go (Some told) = refl

pub frame_registers : (n : NodeState) → KeepsRegisters n (after_frame n)
frame_registers n = go n.waiting
  where
    go : (w : Option (ℕ × Frame)) → KeepsRegisters (record n { waiting = w }) (after_frame (record n { waiting = w }))
    go None = refl
    go (Some told) = refl

-- a tape that goes in or out
pub tape_registers : (tape : Option Cassette) (n : NodeState) → KeepsRegisters n (with_tape tape n)
tape_registers tape n = refl

-- nothing waits in a device that is off
pub off_waits : (nodes : List NodeState) (s : State) (d : ℕ) → HasNodes nodes (seen s) → d < length nodes → number_in s.account.latest d ≡ None
    → (node_at nodes d).waiting ≡ None
off_waits nodes s d h low off =
    let is = subst (λ o. IsNodeAt o (seen s) d (node_at nodes d)) off (h.each d low) in ap (λ (n : NodeState). n.waiting) is

-- ---- what is written to a node

-- the write of a frame changes no register
write_leaves : (b : Bool) (offset place word : ℕ) (bytes : List ℕ) → after_at place (write_by b offset bytes) word ≡ word
write_leaves true offset place word bytes = go (offset == place)
  where
    go : (c : Bool) → cond c word word ≡ word
    go true = refl
    go false = refl
write_leaves false offset place word bytes = go (offset == place)
  where
    go : (c : Bool) → cond c word word ≡ word
    go true = refl
    go false = refl

words_leave : (b : Bool) (offset : ℕ) (bytes : List ℕ) (w : ManagerWords) → words_after w (write_by b offset bytes) ≡ w
words_leave b offset bytes w =
    let id = write_leaves b offset 0xFFFF_F000_021C w.bus_manager_id bytes in
    let units = write_leaves b offset 0xFFFF_F000_0220 w.bandwidth_available bytes in
    let high = write_leaves b offset 0xFFFF_F000_0224 w.channels_available_hi bytes in
    let low = write_leaves b offset 0xFFFF_F000_0228 w.channels_available_lo bytes in
    λ i. record { bus_manager_id = id i; bandwidth_available = units i; channels_available_hi = high i; channels_available_lo = low i; withheld = w.withheld }

-- so of all that devices keep nothing changes
frame_follows : (s : State) (d n : ℕ) (b : Bool) (offset : ℕ) (bytes : List ℕ) → number_in s.account.latest d ≡ Some n → FollowsRequest s s d n (write_by b offset bytes)
frame_follows s d n b offset bytes place = record {
  place = place;
  declared = refl;
  decks = refl;
  latest = refl;
  withheld = refl;
  outputs = λ k lt. sym (write_leaves b offset (0xFFFF_F000_0904 + 4 * k) _ bytes);
  inputs = λ k lt. sym (write_leaves b offset (0xFFFF_F000_0984 + 4 * k) _ bytes);
  manager = λ own. sym (words_leave b offset bytes (manager_words s));
  other_outputs = λ c k ne. refl;
  other_inputs = λ c k ne. refl;
  other_manager = λ k ne own. refl;
  linger = unchanged_same s.account;
  hear = hear_same s s refl (λ p. refl);
}

-- and the machine stands for what it stood for
pub written_stands : (m : Machine) (s : State) (d : ℕ) (b : Bool) (offset : ℕ) (bytes : List ℕ) → IsGood s → StandsFor m s → IsTrue (is_on s d)
    → StandsFor (with_node m d (after_request (Some (write_by b offset bytes)) (node_at m.devices.nodes d))) s
written_stands m s d b offset bytes g st on = record {
  devices = devices_follow m.devices s s d (node_of s.account.latest d) (write_by b offset bytes) g st.around.hearing st.devices
      (frame_follows s d (node_of s.account.latest d) b offset bytes (on_number s d on));
  clock = st.clock;
  table = st.table;
  directory = st.directory;
  wire = st.wire;
  streams = st.streams;
  answered = st.answered;
  unsent = st.unsent;
  election = st.election;
  bids = st.bids;
  reel = st.reel;
  around = st.around;
}
