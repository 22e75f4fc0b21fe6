-- What nodes keep once a request is carried out, and the devices then.
use Rattle.fw_bus_engine.proofs.Common.{◌≡◌, ◌≢◌, ◌⊎◌, inl, inr, ℕ, zero, suc, ◌+◌, ◌*◌, ◌<◌, List, [], ◌∷◌, length, slice_set, Bool, true, false, cond, option_map, Option, Some, None, unwrap_or}
use Rattle.fw_bus_engine.proofs.Common.{refl, ap, sym, subst, ◌∙◌, arith, cases_eq, get_or-set_other, get_or-set_same, length-set, at_plug, DeviceKind, Relay, Request, OutputPlug, InputPlug, word_of}
use Rattle.fw_bus_engine.proofs.Common.{after_at, NodeState, first_state, after_request, Network, kind_at, kinds_of, node_at, State, number_in, epoch_of, is_manager, IsGood, HasNodes, HasDecks}
use Rattle.fw_bus_engine.proofs.Common.{IsNodeAt}
use Rattle.fw_terms.specs.Devices.{output_plugs_of, input_plugs_of}
use Rattle.fw_csr.specs.Manager.{words_after}
use Rattle.fw_tree.specs.SelfIds.{facts_at}
use Rattle.fw_model_controllers.specs.Lingering.{LingerUnchanged}
use Rattle.fw_node.specs.Space.{space_after}
use Rattle.fw_node.specs.State.{HasSpace}
use Rattle.fw_node.proofs.Spaces.{space_kept}
use Rattle.fw_devices.specs.Network.{no_entry}
use Rattle.fw_model_run.specs.Hearing.{HasHearing, HearUnchanged}
use Rattle.fw_model_run.specs.Spaces.{manager_words}
use Rattle.fw_model_run.specs.State.{Declared}
use Rattle.fw_model_run.specs.Decks.{DeckState}
use Rattle.fw_bus_state.specs.Stands.{HasDevices, devices_at, manager_device, seen, space_seen}
use Rattle.fw_bus_state.proofs.DeckNodes.{decks_requested}
use Rattle.fw_bus_state.proofs.Hearing.{asked_hears}
use Rattle.fw_bus_state.proofs.Latest.{numbers_apart}
use Rattle.fw_bus_state.proofs.Lingers.{requested}
use Rattle.fw_bus_state.proofs.Nodes.{node_as, space_as}
use Rattle.fw_bus_engine.proofs.Responder.{place_within}

-- ---- what nodes keep once it is carried out

-- The state t is s after node n of device d has carried a request out, in all that devices keep: the words of its own registers follow the
-- request, and all others stay.
pub record FollowsRequest (s t : State) (d n : ℕ) (r : Request) : Type 0 where
  pub place : number_in s.account.latest d ≡ Some n
  pub declared : t.declared ≡ s.declared
  pub decks : t.decks ≡ s.decks
  pub latest : t.account.latest ≡ s.account.latest
  pub withheld : t.account.withheld ≡ s.account.withheld
  pub outputs : (k : ℕ) → k < output_plugs_of (kind_at s.declared.kinds d)
      → word_of t.account (OutputPlug (at_plug d k)) ≡ after_at (0xFFFF_F000_0904 + 4 * k) r (word_of s.account (OutputPlug (at_plug d k)))
  pub inputs : (k : ℕ) → k < input_plugs_of (kind_at s.declared.kinds d)
      → word_of t.account (InputPlug (at_plug d k)) ≡ after_at (0xFFFF_F000_0984 + 4 * k) r (word_of s.account (InputPlug (at_plug d k)))
  pub manager : is_manager s.account.latest n ≡ true → manager_words t ≡ words_after (manager_words s) r
  pub other_outputs : (c k : ℕ) → c ≢ d → word_of t.account (OutputPlug (at_plug c k)) ≡ word_of s.account (OutputPlug (at_plug c k))
  pub other_inputs : (c k : ℕ) → c ≢ d → word_of t.account (InputPlug (at_plug c k)) ≡ word_of s.account (InputPlug (at_plug c k))
  pub other_manager : (k : ℕ) → k ≢ n → is_manager s.account.latest k ≡ true → manager_words t ≡ manager_words s
  pub linger : LingerUnchanged s.account t.account
  pub hear : HearUnchanged s t

-- the node of one device changes
pub nodes_set : (nodes : List NodeState) (s t : State) (d : ℕ) (n : NodeState) → HasNodes nodes (seen s) → length t.declared.names ≡ length s.declared.names → d < length nodes
    → IsNodeAt (number_in t.account.latest d) (seen t) d n
    → ((c : ℕ) → c ≢ d → c < length nodes → IsNodeAt (number_in t.account.latest c) (seen t) c (node_at nodes c)) → HasNodes (slice_set nodes d n) (seen t)
nodes_set nodes s t d n h names low here others = record { size = length-set nodes d n ∙ h.size ∙ sym names; each = λ c lt. go c (cases_eq c d) (let e = length-set nodes d n in omega arith) }
  where
    go : (c : ℕ) → (c ≡ d) ⊎ (c ≢ d) → c < length nodes → IsNodeAt (number_in t.account.latest c) (seen t) c (node_at (slice_set nodes d n) c)
    go c (inl e) lt =
        let P : ℕ → Type 0 = λ c. IsNodeAt (number_in t.account.latest c) (seen t) c (node_at (slice_set nodes d n) c) in
        let Q : NodeState → Type 0 = IsNodeAt (number_in t.account.latest d) (seen t) d in
        subst P (sym e) (subst Q (sym (get_or-set_same nodes d n (first_state Relay 0 0 false) low)) here)
    go c (inr ne) lt =
        let Q : NodeState → Type 0 = IsNodeAt (number_in t.account.latest c) (seen t) c in
        subst Q (sym (get_or-set_other nodes d c n (first_state Relay 0 0 false) ne)) (others c ne lt)

-- and if it is of the same kind, all kinds stay
pub kinds_set : (nodes : List NodeState) (d : ℕ) (n : NodeState) → n.kind ≡ (node_at nodes d).kind → kinds_of (slice_set nodes d n) ≡ kinds_of nodes
kinds_set [] d n same = refl
kinds_set (x ∷ nodes) zero n same = ap (λ (k : DeviceKind). k ∷ kinds_of nodes) same
kinds_set (x ∷ nodes) (suc d) n same = ap (λ (ks : List DeviceKind). x.kind ∷ ks) (kinds_set nodes d n same)

-- its own node has the registers that follow
here_follows : (s t : State) (d n : ℕ) (r : Request) (node : NodeState) → FollowsRequest s t d n r → HasSpace node (space_seen (seen s) d n)
    → HasSpace (after_request (Some r) node) (space_seen (seen t) d n)
here_follows s t d n r node x h =
    space_as (after_request (Some r) node) (space_after (space_seen (seen s) d n) r) (space_seen (seen t) d n) (space_kept node (space_seen (seen s) d n) r h)
    refl (ap (λ (z : Declared). kind_at z.kinds d) x.declared) refl (ap (λ (z : Declared). (facts_at z.topology.devices d).speed) x.declared) x.outputs x.inputs
    (ap (λ o. cond (is_manager o n) (Some (manager_words t)) None) x.latest ∙ manager (is_manager s.account.latest n) refl)
  where
    manager : (b : Bool) → is_manager s.account.latest n ≡ b → cond b (Some (manager_words t)) None ≡ option_map (λ w. words_after w r) (cond b (Some (manager_words s)) None)
    manager true own = ap (λ w. Some w) (x.manager own)
    manager false own = refl

-- and each other node those that it has
others_stay : (s t : State) (d n c : ℕ) (r : Request) (o : Option ℕ) (node : NodeState) → IsGood s → FollowsRequest s t d n r → c ≢ d → number_in s.account.latest c ≡ o
    → IsNodeAt o (seen s) c node → IsNodeAt o (seen t) c node
others_stay s t d n c r o node g x ne at is =
    node_as s t c o node (ap (λ (z : Declared). kind_at z.kinds c) x.declared) (ap (λ (z : Declared). (facts_at z.topology.devices c).speed) x.declared)
    (λ k lt. x.other_outputs c k ne) (λ k lt. x.other_inputs c k ne)
    (λ k e. ap (λ z. cond (is_manager z k) (Some (manager_words t)) None) x.latest ∙ manager k e (is_manager s.account.latest k) refl) is
  where
    manager : (k : ℕ) → o ≡ Some k → (b : Bool) → is_manager s.account.latest k ≡ b → cond b (Some (manager_words t)) None ≡ cond b (Some (manager_words s)) None
    manager k e true own = ap (λ w. Some w) (x.other_manager k (λ same. ne (numbers_apart s c d k n g (at ∙ e) x.place same)) own)
    manager k e false own = refl

nodes_follow : (nodes : List NodeState) (s t : State) (d n : ℕ) (r : Request) → IsGood s → HasNodes nodes (seen s) → FollowsRequest s t d n r
    → HasNodes (slice_set nodes d (after_request (Some r) (node_at nodes d))) (seen t)
nodes_follow nodes s t d n r g h x =
    let low = place_within nodes s d n g h x.place in
    let before : HasSpace (node_at nodes d) (space_seen (seen s) d n) = subst (λ o. IsNodeAt o (seen s) d (node_at nodes d)) x.place (h.each d low) in
    let here = here_follows s t d n r (node_at nodes d) x before in
    nodes_set nodes s t d _ h (ap (λ (z : Declared). length z.names) x.declared) low
    (subst (λ o. IsNodeAt o (seen t) d (after_request (Some r) (node_at nodes d))) (sym (ap (λ o. number_in o d) x.latest ∙ x.place)) here)
    (λ c ne lt. subst (λ o. IsNodeAt (number_in o c) (seen t) c (node_at nodes c)) (sym x.latest) (others_stay s t d n c r (number_in s.account.latest c) (node_at nodes c) g x ne refl (h.each c lt)))

-- the network after a device's node has answered a request
abbrev pub answered_by : Network → ℕ → Option Request → Network
answered_by n d o = record n { nodes = slice_set n.nodes d (after_request o (node_at n.nodes d)) }

-- all devices are those of the run
pub devices_follow : (n : Network) (s t : State) (d to : ℕ) (r : Request) → IsGood s → HasHearing s → HasDevices n (devices_at s) → FollowsRequest s t d to r
    → HasDevices (answered_by n d (Some r)) (devices_at t)
devices_follow n s t d to r g hearing h x = record {
  topology = h.topology ∙ sym (ap (λ (z : Declared). z.topology) x.declared);
  names = h.names ∙ sym (ap (λ (z : Declared). z.names) x.declared);
  kinds = kinds_set n.nodes d _ refl ∙ h.kinds ∙ sym (ap (λ (z : Declared). z.kinds) x.declared);
  nodes = nodes;
  lingering = requested n.nodes s t d (Some r) g h.nodes nodes low x.latest x.linger h.lingering;
  decks = subst (λ (f : ℕ → DeckState). HasDecks after t.declared.kinds f) (sym x.decks)
      (subst (λ (z : Declared). HasDecks after z.kinds s.decks) (sym x.declared) (decks_requested n.nodes s d (Some r) low h.decks));
  hearers = asked_hears n.nodes s t d (Some r) hearing h.nodes nodes low x.latest x.hear h.hearers;
  latest = h.latest ∙ sym (ap (λ o. unwrap_or o no_entry) x.latest);
  epoch = h.epoch ∙ sym (ap epoch_of x.latest);
  manager = h.manager ∙ sym (ap manager_device x.latest);
  withheld = h.withheld ∙ sym x.withheld;
}
  where
    after : List NodeState
    after = slice_set n.nodes d (after_request (Some r) (node_at n.nodes d))

    low : d < length n.nodes
    low = place_within n.nodes s d to g h.nodes x.place

    nodes : HasNodes after (seen t)
    nodes = nodes_follow n.nodes s t d to r g h.nodes x
