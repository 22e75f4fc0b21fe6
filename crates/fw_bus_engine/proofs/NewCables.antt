-- Cables that come to the machine are those of the run.
use Rattle.fw_bus_engine.proofs.Common.{◌≡◌, ℕ, ◌+◌, ◌<◌, ◌&&◌, not, List, [], ◌∷◌, Bool, true, false, Option, None, Some, cond, refl, ap, sym, subst, ◌∙◌, arith, length, IsTrue, IsFalse, nat_tests}
use Rattle.fw_bus_engine.proofs.Common.{Result, Reset, Timed, Topology, NodeState, Network, kinds_of, is_node, MOST_RESETS}
use Rattle.fw_bus_engine.proofs.Common.{at_most, State, is_on, Transition, IsGood, Machine, between, BeginsReset, GivesReset, Resets}
use Rattle.fw_bus_engine.proofs.Common.{HasLingering, StandsFor, HasNodes, HasDecks, IsReady, TakesAction, Performed, Performs, is_node_same, HasHearers}
use Rattle.std.proofs.Common.{nat_le}
use Rattle.fw_tree.specs.declared.facts.End.{End}
use Rattle.fw_tree.specs.declared.facts.PhyFacts.{PhyFacts}
use Rattle.fw_tree.specs.Cables.{IsOnBus}
use Rattle.fw_tree.specs.Topology.{Made, IsJoined}
use Rattle.fw_devices.proofs.JoinLaws.{bus_grows}
use Rattle.fw_model_run.specs.Actions.{AddCable}
use Rattle.fw_model_run.specs.Afterwards.{with_topology, counting}
use Rattle.fw_model_run.specs.BusDeeds.{joining_ends}
use Rattle.fw_model_run.proofs.Done.{Done}
use Rattle.fw_model_run.proofs.Cables.{cabled_declared}
use Rattle.fw_bus_state.specs.Orders.{joins_in}
use Rattle.fw_bus_engine.proofs.Began.{MayBegin}
use Rattle.fw_bus_engine.proofs.ResetTurns.{reset_of, some_nodes, ready_on, counting_in, few_epochs}
use Rattle.fw_bus_state.proofs.Standing.{resets_stand}
use Rattle.fw_bus_engine.proofs.OneAction.{does_one}
use Rattle.fw_bus_state.specs.Stands.{seen}

-- what a cable between these ends makes of the devices, of which the first is on the bus or not, and the second
pub record IsCable (m : Machine) (devices : Network) (a b : End) (x y : Bool) : Type 0 where
  pub joined : IsJoined m.devices.topology devices.topology a b
  pub same : devices ≡ record m.devices { topology = devices.topology }
  pub first_on : is_node m.devices.nodes a.device ≡ x
  pub second_on : is_node m.devices.nodes b.device ≡ y

-- the machine with these devices
abbrev pub with_devices : Machine → Network → Machine
with_devices m devices = record m { devices = devices }

-- the nodes keep what they keep: cables are no part of it
joined_stands : (m : Machine) (s : State) (devices : Network) (a b : End) (x y : Bool) → StandsFor m s → IsCable m devices a b x y
    → StandsFor (with_devices m devices) (with_topology s devices.topology)
joined_stands m s devices a b x y st j = record {
  devices = record {
    topology = refl;
    names = ap (λ (n : Network). n.names) j.same ∙ st.devices.names;
    kinds = ap (λ (n : Network). kinds_of n.nodes) j.same ∙ st.devices.kinds;
    nodes = subst (λ (ns : List NodeState). HasNodes ns (seen (with_topology s devices.topology))) nodes
        (subst (λ v. HasNodes m.devices.nodes v) (sym kept) st.devices.nodes);
    lingering = subst (λ (ns : List NodeState). HasLingering ns s.account.continues) nodes st.devices.lingering;
    decks = subst (λ (ns : List NodeState). HasDecks ns s.declared.kinds s.decks) nodes st.devices.decks;
    hearers = subst (λ (ns : List NodeState). HasHearers ns s.dub.lingers) nodes st.devices.hearers;
    latest = ap (λ (n : Network). n.latest) j.same ∙ st.devices.latest;
    epoch = ap (λ (n : Network). n.epoch) j.same ∙ st.devices.epoch;
    manager = ap (λ (n : Network). n.manager) j.same ∙ st.devices.manager;
    withheld = ap (λ (n : Network). n.withheld) j.same ∙ st.devices.withheld;
  };
  clock = st.clock;
  table = st.table;
  directory = st.directory;
  wire = st.wire;
  streams = st.streams;
  answered = st.answered;
  unsent = st.unsent;
  election = st.election;
  bids = st.bids;
  reel = st.reel;
  around = st.around;
}
  where
    nodes : m.devices.nodes ≡ devices.nodes
    nodes = sym (ap (λ (n : Network). n.nodes) j.same)

    kept : seen (with_topology s devices.topology) ≡ seen s
    kept = ap (λ facts. record (seen s) { facts = facts }) (j.joined.same ∙ ap (λ (t : Topology). t.devices) st.devices.topology)

-- the cable joins two ports of the run too
joined_in : (m : Machine) (s : State) (u : Topology) (a b : End) → StandsFor m s → IsJoined m.devices.topology u a b → IsJoined s.declared.topology u a b
joined_in m s u a b st j = subst (λ (t : Topology). IsJoined t u a b) st.devices.topology j

-- ends of which the one is on the bus, or not, and the other: the end on the bus is device i, and begins a bus reset
abbrev pub JoinsBy : (x y : Bool) → (a b : End) → (i : ℕ) → Type 0
JoinsBy x y a b i = (s : State) (u : Topology) (out : List Timed) (t : State) → IsJoined s.declared.topology u a b → s.resets < MOST_RESETS
    → Resets (counting (with_topology s u)) i out t → Done (joining_ends x y s a b u) out t

pub first_joins : (a b : End) → JoinsBy true false a b a.device
first_joins a b s u out t joined low r = record {
  found = r.entry;
  may = record { joined = joined; begins = record { counts = low; reset = record { is_entry = r.is_entry; few = r.few } } };
  out_is = r.out_is;
  state_is = r.state_is;
}

pub second_joins : (a b : End) → JoinsBy false true a b b.device
second_joins a b s u out t joined low r = record {
  found = r.entry;
  may = record { joined = joined; begins = record { counts = low; reset = record { is_entry = r.is_entry; few = r.few } } };
  out_is = r.out_is;
  state_is = r.state_is;
}

-- and none begins one
abbrev pub JoinsSilently : (x y : Bool) → (a b : End) → Type 0
JoinsSilently x y a b = (s : State) (u : Topology) → IsJoined s.declared.topology u a b → Done (joining_ends x y s a b u) [] (with_topology s u)

pub both_join : (a b : End) → JoinsSilently true true a b
both_join a b s u joined = record { found = tt; may = joined; out_is = refl; state_is = refl }

pub neither_joins : (a b : End) → JoinsSilently false false a b
neither_joins a b s u joined = record { found = tt; may = joined; out_is = refl; state_is = refl }

-- which of the ends is on the bus decides, by the machine and by the run
joins_by : (m : Machine) (s : State) (devices : Network) (a b : End) (x y : Bool) (out : List Timed) (t : State) → IsGood s → StandsFor m s
    → IsCable m devices a b x y → Done (joining_ends x y s a b devices.topology) out t → Transition s (AddCable a b) out t
joins_by m s devices a b x y out t g st j joins =
    let first = sym j.first_on ∙ is_node_same m.devices.nodes s st.devices.nodes g a.device in
    let second = sym j.second_on ∙ is_node_same m.devices.nodes s st.devices.nodes g b.device in
    let z : Done (joining_ends (is_on s a.device) (is_on s b.device) s a b devices.topology) out t =
    subst (λ p. Done (joining_ends p (is_on s b.device) s a b devices.topology) out t) first
    (subst (λ q. Done (joining_ends x q s a b devices.topology) out t) second joins) in
    record { found = record { topology = devices.topology; begun = z.found }; waits = st.answered; may = z.may; out_is = z.out_is; state_is = z.state_is }

-- if one end is on the bus and the other is off, the end on the bus begins a bus reset
join_resets : (m now : Machine) (devices : Network) (a b : End) (x y : Bool) (i : ℕ) → IsCable m devices a b x y → m.resets < MOST_RESETS
    → JoinsBy x y a b i → IsTrue (is_node m.devices.nodes i)
    → BeginsReset (counting_in (with_devices m devices)) now i → TakesAction (AddCable a b) m now m.cycle (Some (Reset now.devices.latest))
join_resets m now devices a b x y i j few joins node begins = record { shown = shown_ }
  where
    shown_ : (s : State) → IsGood s → StandsFor m s
        → (t : State) × Transition s (AddCable a b) (at_most m.cycle (Some (Reset now.devices.latest))) t × StandsFor now t
    shown_ s g st =
        let js = joined_in m s devices.topology a b st j.joined in
        let s1 = with_topology s devices.topology in
        let low : s.resets < MOST_RESETS = let resets = st.clock.resets in omega (arith, resets, few) in
        let may : MayBegin (counting_in (with_devices m devices)) s (counting s1) i = record {
          is_good = g;
          around = st.around;
          dub = refl;
          action = AddCable a b;
          begins = λ out t r. joins_by m s devices a b x y out t g st j (joins s devices.topology out t js low r);
          extends = record { account = refl; cycle = refl; decks = refl; streams = refl; kinds = λ d lt. refl };
          stands = resets_stand (with_devices m devices) s1 (m.resets + 1) (s.resets + 1) (ap (λ n. n + 1) st.clock.resets) (joined_stands m s devices a b x y st j);
          declared = cabled_declared s.declared devices.topology a b js g.declared;
          some = subst (λ (ns : List NodeState). 0 < length ns) (sym (ap (λ (n : Network). n.nodes) j.same)) (some_nodes m s i g st node);
          more = let n = ap (λ (fs : List PhyFacts). length fs) js.same in omega (arith, n);
          walks = bus_grows s.declared.topology devices.topology a b js g.declared.made;
        } in
        let r = reset_of (counting_in (with_devices m devices)) now s (counting s1) i may begins
        (subst (λ n. n < MOST_RESETS) (sym (ap (λ (n : Network). n.epoch) j.same)) (few_epochs m s g st few)) in
        (r.state, may.begins (at_most m.cycle (Some (Reset now.devices.latest))) r.state r.resets, r.stands)

-- if both are off nothing else happens; both on the bus they cannot be
pub join_silent : (m : Machine) (devices : Network) (a b : End) (x y : Bool) → IsCable m devices a b x y → JoinsSilently x y a b
    → TakesAction (AddCable a b) m (with_devices m devices) m.cycle None
join_silent m devices a b x y j joins = record { shown = shown_ }
  where
    shown_ : (s : State) → IsGood s → StandsFor m s → (t : State) × Transition s (AddCable a b) [] t × StandsFor (with_devices m devices) t
    shown_ s g st =
        let js = joined_in m s devices.topology a b st j.joined in
        let s1 = with_topology s devices.topology in
        (s1, joins_by m s devices a b x y [] s1 g st j (joins s devices.topology js), joined_stands m s devices a b x y st j)

-- the entry of the bus reset was written, or cut off
pub join_does : {T E : Type 0} {held after : Option (List ℕ)} {k l : ℕ}
    (m now : Machine) (devices : Network) (a b : End) (x y : Bool) (i : ℕ) (r : Result T E) → IsCable m devices a b x y → m.resets < MOST_RESETS
    → JoinsBy x y a b i → IsTrue (is_node m.devices.nodes i)
    → GivesReset (counting_in (with_devices m devices)) now i (between held after k l) r → Performed (Performs (AddCable a b ∷ [])) m now (between held after k l) r
join_does m now devices a b x y i r j few joins node h =
    does_one m.cycle (Some (Reset now.devices.latest)) r (join_resets m now devices a b x y i j few joins node h.begins) h.gives h.faults

-- ---- what a bus reset of the code asks

-- a cable takes no device off the bus
pub ready_joined : {m : Machine} (devices : Network) (a b : End) (d : ℕ) → IsReady m → IsJoined m.devices.topology devices.topology a b
    → IsTrue (is_node m.devices.nodes d) → IsOnBus devices.topology.cables d
ready_joined {m} devices a b d r j node =
    bus_grows m.devices.topology devices.topology a b j (subst Made (sym r.stands.devices.topology) r.good.declared.made) d (ready_on d r node)

-- fewer bus resets than there may be, if the cable begins one
pub few_of : (m : Machine) (a b : End) (x y : Bool) → is_node m.devices.nodes a.device ≡ x → is_node m.devices.nodes b.device ≡ y → cond x (not y) y ≡ true
    → IsFalse (joins_in m a b && nat_le MOST_RESETS m.resets) → m.resets < MOST_RESETS
few_of m a b x y ea eb joins h =
    let on : ℕ → Bool = is_node m.devices.nodes in
    let joining : joins_in m a b ≡ true = ap (λ z. cond z (not (on b.device)) (on b.device)) ea ∙ (ap (λ z. cond x (not z) z) eb ∙ joins) in
    let small : nat_le MOST_RESETS m.resets ≡ false = sym (ap (λ z. z && nat_le MOST_RESETS m.resets) joining) ∙ h in
    grind (arith, nat_tests)
