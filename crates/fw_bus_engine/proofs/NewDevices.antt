-- Devices and cables that come to the machine are those of the run.
use Rattle.fw_bus_engine.proofs.Common.{◌≡◌, ℕ, ◌+◌, ◌<◌, ◌≤◌, List, [], ◌∷◌, ◌++◌, Option, None, Some, refl}
use Rattle.fw_bus_engine.proofs.Common.{ap, sym, subst, ◌∙◌, arith, length, Result, DeviceKind, Reset, ResetEntry, Timed, Topology}
use Rattle.fw_bus_engine.proofs.Common.{
  MOST_RESETS,
  at_most,
  State,
  epoch_of,
  Transition,
  Resets,
  IsGood,
  IsLatest,
  Machine,
  BeginsReset,
  GivesReset,
  between,
  HasLingering,
  StandsFor,
  HasNodes,
  HasDecks,
}
use Rattle.fw_bus_engine.proofs.Common.{IsReady, ControllerTable, IsTable, count_of, states_of, dead_of, TakesAction}
use Rattle.fw_bus_engine.proofs.Common.{Performed, Performs, Election, CandidateTable, HasElection, candidates_of, HasHearers}
use Rattle.std.proofs.lemmas.List.{length-append, map-append}
use Rattle.fw_node.specs.State as Nodes
use Rattle.fw_devices.specs.Network.{with_device, facts_of}
use Rattle.fw_model_run.specs.State as States
use Rattle.fw_model_run.specs.Actions.{AddDevice}
use Rattle.fw_model_run.specs.Afterwards.{beginning}
use Rattle.fw_model_run.specs.BusDeeds.{MayDeclare, declaring_beside}
use Rattle.fw_model_run.proofs.Declares.{more_declared}
use Rattle.fw_model_run.proofs.Done.{Done}
use Rattle.fw_bus_state.proofs.DeckNodes.{decks_declared}
use Rattle.fw_bus_state.proofs.Lingers.{lingering_declared}
use Rattle.fw_bus_state.proofs.Nodes.{nodes_declared}
use Rattle.fw_bus_state.proofs.Renumbered.{extends_declared}
use Rattle.fw_bus_engine.proofs.Began.{MayBegin}
use Rattle.fw_bus_engine.proofs.ResetTurns.{reset_of}
use Rattle.fw_bus_state.proofs.Standing.{resets_stand}
use Rattle.fw_bus_engine.proofs.OneAction.{does_one}
use Rattle.fw_model_run.proofs.Around.{more_beside}
use Rattle.fw_bus_state.proofs.Hearing.{hearers_declared}
use Rattle.fw_bus_state.specs.Stands.{seen}

-- ---- a device more

-- the machine with a device more, whose controller has just started
abbrev pub with_device_in : Machine → ControllerTable → CandidateTable → List ℕ → DeviceKind → ℕ → ℕ → Machine
with_device_in m controllers candidates name kind ports speed = record m { devices = with_device m.devices name kind ports speed; controllers = controllers; candidates = candidates }

-- the controllers of the others stay
abbrev pub IsOneMore : Machine → ControllerTable → Type 0
IsOneMore m controllers = IsTable controllers (count_of m.controllers + 1) (states_of m.controllers) (dead_of m.controllers)

-- nor is the device a candidate
abbrev pub IsCandidateMore : Machine → CandidateTable → Type 0
IsCandidateMore m more = (e : Election) → HasElection m.candidates (candidates_of m.candidates) e → HasElection more (candidates_of m.candidates + 1) e

-- the state of the run with a device more
abbrev declared_in : State → List ℕ → DeviceKind → ℕ → ℕ → State
declared_in s name kind ports speed = record s { declared = States.with_device s.declared name kind ports speed }

-- the machine with a device more stands for it
declared_stands : (m : Machine) (s : State) (table : ControllerTable) (more_table : CandidateTable) (name : List ℕ) (kind : DeviceKind) (ports speed : ℕ) → IsGood s → StandsFor m s
    → IsOneMore m table → IsCandidateMore m more_table
    → StandsFor (with_device_in m table more_table name kind ports speed) (declared_in s name kind ports speed)
declared_stands m s table more_table name kind ports speed g st more extra = record {
  devices = record {
    topology = ap (λ (t : Topology). record { devices = t.devices ++ facts_of kind ports speed ∷ []; cables = t.cables }) st.devices.topology;
    names = ap (λ (xs : List (List ℕ)). xs ++ name ∷ []) st.devices.names;
    kinds = map-append _ m.devices.nodes _ ∙ ap (λ (ks : List DeviceKind). ks ++ kind ∷ []) st.devices.kinds;
    nodes = subst (λ n. HasNodes (m.devices.nodes ++ Nodes.first_state kind n speed m.devices.withheld ∷ []) (seen (declared_in s name kind ports speed)))
        (ap (λ (xs : List (List ℕ)). length xs) (sym st.devices.names)) (nodes_declared m.devices.nodes s name kind ports speed m.devices.withheld g st.devices.nodes);
    lingering = subst (λ n. HasLingering (m.devices.nodes ++ Nodes.first_state kind n speed m.devices.withheld ∷ []) (declared_in s name kind ports speed).account.continues)
        (ap (λ (xs : List (List ℕ)). length xs) (sym st.devices.names))
        (lingering_declared m.devices.nodes s name kind ports speed m.devices.withheld g st.devices.nodes st.devices.lingering);
    decks = subst (λ n. HasDecks (m.devices.nodes ++ Nodes.first_state kind n speed m.devices.withheld ∷ []) (declared_in s name kind ports speed).declared.kinds s.decks)
        (ap (λ (xs : List (List ℕ)). length xs) (sym st.devices.names))
        (decks_declared m.devices.nodes s name kind ports speed m.devices.withheld st.devices.nodes.size g st.devices.decks);
    hearers = subst (λ n. HasHearers (m.devices.nodes ++ Nodes.first_state kind n speed m.devices.withheld ∷ []) (declared_in s name kind ports speed).dub.lingers)
        (ap (λ (xs : List (List ℕ)). length xs) (sym st.devices.names))
        (hearers_declared m.devices.nodes s name kind ports speed m.devices.withheld g st.around.hearing st.devices.nodes st.devices.hearers);
    latest = st.devices.latest;
    epoch = st.devices.epoch;
    manager = st.devices.manager;
    withheld = st.devices.withheld;
  };
  clock = st.clock;
  table = record {
    count_is = more.count_is ∙ (ap (λ k. k + 1) st.table.count_is ∙ sym (length-append s.declared.names (name ∷ [])));
    states_are = more.states_are ∙ st.table.states_are;
    dead_are = more.dead_are ∙ st.table.dead_are;
  };
  directory = st.directory;
  wire = st.wire;
  streams = st.streams;
  answered = st.answered;
  unsent = st.unsent;
  election = subst (λ n. HasElection more_table n s.election)
      (ap (λ k. k + 1) st.election.size ∙ sym (length-append s.declared.names (name ∷ [])))
      (extra s.election (subst (λ n. HasElection m.candidates n s.election) (sym st.election.size) st.election));
  bids = st.bids;
  reel = st.reel;
  around = more_beside s name kind ports speed g st.around;
}

-- what is asked of a device that may be declared
pub record MayAdd (m : Machine) (ports speed : ℕ) : Type 0 where
  pub room : length m.devices.names < 63
  pub some : 1 ≤ ports
  pub most : ports ≤ 27
  pub fast : speed ≤ 2

-- the run may declare the device too
may_declare : (m : Machine) (s : State) (ports speed : ℕ) → StandsFor m s → MayAdd m ports speed → MayDeclare s ports speed
may_declare m s ports speed st may = record {
  room = subst (λ (xs : List (List ℕ)). length xs < 63) st.devices.names may.room;
  least = may.some;
  most = may.most;
  rate = may.fast;
}

-- the names that are declared already decide what it begins
declares_as : (s : State) (name : List ℕ) (kind : DeviceKind) (ports speed : ℕ) (out : List Timed) (t : State) (names : List (List ℕ)) → s.declared.names ≡ names → s.transaction ≡ None
    → Done (declaring_beside names s name kind ports speed) out t → Transition s (AddDevice name kind ports speed) out t
declares_as s name kind ports speed out t names e free x =
    let z : Done (declaring_beside s.declared.names s name kind ports speed) out t = subst (λ xs. Done (declaring_beside xs s name kind ports speed) out t) (sym e) x in
    record { found = z.found; waits = free; may = z.may; out_is = z.out_is; state_is = z.state_is }

-- the first device begins the first bus reset
first_turns : (m now : Machine) (table : ControllerTable) (more_table : CandidateTable) (name : List ℕ) (kind : DeviceKind) (ports speed : ℕ) → m.devices.names ≡ [] → MayAdd m ports speed
    → IsOneMore m table → IsCandidateMore m more_table → m.devices.epoch < MOST_RESETS
    → BeginsReset (record (with_device_in m table more_table name kind ports speed) { resets = 1 }) now 0
    → TakesAction (AddDevice name kind ports speed) m now m.cycle (Some (Reset now.devices.latest))
first_turns m now table more_table name kind ports speed none may more extra few b = record { shown = shown_ }
  where
    new : Machine
    new = record (with_device_in m table more_table name kind ports speed) { resets = 1 }

    shown_ : (s : State) → IsGood s → StandsFor m s
        → (t : State) × Transition s (AddDevice name kind ports speed) (at_most m.cycle (Some (Reset now.devices.latest))) t × StandsFor now t
    shown_ s g st =
        let names : s.declared.names ≡ [] = sym st.devices.names ∙ none in
        let d = may_declare m s ports speed st may in
        let begins : (out : List Timed) (t : State) → Resets (beginning (declared_in s name kind ports speed)) 0 out t → Transition s (AddDevice name kind ports speed) out t
        = λ out t r. declares_as s name kind ports speed out t [] names st.answered (record {
          found = r.entry;
          may = record { device = d; reset = record { is_entry = r.is_entry; few = r.few } };
          out_is = r.out_is;
          state_is = r.state_is;
        }) in
        let begin : MayBegin new s (beginning (declared_in s name kind ports speed)) 0 = record {
          is_good = g;
          around = st.around;
          dub = refl;
          action = AddDevice name kind ports speed;
          begins = begins;
          extends = let x = extends_declared s name kind ports speed g in record { account = refl; cycle = refl; decks = refl; streams = refl; kinds = x.kinds };
          stands = resets_stand (with_device_in m table more_table name kind ports speed) (declared_in s name kind ports speed) 1 1 refl
              (declared_stands m s table more_table name kind ports speed g st more extra);
          declared = more_declared s name kind ports speed g d;
          some = let n = length-append m.devices.nodes (Nodes.first_state kind (length m.devices.names) speed m.devices.withheld ∷ []) in omega (arith, n);
          more = let n = length-append s.declared.topology.devices (facts_of kind ports speed ∷ []) in omega (arith, n);
          walks = λ c on. on;
        } in
        let r = reset_of new now s (beginning (declared_in s name kind ports speed)) 0 begin b few in
        (r.state, begins (at_most m.cycle (Some (Reset now.devices.latest))) r.state r.resets, r.stands)

-- any other is off
pub later_turns : (m : Machine) (table : ControllerTable) (more_table : CandidateTable) (name : List ℕ) (kind : DeviceKind) (ports speed : ℕ) → 0 < length m.devices.names
    → MayAdd m ports speed → IsOneMore m table → IsCandidateMore m more_table
    → TakesAction (AddDevice name kind ports speed) m (with_device_in m table more_table name kind ports speed) m.cycle None
later_turns m table more_table name kind ports speed there may more extra = record { shown = shown_ }
  where
    declares : (names : List (List ℕ)) (s : State) → 0 < length names → MayDeclare s ports speed → Done (declaring_beside names s name kind ports speed) [] (declared_in s name kind ports speed)
    declares [] s lt may = absurd (omega (arith, lt))
    declares (x ∷ xs) s lt may = record { found = tt; may = may; out_is = refl; state_is = refl }

    shown_ : (s : State) → IsGood s → StandsFor m s
        → (t : State) × Transition s (AddDevice name kind ports speed) [] t × StandsFor (with_device_in m table more_table name kind ports speed) t
    shown_ s g st =
        let d = may_declare m s ports speed st may in
        let some = subst (λ (xs : List (List ℕ)). 0 < length xs) st.devices.names there in (
          declared_in s name kind ports speed,
          declares_as s name kind ports speed [] (declared_in s name kind ports speed) s.declared.names refl st.answered (declares s.declared.names s some d),
          declared_stands m s table more_table name kind ports speed g st more extra,
        )

-- the entry of the first bus reset was written, or cut off
pub first_does : {T E : Type 0} {held after : Option (List ℕ)} {k l : ℕ}
    (m now : Machine) (table : ControllerTable) (more_table : CandidateTable) (name : List ℕ) (kind : DeviceKind) (ports speed : ℕ) (r : Result T E)
    → m.devices.names ≡ [] → MayAdd m ports speed → IsOneMore m table → IsCandidateMore m more_table → m.devices.epoch < MOST_RESETS
    → GivesReset (record (with_device_in m table more_table name kind ports speed) { resets = 1 }) now 0 (between held after k l) r
    → Performed (Performs (AddDevice name kind ports speed ∷ [])) m now (between held after k l) r
first_does m now table more_table name kind ports speed r none may more extra few h =
    does_one m.cycle (Some (Reset now.devices.latest)) r (first_turns m now table more_table name kind ports speed none may more extra few h.begins) h.gives h.faults

-- before the first device there was no bus reset
pub ready_first : {m : Machine} → IsReady m → m.devices.names ≡ [] → m.devices.epoch ≡ 0
ready_first {m} r none = r.stands.devices.epoch ∙ go r.state.account.latest r.good.latest
  where
    go : (o : Option ResetEntry) → IsLatest o r.state.declared r.state.account → epoch_of o ≡ 0
    go None h = refl
    go (Some e) h = let n = ap (λ (xs : List (List ℕ)). length xs) (sym r.stands.devices.names ∙ none) in absurd (omega (arith, h.0, n))
