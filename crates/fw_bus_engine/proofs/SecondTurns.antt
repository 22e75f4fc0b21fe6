-- Cycles in which no second is over: of the machine and of the run.
use Rattle.fw_bus_engine.proofs.Common.{◌≡◌, ℕ, ◌+◌, ◌<◌, ◌≤◌, ◌^◌, length, map, List, [], ◌∷◌, true, Option, Some, None, refl, ap, sym, subst, ◌∙◌, arith, IsTrue, NodeState, Network, kinds_of}
use Rattle.fw_bus_engine.proofs.Common.{node_at, at_most, State, number_in, Pass, Transition, IsGood, Directory, Machine, HasLingering, IsNodeAt, HasNodes, StandsFor, TakesAction, HasHearers}
use Rattle.std.proofs.lemmas.List.{length-map}
use Rattle.fw_devices.specs.Decks.{passed}
use Rattle.fw_model_run.specs.Afterwards.{after_cycles}
use Rattle.fw_bus_state.specs.Lingering.{LingersAs}
use Rattle.fw_bus_engine.specs.Resetting.{passed_in}
use Rattle.fw_bus_state.specs.Stands.{HasDevices, seen, devices_at}
use Rattle.fw_bus_state.specs.Streaming.{counted_on}
use Rattle.fw_bus_state.proofs.DeckNodes.{decks_pass, mapped_at}
use Rattle.fw_bus_state.proofs.Nodes.{node_kept}
use Rattle.fw_bus_state.proofs.Counts.{streams_pass}
use Rattle.fw_bus_state.specs.Reels.{HearsAs}

-- ---- cycles that go by

-- a node whose tape has moved has the registers that it had
pass_kept : (o : Option ℕ) (cycles : ℕ) (s : State) (d : ℕ) (n : NodeState) → IsNodeAt o (seen s) d n → IsNodeAt o (seen s) d (passed cycles n)
pass_kept None cycles s d n is = node_kept None s d n (passed cycles n) refl (λ e. ap (λ (m : NodeState). m.waiting) is) is
pass_kept (Some number) cycles s d n is = node_kept (Some number) s d n (passed cycles n) refl (λ e. let no : ⊥ = cc e in absurd no) is

pass_kinds : (cycles : ℕ) (nodes : List NodeState) → kinds_of (map (passed cycles) nodes) ≡ kinds_of nodes
pass_kinds cycles [] = refl
pass_kinds cycles (n ∷ nodes) = ap (λ ks. n.kind ∷ ks) (pass_kinds cycles nodes)

nodes_pass : (cycles : ℕ) (nodes : List NodeState) (s : State) → HasNodes nodes (seen s) → HasNodes (map (passed cycles) nodes) (seen s)
nodes_pass cycles nodes s h = record {
  size = length-map nodes (passed cycles) ∙ h.size;
  each = λ d lt.
      let size = length-map nodes (passed cycles) in
      let low : d < length nodes = omega (arith, lt, size) in
      let P : NodeState → Type 0 = IsNodeAt (number_in s.account.latest d) (seen s) d in
      subst P (sym (mapped_at (passed cycles) nodes d low)) (pass_kept (number_in s.account.latest d) cycles s d (node_at nodes d) (h.each d low));
}

lingering_passes : (cycles : ℕ) (nodes : List NodeState) (s : State) → HasLingering nodes s.account.continues → HasLingering (map (passed cycles) nodes) s.account.continues
lingering_passes cycles nodes s h = record {
  each = λ d lt.
      let size = length-map nodes (passed cycles) in
      let low : d < length nodes = omega (arith, lt, size) in
      subst (λ n. LingersAs n d s.account.continues) (sym (mapped_at (passed cycles) nodes d low)) (let x = h.each d low in record { size = x.size; flags = x.flags });
}

hearers_pass : (cycles : ℕ) (nodes : List NodeState) (s : State) → HasHearers nodes s.dub.lingers → HasHearers (map (passed cycles) nodes) s.dub.lingers
hearers_pass cycles nodes s h = record {
  each = λ d lt.
      let size = length-map nodes (passed cycles) in
      let low : d < length nodes = omega (arith, lt, size) in
      subst (λ n. HearsAs n d s.dub.lingers) (sym (mapped_at (passed cycles) nodes d low)) (let x = h.each d low in record { size = x.size; flags = x.flags });
}

pub devices_pass : (cycles : ℕ) (n : Network) (s : State) → HasDevices n (devices_at s) → HasDevices (passed_in cycles n) (devices_at (after_cycles s cycles))
devices_pass cycles n s h = record {
  topology = h.topology;
  names = h.names;
  kinds = pass_kinds cycles n.nodes ∙ h.kinds;
  nodes = nodes_pass cycles n.nodes s h.nodes;
  lingering = lingering_passes cycles n.nodes s h.lingering;
  decks = decks_pass cycles n.nodes s h.decks;
  hearers = hearers_pass cycles n.nodes s h.hearers;
  latest = h.latest;
  epoch = h.epoch;
  manager = h.manager;
  withheld = h.withheld;
}

-- the machine after it
abbrev pub passed_by : Machine → ℕ → Machine
passed_by m n = record m { devices = passed_in n m.devices; cycle = m.cycle + n; streams = counted_on n m.devices.nodes m.streams }

-- cycles in which the second is not over are the action of the run
pub pass_turns : (m now : Machine) (n : ℕ) → m.cycle + n ≤ 2 ^ 52 → (m.reclaiming ≡ true → m.cycle + n < m.directory.over_at)
    → now ≡ passed_by m n → TakesAction (Pass n) m now m.cycle None
pass_turns m now n few before is = record { shown = shown_ }
  where
    stands : (s : State) → IsGood s → StandsFor m s → StandsFor (passed_by m n) (after_cycles s n)
    stands s g st = record {
      devices = devices_pass n m.devices s st.devices;
      clock = record { cycle = ap (λ c. c + n) st.clock.cycle; reclaiming = st.clock.reclaiming; half_steps = st.clock.half_steps; written = st.clock.written; resets = st.clock.resets };
      table = st.table;
      directory = st.directory;
      wire = st.wire;
      streams = streams_pass n m.devices.nodes m.streams s g st.devices.nodes st.devices.lingering st.devices.decks st.streams;
      answered = st.answered;
      unsent = st.unsent;
      election = st.election;
      bids = st.bids;
      reel = st.reel;
      around = st.around;
    }

    shown_ : (s : State) → IsGood s → StandsFor m s → (t : State) × Transition s (Pass n) (at_most m.cycle None) t × StandsFor now t
    shown_ s g st =
        let cycle = st.clock.cycle in
        let over_at : m.directory.over_at ≡ s.clock.over_at = ap (λ (x : Directory). x.over_at) st.directory in
        let second : IsTrue s.account.reclaiming → s.clock.cycle + n < s.clock.over_at =
        λ runs. let b = before (st.clock.reclaiming ∙ runs) in omega (arith, b, cycle, over_at) in
        let P : Machine → Type 0 = λ x. StandsFor x (after_cycles s n) in (
          after_cycles s n,
          record { found = tt; waits = st.answered; may = record { fits = subst (λ c. c + n ≤ 2 ^ 52) cycle few; within = second }; out_is = refl; state_is = refl },
          subst P (sym is) (stands s g st),
        )
