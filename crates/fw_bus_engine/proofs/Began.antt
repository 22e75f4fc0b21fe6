-- What a bus reset of the machine leaves, against the state of the run after it.
use Rattle.fw_bus_engine.proofs.Common.{◌≡◌, ℕ, ◌+◌, ◌<◌, ◌≤◌, List, Option, Some, None, refl, ap, sym, subst, ◌∙◌, arith, length, is_some, true, IsTrue, cond, nat_tests, at_plug, DeviceKind, Reset}
use Rattle.fw_bus_engine.proofs.Common.{
  ResetEntry,
  Timed,
  Topology,
  Account,
  NodeState,
  kinds_of,
  is_node,
  MOST_RESETS,
  at_most,
  State,
  is_on,
  number_in,
  epoch_of,
  directory_of,
  Action,
  Transition,
  Resets,
}
use Rattle.fw_bus_engine.proofs.Common.{IsGood, IsLatest, Machine, BeginsReset, HasLingering, StandsFor, HasNodes, HasDecks, HasStreams, IsTable, number_of_node, controller_at, HasHearers}
use Rattle.std.proofs.Common.{nat_lt}
use Rattle.fw_tree.specs.Cables.{here, IsOnBus}
use Rattle.fw_cmp.specs.Losses.{after_bus_reset as controller_reset}
use Rattle.fw_devices.specs.Entries.{IsResetEntry}
use Rattle.fw_devices.specs.Resets.{Shows}
use Rattle.fw_devices.proofs.EntryLaws.{entry_shows}
use Rattle.fw_model_run.specs.State.{list_to}
use Rattle.fw_model_run.specs.Afterwards.{after_reset_entry}
use Rattle.fw_model_run.specs.Good.{AreDeclared}
use Rattle.fw_model_run.specs.Reclaiming.{IsBusReset}
use Rattle.fw_model_run.proofs.Counting.{resets_keep}
use Rattle.fw_bus_engine.specs.Resetting.{directory_in}
use Rattle.fw_bus_state.proofs.DeckNodes.{decks_reset, rests_good}
use Rattle.fw_bus_state.proofs.Lingers.{lingering_reset}
use Rattle.fw_bus_state.proofs.Renumbered.{Extends, nodes_reset, kinds_reset, stays_on}
use Rattle.fw_bus_state.proofs.Counts.{streams_same}
use Rattle.fw_model_run.proofs.Apart.{all_reset}
use Rattle.fw_bus_engine.proofs.Told.{linked_shown}
use Rattle.fw_model_run.specs.Beside.{IsBeside}
use Rattle.fw_bus_state.proofs.Hearing.{hearers_reset}
use Rattle.fw_bus_state.specs.Stands.{seen}

-- ---- device 0 is a node from the first bus reset on

-- in a good state device 0 is on the bus exactly if some bus reset came
zero_on : (s : State) → IsGood s → is_on s 0 ≡ is_some s.account.latest
zero_on s g = go s.account.latest g.latest
  where
    go : (o : Option ResetEntry) → IsLatest o s.declared s.account → is_some (number_in o 0) ≡ is_some o
    go None h = refl
    go (Some e) h = (h.1.nodes 0 (subst (λ n. 0 < n) g.declared.named h.0)).1 here

-- so the node of device 0 says whether one came
pub first_is : (nodes : List NodeState) (s0 s1 : State) → IsGood s0 → s1.account ≡ s0.account → HasNodes nodes (seen s1) → 0 < length nodes
    → is_node nodes 0 ≡ is_some s1.account.latest
first_is nodes s0 s1 g same h some =
    let there : nat_lt 0 (length nodes) ≡ true = grind (arith, nat_tests, some) in
    rw there
    (ap (λ (o : Option ℕ). is_some o) (number_of_node nodes s1 0 h some)
    ∙ (ap (λ (l : Account). is_some (number_in l.latest 0)) same ∙ (zero_on s0 g ∙ ap (λ (l : Account). is_some l.latest) (sym same))))

-- ---- the state after it

-- What a bus reset of the machine rests on: it stands for a state that is a good one, or a good one with a device or a cable more, and
-- an action of the run begins that bus reset.
pub record MayBegin (m : Machine) (good s : State) (i : ℕ) : Type 0 where
  pub is_good : IsGood good
  pub around : IsBeside good
  pub dub : s.dub ≡ good.dub
  pub action : Action
  pub begins : (out : List Timed) (t : State) → Resets s i out t → Transition good action out t
  pub extends : Extends good s
  pub stands : StandsFor m s
  pub declared : AreDeclared s.declared
  pub some : 0 < length m.devices.nodes
  pub more : length good.declared.topology.devices ≤ length s.declared.topology.devices
  pub walks : (d : ℕ) → IsOnBus good.declared.topology.cables d → IsOnBus s.declared.topology.cables d

-- the entry is that of the run's state
pub entry_is : (m now : Machine) (s : State) (i : ℕ) → StandsFor m s → BeginsReset m now i
    → IsResetEntry s.declared.topology s.declared.kinds (epoch_of s.account.latest + 1) i now.devices.latest
entry_is m now s i st b =
    subst (λ (t : Topology). IsResetEntry t s.declared.kinds (epoch_of s.account.latest + 1) i now.devices.latest) st.devices.topology
    (subst (λ (ks : List DeviceKind). IsResetEntry m.devices.topology ks (epoch_of s.account.latest + 1) i now.devices.latest) st.devices.kinds
    (subst (λ n. IsResetEntry m.devices.topology (kinds_of m.devices.nodes) (n + 1) i now.devices.latest) st.devices.epoch b.reset.entry))

-- so it shows the bus
shows_now : (m now : Machine) (good s : State) (i : ℕ) → MayBegin m good s i → BeginsReset m now i
    → Shows s.declared.topology s.declared.kinds now.devices.latest
shows_now m now good s i may b =
    entry_shows s.declared.topology s.declared.kinds (epoch_of s.account.latest + 1) i now.devices.latest may.declared.made may.declared.kinds
    (entry_is m now s i may.stands b)

-- each device has its new number
pub nodes_now : (m now : Machine) (good s : State) (i : ℕ) → MayBegin m good s i → BeginsReset m now i
    → HasNodes now.devices.nodes (seen (after_reset_entry s now.devices.latest))
nodes_now m now good s i may b =
    let g = may.is_good in
    let shows = shows_now m now good s i may b in
    let on = λ (d : ℕ) (is : IsTrue (is_on s d)). subst (λ (l : Account). IsTrue (is_some (number_in l.latest d))) may.extends.account is in
    nodes_reset m.devices now.devices good s i now.devices.latest g may.extends may.stands.devices.nodes may.stands.devices.withheld b.reset shows
    (λ d is. stays_on good s.declared.topology s.declared.kinds now.devices.latest g shows may.more may.walks d (on d is))

-- and its plugs that were active linger
pub lingering_now : (m now : Machine) (good s : State) (i : ℕ) → MayBegin m good s i → BeginsReset m now i
    → HasLingering now.devices.nodes (after_reset_entry s now.devices.latest).account.continues
lingering_now m now good s i may b =
    let g = may.is_good in
    let shows = shows_now m now good s i may b in
    let on = λ (d : ℕ) (is : IsTrue (is_on s d)). subst (λ (l : Account). IsTrue (is_some (number_in l.latest d))) may.extends.account is in
    lingering_reset m.devices now.devices good s i now.devices.latest g may.extends may.stands.devices.nodes b.reset shows
    (λ d is. stays_on good s.declared.topology s.declared.kinds now.devices.latest g shows may.more may.walks d (on d is)) may.stands.devices.lingering

-- and its input plugs that heard go on
pub hearers_now : (m now : Machine) (good s : State) (i : ℕ) → MayBegin m good s i → BeginsReset m now i
    → HasHearers now.devices.nodes (after_reset_entry s now.devices.latest).dub.lingers
hearers_now m now good s i may b =
    let g = may.is_good in
    let shows = shows_now m now good s i may b in
    let on = λ (d : ℕ) (is : IsTrue (is_on s d)). subst (λ (l : Account). IsTrue (is_some (number_in l.latest d))) may.extends.account is in
    hearers_reset m.devices now.devices good s i now.devices.latest g may.around.hearing may.extends may.dub may.stands.devices.nodes b.reset
    (λ d is. stays_on good s.declared.topology s.declared.kinds now.devices.latest g shows may.more may.walks d (on d is)) may.stands.devices.hearers

-- its deck, if any, forgets who asked to be told
pub decks_now : (m now : Machine) (good s : State) (i : ℕ) → MayBegin m good s i → BeginsReset m now i
    → HasDecks now.devices.nodes (after_reset_entry s now.devices.latest).declared.kinds (after_reset_entry s now.devices.latest).decks
decks_now m now good s i may b =
    let g = may.is_good in
    let shows = shows_now m now good s i may b in
    let on = λ (d : ℕ) (is : IsTrue (is_on s d)). subst (λ (l : Account). IsTrue (is_some (number_in l.latest d))) may.extends.account is in
    decks_reset m.devices now.devices s i now.devices.latest (rests_good good s g may.extends.account may.extends.decks) may.stands.devices.decks b.reset
    (λ d is. stays_on good s.declared.topology s.declared.kinds now.devices.latest g shows may.more may.walks d (on d is))

-- controllers are told what the entry shows
pub directory_now : (m now : Machine) (good s : State) (i : ℕ) → MayBegin m good s i → BeginsReset m now i
    → now.directory ≡ directory_of (after_reset_entry s now.devices.latest)
directory_now m now good s i may b =
    let e = now.devices.latest in
    let nodes = nodes_now m now good s i may b in
    let kinds = kinds_reset m.devices now.devices i e b.reset ∙ may.stands.devices.kinds in
    let size = nodes.size ∙ may.declared.named in
    let linked = linked_shown now.devices s.declared.topology s.declared.kinds e (shows_now m now good s i may b) kinds size
    (λ d lt. number_of_node now.devices.nodes (after_reset_entry s e) d nodes lt) in
    let cycle = may.stands.clock.cycle in
    let first = first_is m.devices.nodes good s may.is_good may.extends.account may.stands.devices.nodes may.some in
    let same : directory_in now.devices (is_node m.devices.nodes 0) m.cycle ≡ directory_of (after_reset_entry s e) =
    λ j. record { node = list_to 63 (λ d. linked d j); manager = e.manager; over_at = cond (first j) (cycle j + 8000) (cycle j) } in
    ap (λ (z : Machine). z.directory) b.after ∙ same

-- each controller hears of it
pub table_now : (m now : Machine) (s : State) (i : ℕ) → StandsFor m s → BeginsReset m now i
    → IsTable now.controllers (length s.declared.names) (λ d. controller_at (after_reset_entry s now.devices.latest) d) s.dead
table_now m now s i st b =
    let table = st.table in
    let states = table.states_are in
    let epoch = b.reset.epoch ∙ sym b.reset.entry.epoch_is in
    record {
      count_is = b.table.count_is ∙ table.count_is;
      states_are = b.table.states_are ∙ ((λ j d. controller_reset (epoch j) (states j d)) ∙ sym (all_reset s now.devices.latest));
      dead_are = b.table.dead_are ∙ table.dead_are;
    }

-- if there may be one bus reset more, the run has that one
pub resets_now : (m now : Machine) (good s : State) (i : ℕ) → MayBegin m good s i → BeginsReset m now i → m.devices.epoch < MOST_RESETS
    → Resets s i (at_most s.clock.cycle (Some (Reset now.devices.latest))) (after_reset_entry s now.devices.latest)
resets_now m now good s i may b few = record {
  entry = now.devices.latest;
  is_entry = entry_is m now s i may.stands b;
  few = subst (λ n. n < MOST_RESETS) may.stands.devices.epoch few;
  out_is = refl;
  state_is = refl;
}

-- each plug goes on counting if it talks, and so all counts stay
pub streams_now : (m now : Machine) (good s : State) (i : ℕ) → MayBegin m good s i → BeginsReset m now i → m.devices.epoch < MOST_RESETS
    → HasStreams now.streams (after_reset_entry s now.devices.latest).streams
streams_now m now good s i may b few =
    let t : State = after_reset_entry s now.devices.latest in
    let out = λ (c : ℕ). at_most c (Some (Reset now.devices.latest)) in
    let step = may.begins (out s.clock.cycle) t (resets_now m now good s i may b few) in
    let begun : IsBusReset good may.action t = record {
      entry = now.devices.latest;
      step = subst (λ c. Transition good may.action (out c) t) may.extends.cycle step;
    } in
    let same : (d : ℕ) → t.streams (at_plug d 0) ≡ s.streams (at_plug d 0) =
    λ d. resets_keep good may.action t may.is_good begun (at_plug d 0) ∙ sym (ap (λ f. f (at_plug d 0)) may.extends.streams) in
    subst (λ (c : List ℕ). HasStreams c t.streams) (sym (ap (λ (z : Machine). z.streams) b.after)) (streams_same m.streams s.streams t.streams same may.stands.streams)
