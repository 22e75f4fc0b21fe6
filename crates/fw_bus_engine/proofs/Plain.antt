-- A cycle that comes while the machine's devices are to follow.
use Rattle.fw_bus_engine.proofs.Common.{◌≡◌, ℕ, suc, ◌+◌, ◌<◌, ◌≤◌, ◌^◌, List, length, map, true, Option, Some, None, IfSome, ap, subst, ◌∙◌, arith, Ok, Result, same_Some, Packet, Entry}
use Rattle.fw_bus_engine.proofs.Common.{Async, NodeState, IsGood, State, Machine, Recording, Gives, between, IsReady, StandsFor, few_nodes, unheard, Performed}
use Rattle.std.proofs.Common.{add-one}
use Rattle.std.proofs.lemmas.List.{length-map}
use Rattle.fw_devices.specs.Decks.{passed}
use Rattle.fw_order.specs.declared.limits.TheConstants.{MOST_WRITTEN_CYCLES}
use Rattle.fw_model_run.specs.Streams.{cycle_start}
use Rattle.fw_bus_state.specs.Giving.{Sides, in_room, never_fails}
use Rattle.fw_bus_state.specs.Recording.{recording_in}
use Rattle.fw_bus_state.proofs.Counts.{counted_size}
use Rattle.fw_bus_engine.specs.declared.cycle_streams.RecordingDeck.{RecordingDeck}
use Rattle.fw_bus_engine.specs.Cycling.{Begins, Comes}
use Rattle.fw_bus_engine.specs.Filling.{Fills}
use Rattle.fw_bus_engine.specs.Playing.{ahead, counts_ahead, nodes_ahead, recorded}
use Rattle.fw_bus_engine.proofs.CycleTurns.{comes_alone, started}
use Rattle.fw_bus_engine.proofs.Doings.{ready_after}
use Rattle.fw_bus_engine.proofs.BegunCycles.{begun_in, root_few}
use Rattle.fw_bus_engine.proofs.SecondTurns.{passed_by}
use Rattle.fw_bus_engine.proofs.Steady.{recording_stays, rooted_here}

-- the machine when the cycle has come
abbrev pub come : Machine → Machine
come m = record m { cycle = m.cycle + 1 }

next_ahead : (n : ℕ) (m : Machine) → ahead (n + 1) (come m) ≡ passed_by (ahead n m) 1
next_ahead n m = ap (λ k. ahead k (come m)) (add-one n)

pub comes_ahead : {T E : Type 0} (n : ℕ) (m : Machine) (held : Option (List ℕ)) (k : ℕ) (u : T) → IsReady (ahead n m) → m.cycle + 1 ≤ 2 ^ 52
    → (m.reclaiming ≡ true → m.cycle + 1 ≡ m.directory.over_at → ⊥) → Performed {T = T} {E = E} Comes (ahead n m) (ahead (n + 1) (come m)) (between held held k k) (Ok u)
comes_ahead n m held k u ready few apart = comes_alone (ahead n m) (ahead (n + 1) (come m)) held k u ready few apart (next_ahead n m)

-- what is recorded stays so
pub deck_stays : (n : ℕ) (m now : Machine) (deck : Option RecordingDeck) → IsReady (ahead n m) → ((s : State) → IsGood s → StandsFor (ahead n m) s → recorded deck ≡ recording_in s)
    → now.tied ≡ m.tied → now.devices.nodes ≡ m.devices.nodes → (s : State) → IsGood s → StandsFor (ahead (n + 1) now) s → recorded deck ≡ recording_in s
deck_stays n m now deck ready is tied nodes s g st =
    let r = ready in
    let after : nodes_ahead (n + 1) now.devices.nodes ≡ map (passed 1) (nodes_ahead n m.devices.nodes) =
    ap (λ (l : List NodeState). nodes_ahead (n + 1) l) nodes ∙ ap (λ k. nodes_ahead k m.devices.nodes) (add-one n) in
    is r.state r.good r.stands ∙ recording_stays (ahead n m) (ahead (n + 1) now) r.state s r.good r.stands g st tied after

-- the lists are long enough
pub lists_fit : (n : ℕ) (m : Machine) → IsReady (ahead (suc n) m) → length (nodes_ahead n m.devices.nodes) ≤ length (counts_ahead n m.devices.nodes m.streams)
lists_fit n m r =
    let nodes = nodes_ahead n m.devices.nodes in
    let counts = counts_ahead n m.devices.nodes m.streams in
    let few = few_nodes (map (passed 1) nodes) r.state r.good r.stands.devices.nodes in
    let size = length-map nodes (passed 1) in
    let all = r.stands.streams.size in
    let same = counted_size 1 nodes counts in
    omega (arith, few, size, all, same)

-- time has not run out
pub time_left : {m : Machine} → IsReady m → m.cycle ≤ 2 ^ 52
time_left {m} r = let low = r.good.time.cycle in let same = r.stands.clock.cycle in omega (arith, low, same)

-- a cycle more, counted either way
pub one_on : (m : Machine) (P : Machine → Type 0) (n : ℕ) → P (ahead (n + 1) m) → P (ahead (suc n) m)
one_on m P n x = subst (λ k. P (ahead k m)) (add-one n) x

-- a device that has a name has a node
pub some_node : (m : Machine) → IsReady m → 0 < length m.devices.names → 0 < length m.devices.nodes
some_node m r some =
    let size = r.stands.devices.nodes.size in
    let named : length m.devices.names ≡ length r.state.declared.names = ap (λ (l : List (List ℕ)). length l) r.stands.devices.names in
    omega (arith, some, size, named)

-- ---- its cycle start

-- an entry is given by its cycle and epoch alone
gives_ahead : {T E : Type 0} (n : ℕ) (m : Machine) {e : Entry} {sides : Sides} {r : Result T E} → Gives m e sides r → Gives (ahead n m) e sides r
gives_ahead n m g = record { bytes = g.bytes; faults = g.faults }

-- the cycle comes, and its cycle start stands in a room
pub begun_ahead : (n : ℕ) (m : Machine) {a b : List ℕ} (packet : Packet) → IsReady (ahead n m) → 0 < length m.devices.names → m.written < MOST_WRITTEN_CYCLES → m.cycle + 1 ≤ 2 ^ 52
    → (m.reclaiming ≡ true → m.cycle + 1 ≡ m.directory.over_at → ⊥) → packet ≡ cycle_start m.devices.latest.root (m.cycle + 1)
    → Gives (started (come m)) (Async packet) (in_room a b) never_fails → Fills Begins (ahead n m) (ahead (n + 1) (started (come m))) a b
begun_ahead n m {a} {b} packet ready some low few apart is gives =
    begun_in a b m.devices.latest.root packet ready (λ there. low) (comes_ahead n m (Some a) 0 (tt {0}) ready few apart)
    (λ s g st. rooted_here (ahead (n + 1) (come m)) s some g st) is (gives_ahead (n + 1) (started (come m)) gives)

-- the root is a node
pub root_ahead : (n : ℕ) (m : Machine) (a : List ℕ) → IsReady (ahead n m) → 0 < length m.devices.names → m.cycle + 1 ≤ 2 ^ 52
    → (m.reclaiming ≡ true → m.cycle + 1 ≡ m.directory.over_at → ⊥) → m.devices.latest.root < 63
root_ahead n m a ready some few apart =
    let came : Fills Comes (ahead n m) (ahead (n + 1) (come m)) a a = comes_ahead n m (Some a) 0 (tt {0}) ready few apart in
    root_few m.devices.latest.root (ready_after ready came) (λ s g st. rooted_here (ahead (n + 1) (come m)) s some g st)

-- ---- what is heard

-- the limit of what the deck records stays
pub limit_stays : (k : RecordingDeck) (new : Option Recording) → unheard new ≡ recorded (Some k) → k.limit ≤ 4800 → IfSome new (λ (r : Recording). r.limit ≤ 4800)
limit_stays k None same few = tt
limit_stays k (Some r) same few =
    let limit : r.limit ≡ k.limit = ap (λ (x : Recording). x.limit) (same_Some (record r { block = None }) (record { channel = k.channel; limit = k.limit; block = None }) same) in
    omega (arith, limit, few)
