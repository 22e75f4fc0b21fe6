-- Cycles that a machine's devices follow one by one are as many cycles at once.
use Rattle.fw_bus_engine.proofs.Common.{◌≡◌, ℕ, zero, suc, ◌+◌, ◌%◌, ◌<◌, ◌≤◌, ◌^◌, List, [], ◌∷◌, length, map, Bool, true, false, cond, Option, Some, None, option_map, refl, ap, sym, subst}
use Rattle.fw_bus_engine.proofs.Common.{◌∙◌, arith, IsTrue, NodeState, Network, node_at, Machine, IsReady}
use Rattle.std.specs.Option.{option_and_then}
use Rattle.std.proofs.lemmas.List.{length-map}
use Rattle.fw_tape.specs.declared.cassette.Cassette.{Cassette}
use Rattle.fw_tape.specs.Blocks.{blocks_among}
use Rattle.fw_tape.specs.Motion.{MayPass, moves, passed_on}
use Rattle.fw_tape.proofs.BlockLaws.{blocks_in_parts, passed_in_parts}
use Rattle.fw_avc.specs.State.{UnitState}
use Rattle.fw_node.specs.Streams.{talks}
use Rattle.fw_devices.specs.Decks.{passed, tape_of}
use Rattle.fw_bus_state.specs.Streaming.{counted_for, counted_on}
use Rattle.fw_bus_state.proofs.DeckNodes.{mapped_at, tapes_may_pass}
use Rattle.fw_bus_engine.specs.Playing.{ahead, counts_ahead, nodes_ahead}
use Rattle.fw_bus_engine.specs.Resetting.{passed_in}

-- ---- a tape

-- one that moves has passed so many cycles more
moved : (k : ℕ) (c : Cassette) → moves c ≡ true → passed_on k c ≡ record c { passed = c.passed + k }
moved k c on = ap (λ b. cond b (record c { passed = c.passed + k }) c) on

-- no cycle changes its state or its system
pub transport_same : (k : ℕ) (c : Cassette) → (passed_on k c).transport ≡ c.transport
transport_same k c = go (moves c)
  where
    go : (b : Bool) → (cond b (record c { passed = c.passed + k }) c).transport ≡ c.transport
    go true = refl
    go false = refl

pub system_same : (k : ℕ) (c : Cassette) → (passed_on k c).system ≡ c.system
system_same k c = go (moves c)
  where
    go : (b : Bool) → (cond b (record c { passed = c.passed + k }) c).system ≡ c.system
    go true = refl
    go false = refl

pub tape_passed : (k : ℕ) (n : NodeState) → tape_of (passed k n) ≡ option_map (passed_on k) (tape_of n)
tape_passed k n = go n.unit
  where
    go : (o : Option UnitState) → option_and_then (λ (u : UnitState). u.tape) (option_map (λ (u : UnitState). record u { tape = option_map (passed_on k) u.tape }) o)
        ≡ option_map (passed_on k) (option_and_then (λ (u : UnitState). u.tape) o)
    go None = refl
    go (Some u) = refl

-- ---- nodes

node_more : (k : ℕ) (n : NodeState) → passed 1 (passed k n) ≡ passed (k + 1) n
node_more k n = ap (λ (o : Option UnitState). record n { unit = o }) (unit_more n.unit)
  where
    tape_more : (o : Option Cassette) → option_map (passed_on 1) (option_map (passed_on k) o) ≡ option_map (passed_on (k + 1)) o
    tape_more None = refl
    tape_more (Some c) = ap (λ (x : Cassette). Some x) (sym (passed_in_parts c c.transport k 1))

    unit_more : (o : Option UnitState)
        → option_map (λ (u : UnitState). record u { tape = option_map (passed_on 1) u.tape }) (option_map (λ (u : UnitState). record u { tape = option_map (passed_on k) u.tape }) o)
        ≡ option_map (λ (u : UnitState). record u { tape = option_map (passed_on (k + 1)) u.tape }) o
    unit_more None = refl
    unit_more (Some u) = ap (λ (t : Option Cassette). Some (record u { tape = t })) (tape_more u.tape)

map_more : (k : ℕ) (nodes : List NodeState) → map (passed 1) (map (passed k) nodes) ≡ map (passed (k + 1)) nodes
map_more k [] = refl
map_more k (n ∷ nodes) = let first = node_more k n in let rest = map_more k nodes in (λ i. first i ∷ rest i)

nodes_are : (n : ℕ) (nodes : List NodeState) → nodes_ahead (suc n) nodes ≡ map (passed (suc n)) nodes
nodes_are zero nodes = refl
nodes_are (suc n) nodes =
    let e : suc n + 1 ≡ suc (suc n) = omega arith in
    ap (map (passed 1)) (nodes_are n nodes) ∙ (map_more (suc n) nodes ∙ ap (λ k. map (passed k) nodes) e)

-- ---- counts

blocks_more : (k : ℕ) (o : Option Cassette) → blocks_among o k + blocks_among (option_map (passed_on k) o) 1 ≡ blocks_among o (k + 1)
blocks_more k None = refl
blocks_more k (Some c) = sym (blocks_in_parts c c.transport k 1)

sums : (c x y z : ℕ) → x + y ≡ z → ((c + x) % 256 + y) % 256 ≡ (c + z) % 256
sums c x y z e = omega (arith, e)

count_more : (k : ℕ) (n : NodeState) (c : ℕ) → counted_for 1 (passed k n) (counted_for k n c) ≡ counted_for (k + 1) n c
count_more k n c = go (talks n)
  where
    more : blocks_among (tape_of n) k + blocks_among (tape_of (passed k n)) 1 ≡ blocks_among (tape_of n) (k + 1)
    more = ap (λ o. blocks_among (tape_of n) k + blocks_among o 1) (tape_passed k n) ∙ blocks_more k (tape_of n)

    go : (b : Bool) → cond b ((cond b ((c + blocks_among (tape_of n) k) % 256) 0 + blocks_among (tape_of (passed k n)) 1) % 256) 0
        ≡ cond b ((c + blocks_among (tape_of n) (k + 1)) % 256) 0
    go true = sums c (blocks_among (tape_of n) k) (blocks_among (tape_of (passed k n)) 1) (blocks_among (tape_of n) (k + 1)) more
    go false = refl

counts_more : (k : ℕ) (nodes : List NodeState) (counts : List ℕ) → counted_on 1 (map (passed k) nodes) (counted_on k nodes counts) ≡ counted_on (k + 1) nodes counts
counts_more k [] counts = refl
counts_more k (n ∷ nodes) [] = refl
counts_more k (n ∷ nodes) (c ∷ counts) = let first = count_more k n c in let rest = counts_more k nodes counts in (λ i. first i ∷ rest i)

counts_are : (n : ℕ) (nodes : List NodeState) (counts : List ℕ) → counts_ahead (suc n) nodes counts ≡ counted_on (suc n) nodes counts
counts_are zero nodes counts = refl
counts_are (suc n) nodes counts =
    let e : suc n + 1 ≡ suc (suc n) = omega arith in
    let prefix = nodes_are n nodes in
    let sent = counts_are n nodes counts in
    (λ i. counted_on 1 (prefix i) (sent i)) ∙ (counts_more (suc n) nodes counts ∙ ap (λ k. counted_on k nodes counts) e)

-- ---- the machine's devices follow

pub settled : (n : ℕ) (m : Machine) (devices : Network) (counts : List ℕ) → (n ≡ 0 → ⊥) → devices ≡ passed_in n m.devices → counts ≡ counted_on n m.devices.nodes m.streams
    → record m { devices = devices; streams = counts } ≡ ahead n m
settled zero m devices counts some d c = absurd (some refl)
settled (suc n) m devices counts some d c =
    let nodes = sym (nodes_are n m.devices.nodes) in
    let sent = sym (counts_are n m.devices.nodes m.streams) in
    (λ i. record m { devices = d i; streams = c i }) ∙ (λ i. record m { devices = record m.devices { nodes = nodes i }; streams = sent i })

-- they may, if they could be there
pub may_back : (k : ℕ) (o : Option Cassette) → MayPass 0 (option_map (passed_on k) o) → MayPass k o
may_back k None may = tt
may_back k (Some c) may = λ on.
    let P : Cassette → Type 0 = λ x. IsTrue (moves x) → x.passed + 0 ≤ 2 ^ 52 in
    let low = subst P (moved k c on) may on in
    omega (arith, low)

pub may_settle : (n : ℕ) (m : Machine) → (n ≡ 0 → ⊥) → IsReady (ahead n m) → m.cycle ≤ 2 ^ 52 → (d : ℕ) → d < length m.devices.nodes
    → MayPass n (tape_of (node_at m.devices.nodes d))
may_settle zero m some ready few d low = absurd (some refl)
may_settle (suc n) m some ready few d low =
    let nodes = m.devices.nodes in
    let size : length (nodes_ahead (suc n) nodes) ≡ length nodes = ap (λ (l : List NodeState). length l) (nodes_are n nodes) ∙ length-map nodes (passed (suc n)) in
    let may = tapes_may_pass 0 ready (omega (arith, few)) d (omega (arith, low, size)) in
    let at : node_at (nodes_ahead (suc n) nodes) d ≡ passed (suc n) (node_at nodes d) =
    ap (λ (l : List NodeState). node_at l d) (nodes_are n nodes) ∙ mapped_at (passed (suc n)) nodes d low in
    may_back (suc n) (tape_of (node_at nodes d)) (subst (MayPass 0) (ap tape_of at ∙ tape_passed (suc n) (node_at nodes d)) may)
