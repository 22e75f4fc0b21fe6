-- Devices of which time changes nothing.
use Rattle.fw_bus_state.proofs.Common.{◌≡◌, ℕ, zero, suc, ◌+◌, ◌<◌, ◌≤◌, ◌==◌, List, [], ◌∷◌, ◌++◌, length, map, take, drop, Bool, true, false, cond, Option, Some, None, is_some, option_map, refl, ap}
use Rattle.fw_bus_state.proofs.Common.{sym, subst, ◌∙◌, arith, false≢true, nat_tests, length-map, UnitState, NodeState, passed, tape_of, Network, node_at, count_at, counted_on}
use Rattle.std.proofs.Common.{◌%◌}
use Rattle.std.specs.Option.{option_and_then}
use Rattle.fw_tape.specs.declared.cassette.Cassette.{Cassette}
use Rattle.fw_tape.specs.Blocks.{blocks_among}
use Rattle.fw_tape.specs.Motion.{passed_on}
use Rattle.fw_node.specs.Streams.{talking_on, talks}
use Rattle.fw_bus_state.specs.Streaming.{AreStillFrom, IsStill, counted_for}
use Rattle.fw_bus_state.proofs.Counts.{counted_at}
use Rattle.fw_bus_state.proofs.DeckNodes.{mapped_at}

-- ---- one device

still_passed : (cycles : ℕ) (n : NodeState) (count : ℕ) → IsStill n count → passed cycles n ≡ n
still_passed cycles n count s = ap (λ (u : Option UnitState). record n { unit = u }) (go n.unit s.empty)
  where
    go : (o : Option UnitState) → option_and_then (λ (u : UnitState). u.tape) o ≡ None
        → option_map (λ (u : UnitState). record u { tape = option_map (passed_on cycles) u.tape }) o ≡ o
    go None e = refl
    go (Some u) e =
        ap (λ (t : Option Cassette). Some (record u { tape = option_map (passed_on cycles) t })) e ∙ ap (λ (t : Option Cassette). Some (record u { tape = t })) (sym e)

still_counted : (cycles : ℕ) (n : NodeState) (count : ℕ) → IsStill n count → counted_for cycles n count ≡ count
still_counted cycles n count s = ap (λ b. cond b ((count + blocks_among (tape_of n) cycles) % 256) 0) s.silent ∙ sym s.none

-- a plug without a channel does not talk
pub silent_plug_of : (n : NodeState) → is_some (talking_on n) ≡ false → talks n ≡ false
silent_plug_of n e = go (talks n) _ e
  where
    go : (b : Bool) (k : ℕ) → is_some (cond b (Some k) None) ≡ false → b ≡ false
    go true k e = absurd (false≢true (sym e))
    go false k e = refl

pub no_tape : (o : Option Cassette) → is_some o ≡ false → o ≡ None
no_tape None e = refl
no_tape (Some c) e = absurd (false≢true (sym e))

pub zero_is : (k : ℕ) → (k == 0) ≡ true → k ≡ 0
zero_is k e = grind (arith, nat_tests, e)

-- ---- the devices after the first ones

map_same : (f : NodeState → NodeState) (nodes : List NodeState) → ((d : ℕ) → d < length nodes → f (node_at nodes d) ≡ node_at nodes d) → nodes ≡ map f nodes
map_same f [] h = refl
map_same f (n ∷ nodes) h =
    let e : n ≡ f n = sym (h zero (omega arith)) in
    let more = map_same f nodes (λ d low. h (suc d) (omega (arith, low))) in
    λ i. e i ∷ more i

prefix_nodes : (f : NodeState → NodeState) (nodes : List NodeState) (end : ℕ) → ((d : ℕ) → end ≤ d → d < length nodes → f (node_at nodes d) ≡ node_at nodes d)
    → map f (take end nodes) ++ drop end nodes ≡ map f nodes
prefix_nodes f nodes zero h = map_same f nodes (λ d low. h d (omega arith) low)
prefix_nodes f [] (suc end) h = refl
prefix_nodes f (n ∷ nodes) (suc end) h = ap (λ ns. f n ∷ ns) (prefix_nodes f nodes end (λ d above low. h (suc d) (omega (arith, above)) (omega (arith, low))))

counts_same : (cycles : ℕ) (nodes : List NodeState) (counts : List ℕ)
    → ((d : ℕ) → d < length nodes → counted_for cycles (node_at nodes d) (count_at counts d) ≡ count_at counts d) → counts ≡ counted_on cycles nodes counts
counts_same cycles [] counts h = refl
counts_same cycles (n ∷ nodes) [] h = refl
counts_same cycles (n ∷ nodes) (k ∷ counts) h =
    let e : k ≡ counted_for cycles n k = sym (h zero (omega arith)) in
    let more = counts_same cycles nodes counts (λ d low. h (suc d) (omega (arith, low))) in
    λ i. e i ∷ more i

prefix_counts : (cycles : ℕ) (nodes : List NodeState) (counts : List ℕ) (end : ℕ)
    → ((d : ℕ) → end ≤ d → d < length nodes → counted_for cycles (node_at nodes d) (count_at counts d) ≡ count_at counts d)
    → counted_on cycles (take end nodes) counts ≡ counted_on cycles nodes counts
prefix_counts cycles nodes counts zero h = counts_same cycles nodes counts (λ d low. h d (omega arith) low)
prefix_counts cycles [] counts (suc end) h = refl
prefix_counts cycles (n ∷ nodes) [] (suc end) h = refl
prefix_counts cycles (n ∷ nodes) (k ∷ counts) (suc end) h =
    ap (λ ks. counted_for cycles n k ∷ ks) (prefix_counts cycles nodes counts end (λ d above low. h (suc d) (omega (arith, above)) (omega (arith, low))))

-- ---- all of them

-- none is left after the last
pub none_left : (end : ℕ) (nodes : List NodeState) (counts : List ℕ) → end ≡ length nodes → AreStillFrom end nodes counts
none_left end nodes counts e = record { few = omega (arith, e); each = λ d above low. absurd (omega (arith, above, low, e)) }

-- a walk may end there
pub still_counts : (cycles at : ℕ) (nodes : List NodeState) (counts : List ℕ) {end : ℕ} → end ≤ at → AreStillFrom end nodes counts
    → counted_on cycles (take at nodes) counts ≡ counted_on cycles nodes counts
still_counts cycles at nodes counts past s =
    prefix_counts cycles nodes counts at (λ d above low. still_counted cycles (node_at nodes d) (count_at counts d) (s.each d (omega (arith, past, above)) low))

pub still_devices : (cycles at : ℕ) (n : Network) (counts : List ℕ) {end : ℕ} → end ≤ at → AreStillFrom end n.nodes counts
    → record n { nodes = map (passed cycles) (take at n.nodes) ++ drop at n.nodes } ≡ record n { nodes = map (passed cycles) n.nodes }
still_devices cycles at n counts past s =
    ap (λ (ns : List NodeState). record n { nodes = ns })
    (prefix_nodes (passed cycles) n.nodes at (λ d above low. still_passed cycles (node_at n.nodes d) (count_at counts d) (s.each d (omega (arith, past, above)) low)))

-- they stay still
pub still_after : (cycles end : ℕ) (nodes : List NodeState) (counts : List ℕ) → length nodes ≤ length counts → AreStillFrom end nodes counts
    → AreStillFrom end (map (passed cycles) nodes) (counted_on cycles nodes counts)
still_after cycles end nodes counts room s = record {
  few = let size = length-map nodes (passed cycles) in let few = s.few in omega (arith, size, few);
  each = λ d above lt.
      let size = length-map nodes (passed cycles) in
      let low : d < length nodes = omega (arith, lt, size) in
      let x = s.each d above low in
      let node : node_at (map (passed cycles) nodes) d ≡ node_at nodes d = mapped_at (passed cycles) nodes d low ∙ still_passed cycles (node_at nodes d) (count_at counts d) x in
      let count : count_at (counted_on cycles nodes counts) d ≡ count_at counts d =
      counted_at cycles nodes counts d low room ∙ still_counted cycles (node_at nodes d) (count_at counts d) x in
      let P : NodeState → Type 0 = λ n. IsStill n (count_at (counted_on cycles nodes counts) d) in
      let Q : ℕ → Type 0 = λ k. IsStill (node_at nodes d) k in
      subst P (sym node) (subst Q (sym count) x);
}
