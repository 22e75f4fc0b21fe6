-- Tapes move one after another: the first nodes have passed the cycles, and those after them not yet.
use Rattle.fw_bus_state.proofs.Common.{◌≡◌, ℕ, zero, suc, ◌+◌, ◌<◌, List, [], ◌∷◌, ◌++◌, length, map, take, drop, add-one, slice_set, refl, ap, sym, subst, ◌∙◌, arith, NodeState, passed, tape_of}
use Rattle.fw_bus_state.proofs.Common.{Network, node_at}
use Rattle.fw_tape.specs.Motion.{MayPass}

-- as many as before
pub after_size : (f : NodeState → NodeState) (nodes : List NodeState) (d : ℕ) → length (map f (take d nodes) ++ drop d nodes) ≡ length nodes
after_size f nodes zero = refl
after_size f [] (suc d) = refl
after_size f (n ∷ nodes) (suc d) = ap (λ k. suc k) (after_size f nodes d)

-- the next one is as it was
pub following_at : (f : NodeState → NodeState) (nodes : List NodeState) (d : ℕ) → d < length nodes → node_at (map f (take d nodes) ++ drop d nodes) d ≡ node_at nodes d
following_at f [] d low = absurd (omega (arith, low))
following_at f (n ∷ nodes) zero low = refl
following_at f (n ∷ nodes) (suc d) low = following_at f nodes d (omega (arith, low))

-- and then it has passed them too
following_next : (f : NodeState → NodeState) (nodes : List NodeState) (d : ℕ) → d < length nodes
    → slice_set (map f (take d nodes) ++ drop d nodes) d (f (node_at nodes d)) ≡ map f (take (suc d) nodes) ++ drop (suc d) nodes
following_next f [] d low = absurd (omega (arith, low))
following_next f (n ∷ nodes) zero low = refl
following_next f (n ∷ nodes) (suc d) low = ap (λ ns. f n ∷ ns) (following_next f nodes d (omega (arith, low)))

pub moved_more : (f : NodeState → NodeState) (before now : Network) (d : ℕ) → d < length before.nodes
    → now ≡ record before { nodes = map f (take d before.nodes) ++ drop d before.nodes }
    → record now { nodes = slice_set now.nodes d (f (node_at now.nodes d)) } ≡ record before { nodes = map f (take (d + 1) before.nodes) ++ drop (d + 1) before.nodes }
moved_more f before now d low is =
    let nodes = before.nodes in
    let prefix = map f (take d nodes) ++ drop d nodes in
    ap (λ (n : Network). record n { nodes = slice_set n.nodes d (f (node_at n.nodes d)) }) is
    ∙ (ap (λ (n : NodeState). record before { nodes = slice_set prefix d (f n) }) (following_at f nodes d low)
    ∙ (ap (λ (ns : List NodeState). record before { nodes = ns }) (following_next f nodes d low)
    ∙ ap (λ k. record before { nodes = map f (take k nodes) ++ drop k nodes }) (sym (add-one d))))

-- it may pass them, as it might
pub after_may : (cycles : ℕ) (nodes : List NodeState) (d : ℕ) (before now : Network)
    → now ≡ record before { nodes = map (passed cycles) (take d nodes) ++ drop d nodes } → d < length nodes
    → MayPass cycles (tape_of (node_at nodes d)) → MayPass cycles (tape_of (node_at now.nodes d))
after_may cycles nodes d before now is low may =
    let M : NodeState → Type 0 = λ n. MayPass cycles (tape_of n) in
    subst M (sym (ap (λ (n : Network). node_at n.nodes d) is ∙ following_at (passed cycles) nodes d low)) may
