use Rattle.fw_map.proofs.Common.{◌≤◌, List, slice_index, ◌≡◌, ◌<◌, ◌+◌, ◌-◌, ℕ, refl, sym, ap, subst, ◌∙◌, arith, PhyPacket, Tree, field_of, fields, Agrees, Grown}
use Rattle.fw_map.specs.Growing.{Counts}
use Rattle.fw_map.proofs.JoinLaws.{joined_of, rest_of, first_taken, none_grown, none_counts, none_agrees}
use Rattle.fw_map.proofs.ChildLaws.{missing, missing_none, some_closed}
use Rattle.fw_map.proofs.ChildLaws.{some_taken, some_counts, some_grown, some_agrees, all_grown, all_agrees, enough, all_counts}
use Rattle.fw_map.proofs.JoinLaws.{IsJoined}
use Rattle.fw_map.proofs.build.take_children.Goals as goal
use Rattle.fw_map.proofs.build.take_children.Goals.{In-None, After-loop-port}

-- the field of a port, in the row of the node
row_at : (row : List ℕ) (ids : List PhyPacket) (i p k : ℕ) → 0 < p → p ≤ 27 → k ≡ p - 1 → ((q : ℕ) → q < 27 → slice_index row q ≡ field_of ids i q) → slice_index row k ≡ field_of ids i (p - 1)
row_at row ids i p k some low at is = ap (slice_index row) at ∙ is (p - 1) (omega arith)

child_of : (row : List ℕ) (ids : List PhyPacket) (i p k : ℕ) → 0 < p → p ≤ 27 → k ≡ p - 1 → ((q : ℕ) → q < 27 → slice_index row q ≡ field_of ids i q) → slice_index row k ≡ 3
    → field_of ids i (p - 1) ≡ 3
child_of row ids i p k some low at is h = sym (row_at row ids i p k some low at is) ∙ h

pub loop-port-init : goal.loop-port-init
loop-port-init c = record {
  low = omega arith;
  grown = c.requires.grown;
  counts = ap (λ n. n + fields c.args.ids.now c.args.node 3) c.requires.counts;
  closed = λ x l m. absurd (omega arith);
  taken = first_taken c.args.ids.now c.args.node c.requires.fits c.args.tree.now c.requires.grown;
  agrees = λ s n l g a. a;
  rest = record { sizes = c.requires.sizes; count = refl; own_port = refl; sp = refl };
}

pub loop-port-preserved-in-Some : goal.loop-port-preserved-in-Some
loop-port-preserved-in-Some c =
    let ids = c.args.ids.now in
    let i = c.args.node in
    let t = c.loop-port.tree in
    let u = c.join.new.self in
    let p = c.loop-port.port in
    let v = c.loop-port.invariant in
    let k = c.in-Some.child in
    let some = c.loop-port-test.true in
    let child : field_of ids i (p - 1) ≡ 3 =
    child_of c.fields_of-fields.result ids i p c.from.result some c.loop-port.auto.port c.from.ensures c.fields_of-fields.ensures c.if-fields-from-eq-CHILD.true in
    let lower : k < c.loop-port.below = c.in-Some.ensures.low in
    let free = c.in-Some.ensures.open in
    let highest = c.in-Some.ensures.highest in
    let low = v.low in
    let j : IsJoined t u k i (p - 1) = joined_of t u k i (p - 1) v.rest.sizes (omega (arith, c.requires.node)) free v.grown.ports (ap (λ (x : Tree). x.parent) c.join.ensures)
    (ap (λ (x : Tree). x.parent_port) c.join.ensures) in
    record {
      low = omega arith;
      grown = some_grown ids i c.requires.fits t p c.loop-port.below some child low v.closed v.taken v.grown k u lower free highest j;
      counts = some_counts ids i c.requires.fits t p c.loop-port.below some child low v.closed v.taken v.grown k u lower free highest j v.counts;
      closed = some_closed ids i c.requires.fits t p c.loop-port.below some child low v.closed v.taken v.grown k u lower free highest j;
      taken = some_taken ids i c.requires.fits t p c.loop-port.below some child low v.closed v.taken v.grown k u lower free highest j;
      agrees = λ s n l g a. some_agrees ids i c.requires.fits t p c.loop-port.below some child low v.closed v.taken v.grown k u lower free highest j s n l g (v.agrees s n l g a);
      rest = rest_of c.args.tree.now t u k i (p - 1) v.rest c.join.ensures;
    }

child_at : (c : In-None) → field_of c.args.ids.now c.args.node (c.loop-port.port - 1) ≡ 3
child_at c = child_of c.fields_of-fields.result c.args.ids.now c.args.node c.loop-port.port c.from.result c.loop-port-test.true c.loop-port.auto.port c.from.ensures c.fields_of-fields.ensures
    c.if-fields-from-eq-CHILD.true

pub returns-in-None-clause-missing : goal.returns-in-None-clause-missing
returns-in-None-clause-missing c =
    let v = c.loop-port.invariant in
    missing c.args.ids.now c.args.node c.requires.fits c.loop-port.tree c.loop-port.port c.loop-port.below c.loop-port-test.true
    (child_at c) v.low v.closed v.taken v.grown c.in-None.ensures.none v.counts

pub returns-in-None-clause-agrees : goal.returns-in-None-clause-agrees
returns-in-None-clause-agrees c =
    let v = c.loop-port.invariant in
    λ s n l g a. absurd (missing_none c.args.ids.now c.args.node c.requires.fits c.loop-port.tree c.loop-port.port c.loop-port.below c.loop-port-test.true
    (child_at c) v.low v.closed v.taken v.grown s n l g (v.agrees s n l g a) c.in-None.ensures.none)

pub loop-port-preserved : goal.loop-port-preserved
loop-port-preserved c =
    let ids = c.args.ids.now in
    let i = c.args.node in
    let t = c.loop-port.tree in
    let p = c.loop-port.port in
    let v = c.loop-port.invariant in
    let some = c.loop-port-test.true in
    let no : field_of ids i (p - 1) ≡ 3 → ⊥ = λ h. c.if-fields-from-eq-CHILD.false
    (row_at c.fields_of-fields.result ids i p c.from.result some c.loop-port.auto.port c.from.ensures c.fields_of-fields.ensures ∙ h) in
    record {
      low = v.low;
      grown = none_grown ids i c.requires.fits t p some no v.grown;
      counts = none_counts ids i c.requires.fits t p some no v.counts;
      closed = v.closed;
      taken = v.taken;
      agrees = λ s n l g a. none_agrees ids i c.requires.fits s t n p some no l g (v.agrees s n l g a);
      rest = v.rest;
    }

all_done : (c : After-loop-port) → c.loop-port.port ≡ 0
all_done c = omega (arith, c.loop-port-test.false)

pub returns-clause-enough : goal.returns-clause-enough
returns-clause-enough c = let P : ℕ → Type 0 = λ p. Counts c.args.ids.now c.args.node p c.loop-port.tree in
    enough c.args.ids.now c.args.node c.requires.fits c.loop-port.tree (subst P (all_done c) c.loop-port.invariant.counts)

pub returns-clause-grown : goal.returns-clause-grown
returns-clause-grown c = let P : ℕ → Type 0 = λ p. Grown c.args.ids.now c.args.node p c.loop-port.tree in
    all_grown c.args.ids.now c.args.node c.requires.fits c.loop-port.tree (subst P (all_done c) c.loop-port.invariant.grown)

pub returns-clause-counts : goal.returns-clause-counts
returns-clause-counts c =
    let P : ℕ → Type 0 = λ p. Counts c.args.ids.now c.args.node p c.loop-port.tree in
    let Q : ℕ → Type 0 = λ p. Grown c.args.ids.now c.args.node p c.loop-port.tree in
    all_counts c.args.ids.now c.args.node c.requires.fits c.loop-port.tree (subst Q (all_done c) c.loop-port.invariant.grown) (subst P (all_done c) c.loop-port.invariant.counts)

pub returns-clause-agrees : goal.returns-clause-agrees
returns-clause-agrees c = λ s n l g a.
    let P : ℕ → Type 0 = Agrees s c.loop-port.tree c.args.node in
    (refl, all_agrees c.args.ids.now c.args.node c.requires.fits s c.loop-port.tree n g (subst P (all_done c) (c.loop-port.invariant.agrees s n l g a)))
