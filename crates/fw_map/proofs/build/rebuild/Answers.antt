use Rattle.fw_map.proofs.Common.{◌≡◌, ◌<◌, ◌≤◌, ◌+◌, ◌-◌, ℕ, length, Option, Some, None, true, false, refl, sym, ap, subst, ◌∙◌, arith, number_at, is_there, Tree, HasPackets, Agrees, Joining}
use Rattle.std.proofs.Common.{Result, Ok, Err}
use Rattle.std.specs.Option.{is_some, IfSome, IfNone}
use Rattle.fw_map.specs.declared.MapFault.{MapFault}
use Rattle.fw_map.specs.declared.MapWhy.TheVariants.{Left, Root}
use Rattle.fw_map.proofs.BuiltLaws.{tree_of}
use Rattle.fw_map.proofs.OrderLaws.{grown, root_last}
use Rattle.fw_map.proofs.NodeLaws.{joining_first, agrees_first}
use Rattle.fw_map.proofs.RebuildLaws.{answered, joining_is, last_is, left_is, root_is, no_fault, left_over, none_over, not_left, same_tree}
use Rattle.fw_map.proofs.ValueLaws.{tree_is, fault_is}
use Rattle.fw_map.proofs.build.rebuild.Goals as goal
use Rattle.fw_map.proofs.build.rebuild.Goals.{Else-e-last}

few : (s n : ℕ) → s ≡ n → n ≤ 63 → s ≤ 63
few s n e l = omega arith

some_is : (o : Option ℕ) → is_some o ≡ true → (x : ℕ) × (o ≡ Some x)
some_is None h = absurd (let z : ⊥ = cc in z)
some_is (Some x) h = (x, refl)

if_some : (o : Option ℕ) (x : ℕ) (P : ℕ → Type 0) → o ≡ Some x → IfSome o P → P x
if_some None x P e h = absurd (let z : ⊥ = cc in z)
if_some (Some y) x P e h = let s : y ≡ x = cc in subst P s h

if_none : (o : Option ℕ) (P : Type 0) → is_some o ≡ false → IfNone o P → P
if_none None P h k = k
if_none (Some x) P h k = absurd (let z : ⊥ = cc in z)

pub loop-node-init : goal.loop-node-init
loop-node-init c =
    let e = c.args.e.now in
    let f = c.requires in
    let n = length c.as_slice.result.now in
    let size : n ≡ length e.nodes = ap length c.as_slice.ensures.value in
    let P : Tree → Type 0 = λ t. Joining e 0 t in
    let Q : Tree → Type 0 = λ t. (s : Tree) → HasPackets e s → Agrees s t 0 27 in
    record {
      joining = subst P (sym c.bare-tree.ensures) (joining_first e n f.packets size);
      agrees = subst Q (sym c.bare-tree.ensures) (λ s h. agrees_first e s n s.count f.packets (grown e s h (few s.count (length e.nodes) h.count f.few) f.packets));
    }

pub returns-in-Err-clause-fault : goal.returns-in-Err-clause-fault
returns-in-Err-clause-fault c =
    let e = c.args.e.now in
    let size = ap length c.as_slice.ensures.value in
    let low : c.loop-node.node < length e.nodes = omega (arith, c.loop-node-test.true) in
    answered e (record { node = c.loop-node.node; why = c.in-Err.why }) (joining_is e c.loop-node.node c.in-Err.why low c.loop-node.invariant.joining.joined (sym c.in-Err.ensures.fault))

-- all nodes were joined
ended : (n m k : ℕ) → n ≡ k → 1 ≤ k → m ≤ n → n ≤ m → m ≡ n - 1 + 1
ended n m k a b c d = omega arith

whole : (n k : ℕ) → n ≡ k → 1 ≤ k → n - 1 + 1 ≡ k
whole n k a b = omega arith

pub returns-then-is_some-clause-only : goal.returns-then-is_some-clause-only
returns-then-is_some-clause-only c = λ s h.
    let e = c.args.e.now in
    let n = length c.as_slice.result.now in
    let size : n ≡ length e.nodes = ap length c.as_slice.ensures.value in
    let all = ended n c.loop-node.node (length e.nodes) size c.requires.some c.loop-node.auto.node-end c.loop-node-test.false in
    let t = c.loop-node.tree in
    let P : ℕ → Type 0 = λ k. Agrees s t k 27 in
    let o = c.open_below.result in
    let w = some_is o (sym c.is_some.ensures ∙ c.if-is_some.true) in
    absurd (not_left e s t (n - 1) w.0 h (few s.count (length e.nodes) h.count c.requires.few) (h.count ∙ sym (whole n (length e.nodes) size c.requires.some))
    (subst P all (c.loop-node.invariant.agrees s h))
    (if_some o w.0 (λ x. x < n - 1) w.1 c.open_below.ensures.low)
    (if_some o w.0 (λ x. number_at t.parent x ≡ None) w.1 c.open_below.ensures.open))

pub returns-then-is_some-clause-fault : goal.returns-then-is_some-clause-fault
returns-then-is_some-clause-fault c =
    let e = c.args.e.now in
    let n = length c.as_slice.result.now in
    let size : n ≡ length e.nodes = ap length c.as_slice.ensures.value in
    let all = ended n c.loop-node.node (length e.nodes) size c.requires.some c.loop-node.auto.node-end c.loop-node-test.false in
    let t = c.loop-node.tree in
    let P : ℕ → Type 0 = λ k. Joining e k t in
    let j = subst P all c.loop-node.invariant.joining in
    let o = c.open_below.result in
    let w = some_is o (sym c.is_some.ensures ∙ c.if-is_some.true) in
    let left = left_over e t (n - 1) w.0 c.requires.packets j (if_some o w.0 (λ x. x < n - 1) w.1 c.open_below.ensures.low)
    (if_some o w.0 (λ x. number_at t.parent x ≡ None) w.1 c.open_below.ensures.open) in
    answered e (record { node = n - 1; why = Left }) (last_is e (n - 1) Left (whole n (length e.nodes) size c.requires.some) j.joined (left_is e (n - 1) left))

pub returns-then-e-last-clause-only : goal.returns-then-e-last-clause-only
returns-then-e-last-clause-only c = λ s h. absurd (
    let e = c.args.e.now in
    let n = length c.as_slice.result.now in
    let size : n ≡ length e.nodes = ap length c.as_slice.ensures.value in
    let last = root_last e s h (few s.count (length e.nodes) h.count c.requires.few) in
    let count = h.count in
    let same : e.root ≡ n - 1 = omega arith in
    c.if-e-last.true same)

pub returns-then-e-last-clause-fault : goal.returns-then-e-last-clause-fault
returns-then-e-last-clause-fault c =
    let e = c.args.e.now in
    let n = length c.as_slice.result.now in
    let size : n ≡ length e.nodes = ap length c.as_slice.ensures.value in
    let all = ended n c.loop-node.node (length e.nodes) size c.requires.some c.loop-node.auto.node-end c.loop-node-test.false in
    let t = c.loop-node.tree in
    let P : ℕ → Type 0 = λ k. Joining e k t in
    let j = subst P all c.loop-node.invariant.joining in
    let one = none_over e t (n - 1) j (if_none c.open_below.result ((x : ℕ) → x < n - 1 → is_there (number_at t.parent x) ≡ true)
    (sym c.is_some.ensures ∙ c.if-is_some.false) c.open_below.ensures.none) in
    answered e (record { node = n - 1; why = Root }) (last_is e (n - 1) Root (whole n (length e.nodes) size c.requires.some) j.joined (root_is e (n - 1) one c.if-e-last.true))

-- what holds if no test failed
built : (c : Else-e-last) → HasPackets c.args.e.now c.loop-node.tree
built c =
    let e = c.args.e.now in
    let n = length c.as_slice.result.now in
    let size : n ≡ length e.nodes = ap length c.as_slice.ensures.value in
    let all = ended n c.loop-node.node (length e.nodes) size c.requires.some c.loop-node.auto.node-end c.loop-node-test.false in
    let t = c.loop-node.tree in
    let P : ℕ → Type 0 = λ k. Joining e k t in
    let j = subst P (all ∙ whole n n refl (omega (arith, c.requires.some))) c.loop-node.invariant.joining in
    let none = if_none c.open_below.result ((x : ℕ) → x < n - 1 → is_there (number_at t.parent x) ≡ true) (sym c.is_some.ensures ∙ c.if-is_some.false) c.open_below.ensures.none in
    let root : e.root ≡ n - 1 = c.if-e-last.false in
    tree_of e t n c.requires.packets j.grown (few n (length e.nodes) size c.requires.few) (λ x l. none x (omega arith)) j.sizes (j.count ∙ sym size) size j.noted (omega (arith, c.requires.some))

pub returns-clause-tree : goal.returns-clause-tree
returns-clause-tree c = built c

pub returns-clause-only : goal.returns-clause-only
returns-clause-only c = λ s h.
    let e = c.args.e.now in
    let n = length c.as_slice.result.now in
    let size : n ≡ length e.nodes = ap length c.as_slice.ensures.value in
    let all = ended n c.loop-node.node (length e.nodes) size c.requires.some c.loop-node.auto.node-end c.loop-node-test.false in
    let P : ℕ → Type 0 = λ k. Agrees s c.loop-node.tree k 27 in
    let same : c.loop-node.node ≡ s.count = all ∙ (whole n (length e.nodes) size c.requires.some ∙ sym h.count) in
    ap (λ (t : Tree). Ok t) (same_tree e s c.loop-node.tree h (built c) (subst P same (c.loop-node.invariant.agrees s h)))

pub returns-clause-fault : goal.returns-clause-fault
returns-clause-fault c = λ f.
    let e = c.args.e.now in
    let n = length c.as_slice.result.now in
    let size : n ≡ length e.nodes = ap length c.as_slice.ensures.value in
    let all = ended n c.loop-node.node (length e.nodes) size c.requires.some c.loop-node.auto.node-end c.loop-node-test.false in
    let t = c.loop-node.tree in
    let P : ℕ → Type 0 = λ k. Joining e k t in
    let j = subst P all c.loop-node.invariant.joining in
    let one = none_over e t (n - 1) j (if_none c.open_below.result ((x : ℕ) → x < n - 1 → is_there (number_at t.parent x) ≡ true)
    (sym c.is_some.ensures ∙ c.if-is_some.false) c.open_below.ensures.none) in
    (λ h. absurd (let z : ⊥ = cc in z), λ h. absurd (no_fault e (n - 1) f (whole n (length e.nodes) size c.requires.some) j.joined one c.if-e-last.false h))

-- ---- the value

pub returns-in-Err-clause-value : goal.returns-in-Err-clause-value
returns-in-Err-clause-value c =
    let f : MapFault = record { node = c.loop-node.node; why = c.in-Err.why } in
    fault_is c.args.e.now f ((returns-in-Err-clause-fault c f).0 refl)

pub returns-then-is_some-clause-value : goal.returns-then-is_some-clause-value
returns-then-is_some-clause-value c =
    let f : MapFault = record { node = length c.as_slice.result.now - 1; why = Left } in
    fault_is c.args.e.now f ((returns-then-is_some-clause-fault c f).0 refl)

pub returns-then-e-last-clause-value : goal.returns-then-e-last-clause-value
returns-then-e-last-clause-value c =
    let f : MapFault = record { node = length c.as_slice.result.now - 1; why = Root } in
    fault_is c.args.e.now f ((returns-then-e-last-clause-fault c f).0 refl)

pub returns-clause-value : goal.returns-clause-value
returns-clause-value c = tree_is c.args.e.now c.loop-node.tree (built c) c.requires.few c.requires.packets (λ f w. no_fault_of f ((returns-clause-fault c f).1 w))
  where
    no_fault_of : (f : MapFault) → ◌≡◌ {A = Result Tree MapFault} (Ok c.loop-node.tree) (Err f) → ⊥
    no_fault_of f h = cc
