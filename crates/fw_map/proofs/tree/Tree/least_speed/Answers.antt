use Rattle.fw_map.proofs.Common.{◌≡◌, ◌⊎◌, inl, inr, ◌+◌, ◌<◌, ◌≤◌, ℕ, ap, ◌∙◌, arith, cases_lt, speed_at}
use Rattle.fw_map.proofs.WalkLaws.{way, first_up, second_up, so_far, at_end}
use Rattle.fw_map.proofs.tree.Tree.least_speed.Goals as goal

-- what the lesser of two numbers is
record Lesser (n a b : ℕ) : Type 0 where
  left : n ≤ a
  right : n ≤ b
  which : (n ≡ a) ⊎ (n ≡ b)

lesser : (n a b : ℕ) → n ≡ Prim.Native.Nat.min a b → Lesser n a b
lesser n a b e = record { left = omega arith; right = omega arith; which = elim (cases_lt a b) [ inl l ↦ inl (omega arith) | inr m ↦ inr (omega arith) ] }

pub loop-a-init : goal.loop-a-init
loop-a-init c =
    let sp = speed_at c.args.self.now.sp in
    let w = lesser c.min-least.result (sp c.args.a) (sp c.args.b)
    (c.min-least.ensures ∙ (ap (λ k. Prim.Native.Nat.min (sp k) (sp c.from-2.result)) c.from.ensures ∙ ap (λ k. Prim.Native.Nat.min (sp c.args.a) (sp k)) c.from-2.ensures)) in
    record {
      a = c.requires.a;
      b = c.requires.b;
      at_a = w.left;
      at_b = w.right;
      walk = λ nodes k. so_far c.args.self.now nodes c.args.a c.args.b c.min-least.result k w.which;
    }

pub loop-a-preserved-then-a-b : goal.loop-a-preserved-then-a-b
loop-a-preserved-then-a-b c =
    let sp = speed_at c.args.self.now.sp in
    let d = c.parent_of-a.result in
    let w = lesser c.min-least-then-a-b.result c.loop-a.least (sp d) (c.min-least-then-a-b.ensures ∙ ap (λ k. Prim.Native.Nat.min c.loop-a.least (sp k)) c.from-then-a-b.ensures) in
    record {
      a = c.parent_of-a.ensures.low;
      b = c.loop-a.invariant.b;
      at_a = w.right;
      at_b = omega (arith, w.left, c.loop-a.invariant.at_b);
      walk = λ nodes k. first_up c.args.self.now c.requires.tree nodes c.loop-a.a c.loop-a.b d c.loop-a.least c.min-least-then-a-b.result c.if-a-b.true c.parent_of-a.ensures.parent
          c.loop-a.invariant.at_a w.which w.left (c.loop-a.invariant.walk nodes k);
    }

pub loop-a-preserved : goal.loop-a-preserved
loop-a-preserved c =
    let sp = speed_at c.args.self.now.sp in
    let d = c.parent_of-b.result in
    let w = lesser c.min-least-else-a-b.result c.loop-a.least (sp d) (c.min-least-else-a-b.ensures ∙ ap (λ k. Prim.Native.Nat.min c.loop-a.least (sp k)) c.from-else-a-b.ensures) in
    let less : c.loop-a.b < c.loop-a.a = omega (arith, c.if-a-b.false, c.loop-a-test.true) in
    record {
      a = c.loop-a.invariant.a;
      b = c.parent_of-b.ensures.low;
      at_a = omega (arith, w.left, c.loop-a.invariant.at_a);
      at_b = w.right;
      walk = λ nodes k. second_up c.args.self.now c.requires.tree nodes c.loop-a.a c.loop-a.b d c.loop-a.least c.min-least-else-a-b.result less c.parent_of-b.ensures.parent c.loop-a.invariant.at_b
          w.which w.left (c.loop-a.invariant.walk nodes k);
    }

pub returns-clause-walk : goal.returns-clause-walk
returns-clause-walk c =
    let t = c.args.self.now in
    let w = way t c.requires.tree (t.count + t.count) c.args.a c.args.b c.requires.a c.requires.b (omega arith) in
    (w.nodes, w.walk)

pub returns-clause-least : goal.returns-clause-least
returns-clause-least c = λ nodes k. at_end c.args.self.now nodes c.loop-a.a c.loop-a.b c.loop-a.least c.loop-a-test.false c.loop-a.invariant.at_a (c.loop-a.invariant.walk nodes k)
