use Rattle.fw_tree.proofs.Common.{ℕ, [], slice_index_or, subst, IsTrue, is_seen}
use Rattle.fw_tree.specs.Cables.{AreMarked}
use Rattle.fw_tree.proofs.SeenLaws.{closed_alone, reached_first}
use Rattle.fw_tree.proofs.walk.reach.Goals as goal

pub loop-init : goal.loop-init
loop-init c = record {
  reached = c.spread_from.ensures.marks.reached c.args.a (reached_first _ _ _ c.only-seen.ensures.others);
  first = c.spread_from.ensures.marks.keeps c.args.a c.only-seen.ensures.first;
}

pub returns-then-not-spread_from-clause-reached : goal.returns-then-not-spread_from-clause-reached
returns-then-not-spread_from-clause-reached c = c.spread_from.ensures.marks.reached c.args.a (reached_first _ _ _ c.only-seen.ensures.others)

pub returns-then-not-spread_from-clause-closed : goal.returns-then-not-spread_from-clause-closed
returns-then-not-spread_from-clause-closed c =
    let e = c.spread_from.ensures in
    let P : ℕ → Type 0 = λ d. IsTrue (is_seen c.only-seen.result d) → AreMarked (slice_index_or c.args.g.now d []) c.spread_from.new.seen in
    closed_alone c.args.g.now c.args.a c.only-seen.result c.spread_from.new.seen c.only-seen.ensures.others (e.same c.if-not-spread_from.true)
    (subst P c.from.ensures e.closed c.only-seen.ensures.first)

pub returns-then-not-spread_from-clause-first : goal.returns-then-not-spread_from-clause-first
returns-then-not-spread_from-clause-first c = c.spread_from.ensures.marks.keeps c.args.a c.only-seen.ensures.first
