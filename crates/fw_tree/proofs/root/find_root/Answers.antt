use Rattle.fw_tree.proofs.Common.{◌≡◌, ◌∙◌, ℕ, Some, arith, ap, sym, here, along, peer, parent_at}
use Rattle.fw_tree.proofs.ClimbLaws.{parent_later, leads_up, top_root}
use Rattle.fw_tree.proofs.ForestLaws.{none_of}
use Rattle.fw_tree.proofs.RoundLaws.{in_range}
use Rattle.fw_tree.proofs.root.find_root.Goals as goal
use Rattle.fw_tree.proofs.root.find_root.Goals.{In-Some-g}

noted : (c : In-Some-g) → parent_at c.args.parents.now c.loop-parent.d ≡ Some c.in-Some.parent
noted c = ap (λ (d : ℕ). parent_at c.args.parents.now d) (sym c.from.ensures) ∙ c.in-Some.is

-- the cable to the parent
up : (c : In-Some-g) → peer c.args.g.now c.loop-parent.d c.in-Some.parent.port ≡ Some c.in-Some-g.end
up c =
    let g = c.args.g.now in
    ap (λ (d : ℕ). peer g d c.in-Some.parent.port) (sym c.from-in-Some.ensures) ∙ (ap (λ (p : ℕ). peer g c.from-in-Some.result p) (sym c.from-in-Some-2.ensures) ∙ c.in-Some-g.is)

pub loop-parent-init : goal.loop-parent-init
loop-parent-init c = record { low = omega arith; on = here }

pub loop-parent-smaller : goal.loop-parent-smaller
loop-parent-smaller c =
    let q = c.requires in
    parent_later c.args.g.now c.args.parents.now c.loop-parent.d c.in-Some.parent c.in-Some-g.end q.range q.cables q.parents c.loop-parent.invariant.low (noted c) (up c)

pub loop-parent-preserved : goal.loop-parent-preserved
loop-parent-preserved c =
    let e = c.in-Some-g.end in
    let port = c.in-Some.parent.port in
    record {
      low = in_range c.args.g.now c.requires.range c.loop-parent.d port e (up c);
      on = along c.loop-parent.invariant.on (record { port = port; leads = leads_up _ e (up c) });
    }

pub returns-clause-root : goal.returns-clause-root
returns-clause-root c =
    let q = c.requires in
    let i = c.loop-parent.invariant in
    let P = λ (d : ℕ). parent_at c.args.parents.now d in
    top_root c.args.g.now c.args.parents.now c.loop-parent.d q.settled.0 q.range q.cables q.loops q.settled.1 q.parents i.low i.on (ap P (sym c.from.ensures) ∙ none_of _ c.in_default.not-Some)
