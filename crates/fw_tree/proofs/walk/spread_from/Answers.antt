use Rattle.fw_tree.proofs.Common.{None, Some, [], Option, IfSome, ◌<◌, slice_index_or, sym, subst, End}
use Rattle.fw_tree.proofs.SeenLaws.{spreads_of}
use Rattle.fw_tree.proofs.PlacedLaws.{marks_same, marked_same}
use Rattle.fw_tree.proofs.walk.spread_from.Goals as goal

pub returns-then-seen-d-clause-marks : goal.returns-then-seen-d-clause-marks
returns-then-seen-d-clause-marks c = spreads_of _ _ _ c.args.d c.if-seen-d.true
    (marks_same c.cables_of.result.now (slice_index_or c.args.g.now c.args.d []) _ _ c.cables_of.ensures.ports c.mark_peers.ensures.marks)

pub returns-then-seen-d-clause-closed : goal.returns-then-seen-d-clause-closed
returns-then-seen-d-clause-closed c = λ first. marked_same c.cables_of.result.now (slice_index_or c.args.g.now c.args.d []) _ c.cables_of.ensures.ports c.mark_peers.ensures.marked

pub mark_peers-requires : goal.mark_peers-requires
mark_peers-requires c = λ p. let P : Option End → Type 0 = λ o. IfSome o (λ e. e.device < 63) in subst P (sym (c.cables_of.ensures.ports p)) (within _ (c.requires.range.ends c.args.d p))
  where
    within : (o : Option End) → IfSome o (λ e. (e.device < 63) × (e.port < 27)) → IfSome o (λ e. e.device < 63)
    within None h = tt
    within (Some e) h = h.0
