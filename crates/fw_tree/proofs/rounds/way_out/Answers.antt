use Rattle.fw_tree.proofs.Common.{◌≡◌, Option, None, Some, true, slice_index_or, sym, ◌∙◌, is_seen, is_open, LeavesBy}
use Rattle.std.specs.Prelude.{count_by, IfSome}
use Rattle.fw_tree.specs.declared.rounds.Cable.{Cable}
use Rattle.fw_tree.proofs.TieLaws.{leaves_by, stays_there}
use Rattle.fw_tree.proofs.rounds.way_out.Goals as goal

pub returns-then-stays-d-clause-none : goal.returns-then-stays-d-clause-none
returns-then-stays-d-clause-none c =
    let s = is_seen c.args.stays.now in
    stays_there c.only_open.result (s c.args.d) _ _ (c.cables_of.ensures.open s) c.only_open.ensures.none

pub returns-then-stays-d-clause-leaves : goal.returns-then-stays-d-clause-leaves
returns-then-stays-d-clause-leaves c = go c.only_open.result c.only_open.ensures.one c.only_open.ensures.end c.only_open.ensures.stays
  where
    go : (o : Option Cable) → IfSome o (λ x. count_by (is_open (is_seen c.args.stays.now)) c.cables_of.result.now ≡ 1)
        → IfSome o (λ x. slice_index_or c.cables_of.result.now x.port None ≡ Some x.end) → IfSome o (λ x. is_seen c.args.stays.now x.end.device ≡ true)
        → IfSome o (λ x. LeavesBy c.args.g.now (is_seen c.args.stays.now) c.args.d x.port)
    go None one end member = tt
    go (Some x) one end member =
        leaves_by c.args.g.now (is_seen c.args.stays.now) c.args.d x.port x.end c.if-stays-d.true
        (sym (c.cables_of.ensures.open (is_seen c.args.stays.now)) ∙ one) (sym (c.cables_of.ensures.ports x.port) ∙ end) member
