use Rattle.std.proofs.Common.{◌≡◌, sym, ◌∙◌, ap, subst, Some}
use Rattle.std.specs.Prelude.{position}
use Rattle.std.specs.Option.{option_map}
use Rattle.fw_avc.specs.contracts.unit.Unit.{the_view}
use Rattle.fw_avc.specs.State.{UnitState}
use Rattle.fw_avc.specs.Notices.{is_changed, changed_frame, notice_of, after_notice}
use Rattle.fw_avc.proofs.NoticeLaws.{now_of_kept, notice_at, rest_at, no_notice, same_rest}
use Rattle.fw_avc.proofs.unit.Unit.notice.Goals as goal

pub returns-clause-notice : goal.returns-clause-notice
returns-clause-notice c =
    let before = the_view c.self.inside in
    let at = c.in_ok-at.at in
    let kept = c.remove-kept.result in
    let state = c.now.ensures ∙ now_of_kept before c.remove-kept.new.self.items kept.value in
    let P : UnitState → Type 0 = λ u. position (is_changed u) u.kept ≡ Some at in
    let found = subst P (sym c.self.view_is) (sym c.in_ok-at.ensures) in
    ap (λ f. Some (kept.node, f)) (c.put_notice.ensures.frame ∙ ap changed_frame state)
    ∙ notice_at before at kept found c.remove-kept.ensures.value ∙ ap notice_of c.self.view_is

pub returns-clause-unit : goal.returns-clause-unit
returns-clause-unit c =
    let at = c.in_ok-at.at in
    let P : UnitState → Type 0 = λ u. position (is_changed u) u.kept ≡ Some at in
    let found = subst P (sym c.self.view_is) (sym c.in_ok-at.ensures) in
    rest_at (the_view c.self.inside) at c.remove-kept.result c.remove-kept.new.self.items found c.remove-kept.ensures.items ∙ ap after_notice c.self.view_is

pub returns-in_err-at-clause-notice : goal.returns-in_err-at-clause-notice
returns-in_err-at-clause-notice c = ap (option_map (λ node. (node, c.args.out.now))) c.from_residual.ensures ∙ no_notice c.args.self.now (sym c.in_err-at.ensures)

pub returns-in_err-at-clause-unit : goal.returns-in_err-at-clause-unit
returns-in_err-at-clause-unit c = same_rest c.args.self.now (sym c.in_err-at.ensures)
