use Rattle.std.proofs.Common.{sym, subst, ◌∙◌}
use Rattle.fw_log.specs.Passing.{HasBody}
use Rattle.fw_log.specs.declared.plain.PlainBody.{PlainBody}
use Rattle.fw_log_reports.proofs.TreeLaws.{kept_on_ok, last_stays, no_reset_body}
use Rattle.fw_log_reports.proofs.last_reset.LastReset.take_body.Goals as goal

pub returns-in-Reset : goal.returns-in-Reset
returns-in-Reset c entries t b h =
    let P : PlainBody → Type 0 = λ x. HasBody x t.what in
    let made = subst P c.in-Reset.is b in
    kept_on_ok c.keep.result entries t made.0 _ _ _ made.1 made.2 (made.3 ∙ sym c.as_slice.ensures) c.keep.ensures.there c.keep.ensures.body

pub returns-in_default : goal.returns-in_default
returns-in_default c entries t b h =
    last_stays entries t c.args.self.now.there c.args.self.now.body.items (no_reset_body c.args.body.now t.what b c.in_default.not-Reset) h
