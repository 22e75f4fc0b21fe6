use Rattle.std.proofs.Common.{◌++◌, ◌∙◌, ap}
use Rattle.fw_log_entry.specs.declared.entry.Entry.TheVariants.{Reset}
use Rattle.fw_log_explain.specs.Explained.{ExplainerState}
use Rattle.fw_log_explain.specs.Lines.{line}
use Rattle.fw_log_explain.proofs.LatestLaws.{told_again}
use Rattle.fw_log_explainer.proofs.explainer.Explainer.put_reset_again.Goals as goal

pub returns-in-Ok-clause-line : goal.returns-in-Ok-clause-line
returns-in-Ok-clause-line c t =
    let x = c.is.ensures c.if-not-is.false in (
      x.0,
      x.1,
      x.2,
      told_again _ _ _ c.args.cycle c.args.epoch c.args.self.now.requests x.0 x.3 c.in-Ok.ensures
          ∙ ap (λ (s : ExplainerState). s.text ++ line c.args.self.now.requests (record { cycle = c.args.cycle; what = Reset (record x.0 { epoch = c.args.epoch }) })) c.self.view_is,
    )
