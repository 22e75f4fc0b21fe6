use Rattle.std.proofs.Common.{◌++◌, ◌∙◌, ap}
use Rattle.std.proofs.lemmas.Result.{on_ok_weaker}
use Rattle.fw_log_entry.specs.declared.entry.Entry.TheVariants.{Reset}
use Rattle.fw_log_explain.specs.Explained.{ExplainerState}
use Rattle.fw_log_explain.specs.Lines.{line}
use Rattle.fw_log_explain.proofs.LatestLaws.{told}
use Rattle.fw_log_explainer.proofs.explainer.Explainer.put_kept.Goals as goal

pub returns-clause-line : goal.returns-clause-line
returns-clause-line c =
    on_ok_weaker c.put_latest.result
    (λ e. told _ _ _ _ c.args.self.now.requests _ c.in_ok-keep.ensures e
    ∙ ap (λ (s : ExplainerState). s.text ++ line c.args.self.now.requests (record { cycle = c.args.cycle; what = Reset c.args.r.now })) c.self.view_is)
    c.put_latest.ensures
