use Rattle.fw_log_words.proofs.WholePassings.{told_passes}
use Rattle.fw_log_words.proofs.explanation.ExplanationReading.take_raw.Goals as goal

pub put_body-requires : goal.put_body-requires
put_body-requires c = c.in-Some.ensures.body

pub returns-clause-history : goal.returns-clause-history
returns-clause-history c entries bytes h t =
    let x = c.in-Some.ensures.history entries bytes h in
    told_passes c.args.self.now.explainer c.put_body.new.self.explainer entries _ c.pass_body.new.self c.in-Some.passed x t
    (c.in_ok-put_body.ensures.line x.entry.what x.made) (c.in_ok-put_body.ensures.requests x.entry.what x.made)
