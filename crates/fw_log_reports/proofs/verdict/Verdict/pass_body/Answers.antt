use Rattle.fw_model_account.specs.Fold.{entries_of}
use Rattle.fw_log_reports.proofs.PassedAudits.{taken_audits}
use Rattle.fw_log_reports.proofs.verdict.Verdict.pass_body.Goals as goal

pub pass-requires : goal.pass-requires
pass-requires c = c.requires

pub is_unjudged_body-requires : goal.is_unjudged_body-requires
is_unjudged_body-requires c = c.requires

pub returns-clause-passed : goal.returns-clause-passed
returns-clause-passed c = λ yes entries t h few a.
    taken_audits c.args.self.now c.pass.new.audit c.take.new.self entries t a c.pass.ensures.fresh
    (c.pass.ensures.found c.if-not-pass.false (entries_of entries) t.what h a.found) (c.take.ensures entries t few (c.is_unjudged_body.ensures t.what h) a.tally)
