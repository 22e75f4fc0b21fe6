use Rattle.fw_log_reports.proofs.PassedHoldings.{taken_text}
use Rattle.fw_log_reports.proofs.holding.Holding.pass_body.Goals as goal

pub pass-requires : goal.pass-requires
pass-requires c = c.requires

pub is_unjudged_body-requires : goal.is_unjudged_body-requires
is_unjudged_body-requires c = c.requires

pub returns-clause-passed : goal.returns-clause-passed
returns-clause-passed c = λ entries t at h few k yes.
    let x = c.in_ok-pass.ensures.passed entries t at h few k.holds c.if-not-branch.false in
    taken_text c.args.self.now c.pass.new.holders c.take.new.self entries t x.0 x.1 (c.take.ensures entries t few (c.is_unjudged_body.ensures t.what h) k.tally)
