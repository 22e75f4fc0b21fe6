use Rattle.fw_trace.proofs.Common.{◌++◌, ap, ◌∙◌, append-nil, Traced}
use Rattle.fw_trace.proofs.telling.pass_much.Goals as goal

pub returns-clause-given : goal.returns-clause-given
returns-clause-given g c =
    ap (λ (t : Traced). c.pass_on.new.passed.given.bytes ++ t.text) c.pass_on.ensures.tracer ∙ append-nil c.pass_on.new.passed.given.bytes ∙ c.pass_on.ensures.given

pub returns-clause-telling : goal.returns-clause-telling
returns-clause-telling g c = ap (λ (t : Traced). t.telling) c.pass_on.ensures.tracer
