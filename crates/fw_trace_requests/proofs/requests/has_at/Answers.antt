use Rattle.fw_trace_requests.proofs.RequestLaws.{stands_there}
use Rattle.fw_trace_requests.proofs.requests.has_at.Goals as goal

pub returns-clause-value : goal.returns-clause-value
returns-clause-value c = λ hit. stands_there c.args.source c.args.label c.args.rows.now c.args.at _ c.requires c.if-at-rows.false c.if-rows-at.false hit
