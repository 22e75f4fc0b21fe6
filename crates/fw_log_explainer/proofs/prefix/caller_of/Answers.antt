use Rattle.fw_log_explainer.proofs.JoinLaws.{caller_told}
use Rattle.fw_log_explainer.proofs.prefix.caller_of.Goals as goal

pub returns : goal.returns
returns c = caller_told c.args.head.now c.in_ok-source.source c.in_ok-source.ensures c.if-head.false
