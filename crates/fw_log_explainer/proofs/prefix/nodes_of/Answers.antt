use Rattle.fw_log_explainer.proofs.JoinLaws.{nodes_told}
use Rattle.fw_log_explainer.proofs.prefix.nodes_of.Goals as goal

pub returns : goal.returns
returns c = nodes_told c.args.head.now c.in_ok-source.source c.in_ok-destination.destination c.in_ok-source.ensures c.in_ok-destination.ensures
