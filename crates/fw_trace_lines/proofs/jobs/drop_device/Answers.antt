use Rattle.std.proofs.Common.{rules}
use Rattle.std.proofs.lemmas.Fn.{filter_same}
use Rattle.fw_trace_lines.specs.Jobs.{without_device}
use Rattle.fw_trace_lines.proofs.jobs.drop_device.Goals as goal

pub returns : goal.returns
unfolding without_device
returns c = filter_same _ _ _ (λ x b f' k. search rules) _ _ c.retain.ensures.filtered
