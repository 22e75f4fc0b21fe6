use Rattle.std.proofs.Common.{ap, ◌∙◌, not, List}
use Rattle.std.specs.List.{filter}
use Rattle.fw_trace_lines.specs.declared.job.TracedConnection.{TracedConnection}
use Rattle.fw_trace_lines.specs.Jobs.{is_now}
use Rattle.fw_trace_lines.proofs.JobLaws.{ended_is}
use Rattle.fw_trace_lines.proofs.jobs.Jobs.end.Goals as goal

pub returns : goal.returns
returns c =
    ended_is c.args.code c.args.job c.in-Some.job c.args.self.now c.drop_now.new.rows.items c.push.new.self.items c.made_after.result c.over_after.result c.if-job.false c.in-Some.is
    (c.drop_now.ensures ∙ ap (λ (l : List TracedConnection). filter (λ other. not (is_now c.in-Some.job.device c.in-Some.job.slot other)) l) c.self.view_is)
    c.made_after.ensures c.over_after.ensures c.in_ok-push.ensures.items
