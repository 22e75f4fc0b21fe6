use Rattle.std.proofs.Common.{ap, ◌∙◌, not, List}
use Rattle.std.specs.List.{filter}
use Rattle.fw_trace_lines.specs.declared.job.TracedConnection.{TracedConnection}
use Rattle.fw_trace_lines.specs.Jobs.{is_older}
use Rattle.fw_trace_lines.proofs.JobLaws.{displaced_is}
use Rattle.fw_trace_lines.proofs.jobs.Jobs.displace.Goals as goal

pub returns-in_ok-push-in-Some : goal.returns-in_ok-push-in-Some
returns-in_ok-push-in-Some c =
    displaced_is c.args.before c.in-Some.job c.args.self.now c.drop_older.new.rows.items c.push.new.self.items c.if-not-job.true c.in-Some.is
    (c.drop_older.ensures ∙ ap (λ (l : List TracedConnection). filter (λ other. not (is_older c.in-Some.job.device other)) l) c.self.view_is) c.in_ok-push-in-Some.ensures.items
