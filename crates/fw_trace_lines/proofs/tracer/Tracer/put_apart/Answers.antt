use Rattle.std.proofs.Common.{◌≡◌, ◌++◌, subst}
use Rattle.fw_trace_lines.specs.Caused.{Telling}
use Rattle.fw_trace_names.specs.CausedLines.{caused_text}
use Rattle.fw_trace_lines.specs.Replies.{late_reply}
use Rattle.fw_trace_names.proofs.LoopLaws.{stepped}
use Rattle.fw_trace_lines.proofs.LoopLaws.{caused_append}
use Rattle.fw_trace_lines.proofs.tracer.Tracer.put_apart.Goals as goal

pub returns-clause-text : goal.returns-clause-text
returns-clause-text c =
    let second = subst
    (λ (t : Telling). c.put_late.new.self.text ≡ c.put_held.new.self.text ++ caused_text (late_reply t c.args.cycle c.args.r.now))
    c.put_held.ensures.kept c.in_ok-put_late.ensures.text in
    stepped _ _ _ _ _ _ c.in_ok-put_held.ensures.text second (caused_append _ _)
