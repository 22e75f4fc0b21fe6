use Rattle.std.proofs.Common.{◌≡◌, ◌++◌, subst}
use Rattle.fw_trace_lines.specs.Caused.{Telling, own_lines}
use Rattle.fw_trace_names.specs.CausedLines.{caused_text}
use Rattle.fw_trace_names.proofs.LoopLaws.{stepped}
use Rattle.fw_trace_lines.proofs.LoopLaws.{caused_append}
use Rattle.fw_trace_lines.proofs.tracer.Tracer.put_others.Goals as goal

pub returns-clause-text : goal.returns-clause-text
returns-clause-text c =
    let second = subst
    (λ (t : Telling). c.put_own.new.self.text ≡ c.put_held.new.self.text ++ caused_text (own_lines t c.args.cycle c.args.what.now))
    c.put_held.ensures.kept c.in_ok-put_own.ensures.text in
    stepped _ _ _ _ _ _ c.in_ok-put_held.ensures.text second (caused_append _ _)
