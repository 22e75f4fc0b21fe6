use Rattle.std.proofs.Common.{◌≡◌, ◌++◌, subst}
use Rattle.fw_trace_lines.specs.Caused.{Telling}
use Rattle.fw_trace_names.specs.CausedLines.{caused_text}
use Rattle.fw_trace_lines.specs.Commands.{Traced, first_streams, last_lines}
use Rattle.fw_trace_names.proofs.LoopLaws.{stepped}
use Rattle.fw_trace_lines.proofs.LoopLaws.{caused_append}
use Rattle.fw_trace_lines.proofs.tracer.Tracer.put_last.Goals as goal

pub returns-clause-text : goal.returns-clause-text
unfolding last_lines
returns-clause-text c =
    let viewed = subst
    (λ (v : Traced). c.put_all.new.text.items ≡ v.text ++ caused_text (first_streams v.telling.naming v.telling.cycle v.telling.streams 64))
    c.self.view_is c.in_ok-put_all.ensures in
    let second = subst
    (λ (t : Telling). c.put_all.new.text.items ≡ c.put_held.new.self.text ++ caused_text (first_streams t.naming t.cycle t.streams 64))
    c.put_held.ensures.kept viewed in
    stepped _ _ _ _ _ _ c.in_ok-put_held.ensures.text second (caused_append _ _)
