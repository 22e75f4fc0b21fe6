use Rattle.fw_trace.proofs.Common.{ap, ◌∙◌, ◌+◌, ◌++◌, ℕ, List, Some, take}
use Rattle.fw_trace_lines.specs.Lines.{line_text}
use Rattle.fw_trace.proofs.NextLaws.{begun_line}
use Rattle.fw_trace.proofs.LookLaws.{lack_traced}
use Rattle.fw_trace.proofs.line.carry_line.Goals as goal

pub returns-in_default-clause-goes : goal.returns-in_default-clause-goes
returns-in_default-clause-goes g c = λ left held t.
    lack_traced t (g.K.Sink.held c.begin.new.self.inner.now) (ap (λ s. g.K.Sink.held s) c.begin.ensures.inner)

pub returns-clause-goes : goal.returns-clause-goes
returns-clause-goes g c = λ left held t.
    let (h, s) = c.requires.holds in
    let old = c.args.telling.now.teller.now in
    let new = c.begin.new.self.teller.now in
    let number = c.line-number.result + 1 in
    c.carry.ensures.goes left held (Some (take c.args.line.0 c.args.reader.now.rest))
    (begun_line t c.args.line.0 c.args.line.1 c.args.command.now h s (g.K.Sink.held new.passed.start.value) new.origin.value new.earlier.value.bytes number c.place_of-place.result
    (ap (λ s. g.K.Sink.held s) c.begin.ensures.start) (ap (λ (n : ℕ). n + 1) c.line-number.ensures)
    (c.in-Ok.ensures.text ∙ ap (λ (l : List ℕ). old.tracer.text ++ line_text number l) c.held_text.ensures) c.in-Ok.ensures.kept c.begin.ensures.earlier
    (λ o d. c.place_of-place.ensures t.going.commands t.going.actions t.going.log t.going.state o t.going.run t.going.stands d))
