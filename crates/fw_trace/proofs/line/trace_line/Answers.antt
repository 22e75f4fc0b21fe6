use Rattle.fw_trace.proofs.Common.{◌⊎◌, ◌++◌, ◌≡◌, List, ℕ, sym, subst, take, Grows, Reading, Done, trace_text}
use Rattle.fw_script_words.proofs.Calls.{may_read}
use Rattle.fw_script_words.proofs.Passings.{pass_shorter}
use Rattle.fw_trace_lines.specs.Lines.{line_text}
use Rattle.fw_trace.specs.Tracing.{HoldsNoCommand}
use Rattle.fw_trace.proofs.NextLaws.{line_open, refused_next}
use Rattle.fw_trace.proofs.LookLaws.{line_stops, line_told}
use Rattle.fw_trace.proofs.StopLaws.{grown, grown_grows, stop_traced}
use Rattle.fw_trace.proofs.line.trace_line.Goals as goal

pub read_line-requires-clause-open : goal.read_line-requires-clause-open
read_line-requires-clause-open g c =
    let p = c.args.reader.now in
    let t = c.requires.tracing.tracing in
    line_open p (take c.args.line.0 p.rest) c.args.line.1 (may_read t.going.read) t.over c.requires.holds.line

pub carry_alone-requires-clause-none : goal.carry_alone-requires-clause-none
carry_alone-requires-clause-none g c =
    subst (λ (z : Reading). (z.stage ≡ Done) ⊎ HoldsNoCommand z) (sym c.in-Refused.ensures.now)
    (refused_next c.args.reader.now c.read_line.new.self c.args.line.0 c.args.line.1 c.read_line.new.out c.requires.holds c.in-Refused.ensures)

pub returns-in-Ok-clause-goes : goal.returns-in-Ok-clause-goes
returns-in-Ok-clause-goes g c = λ left held t.
    let p = c.args.reader.now in
    let q = c.read_line.new.self in
    let mid = g.K.Sink.held c.args.telling.now.inner.now in
    let now = g.K.Sink.held c.tell_line.new.self.inner.now in
    let before = c.args.telling.now.teller.now.tracer.text in
    let grew : Grows mid now (before ++ line_text q.line q.text) =
    subst (λ (l : List ℕ). Grows mid now (before ++ l)) (λ i. line_text (c.line.ensures i) (c.text.ensures i)) c.in-Ok.ensures.passes.0 in
    rw (c.in-Ok.ensures.tracer, c.in-Ok.ensures.history) (
      line_told t q c.args.line.0 c.args.line.1 c.read_line.new.out c.requires.holds c.in-Nothing.ensures now grew,
      pass_shorter p q c.args.line.0 c.args.line.1 c.read_line.new.out c.requires.holds c.in-Nothing.ensures,
    )

pub returns-in-Err-clause-goes : goal.returns-in-Err-clause-goes
returns-in-Err-clause-goes g c = λ left held t.
    let q = c.read_line.new.self in
    let mid = g.K.Sink.held c.args.telling.now.inner.now in
    let now = g.K.Sink.held c.tell_line.new.self.inner.now in
    let faults = g.K.Sink.faults c.args.telling.now.inner.now in
    let faults' = g.K.Sink.faults c.tell_line.new.self.inner.now in
    let before = c.args.telling.now.teller.now.tracer.text in
    let text = before ++ line_text q.line q.text in
    let told = line_told t q c.args.line.0 c.args.line.1 c.read_line.new.out c.requires.holds c.in-Nothing.ensures (grown mid text) (grown_grows mid text) in
    stop_traced mid now (trace_text t.parts) text c.in-Err.lack faults faults' c.stopped.result told t.told
    (line_stops c.in-Err.lack mid now faults faults' before c.line.result q.line c.text.result.now q.text c.line.ensures c.text.ensures c.in-Err.ensures.passes) c.stopped.ensures

pub returns-in-Command-clause-goes : goal.returns-in-Command-clause-goes
returns-in-Command-clause-goes g c = λ left held t. (rw c.in-Command.ensures.now at c.carry_line.ensures.goes) left held t

pub returns-in-Refused-clause-goes : goal.returns-in-Refused-clause-goes
returns-in-Refused-clause-goes g c = λ left held t. (rw c.in-Refused.ensures.now at c.carry_alone.ensures.goes) left held t
