use Rattle.fw_trace.proofs.Common.{ap, None}
use Rattle.fw_trace.proofs.NextLaws.{begun_alone}
use Rattle.fw_trace.proofs.line.carry_alone.Goals as goal

pub returns-clause-goes : goal.returns-clause-goes
returns-clause-goes g c = λ left held t.
    let new = c.begin_alone.new.self.teller.now in
    c.carry.ensures.goes left held None
    (begun_alone t c.requires.none (g.K.Sink.held new.passed.start.value) new.origin.value new.earlier.value.bytes
    (ap (λ s. g.K.Sink.held s) c.begin_alone.ensures.start) c.begin_alone.ensures.origin c.begin_alone.ensures.earlier)
