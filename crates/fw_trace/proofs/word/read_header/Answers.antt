use Rattle.fw_trace.proofs.Common.{◌≡◌, ◌++◌, ◌∙◌, ap, sym, List, ℕ, header_bytes, Two, Base}
use Rattle.fw_trace.proofs.Framings.{framed_grown}
use Rattle.fw_trace.proofs.HeaderLaws.{header_begins, header_stops}
use Rattle.fw_trace.proofs.OnLaws.{fault_writes, lack_none, passed_whole}
use Rattle.fw_trace.proofs.word.read_header.Goals as goal

pub returns-in-Ok-clause-begins : goal.returns-in-Ok-clause-begins
returns-in-Ok-clause-begins g c =
    let old = c.args.telling.now.teller.now in
    let sink = c.write_header.new.sink in
    let new = sink.teller.now in
    let base : Base = (c.args.telling.now.inner.ghost_name, (g.K.Sink.held old.passed.start.value, (g.K.Sink.faults old.passed.start.value, (old.origin.value, old.earlier.value.bytes)))) in
    let base' : Base = (sink.inner.ghost_name, (g.K.Sink.held new.passed.start.value, (g.K.Sink.faults new.passed.start.value, (new.origin.value, new.earlier.value.bytes)))) in
    let grown = framed_grown base base' old.history.bytes new.history.bytes (header_bytes Two) c.in-Ok.ensures.bytes in
    header_begins new.origin.value new.tracer new.reader new.count new.earlier.value.bytes new.history.bytes new.passed.given.bytes new.lack new.passed.failed
    (g.K.Sink.held c.args.telling.now.inner.now) (g.K.Sink.held sink.inner.now) (g.K.Sink.held new.passed.start.value) (g.K.Sink.faults new.passed.start.value) (g.K.Sink.faults sink.inner.now)
    (ap (λ (q : Base). q.1.1.1.0) grown.0 ∙ c.requires.origin) (ap (λ (q : Base). q.1.1.1.1) grown.0 ∙ c.requires.earlier)
    (grown.1 ∙ ap (λ (l : List ℕ). l ++ header_bytes Two) c.requires.history) (lack_none old.lack new.lack c.requires.lack c.in-Ok.ensures.same) new.failed
    (ap (λ (q : Base). q.1.0) grown.0 ∙ ap (λ s. g.K.Sink.held s) c.requires.start) sink.passed new.tells

pub returns-in-Ok-clause-reference : goal.returns-in-Ok-clause-reference
returns-in-Ok-clause-reference g c =
    let old = c.args.telling.now.teller.now in
    let sink = c.write_header.new.sink in
    let new = sink.teller.now in
    let base : Base = (c.args.telling.now.inner.ghost_name, (g.K.Sink.held old.passed.start.value, (g.K.Sink.faults old.passed.start.value, (old.origin.value, old.earlier.value.bytes)))) in
    let base' : Base = (sink.inner.ghost_name, (g.K.Sink.held new.passed.start.value, (g.K.Sink.faults new.passed.start.value, (new.origin.value, new.earlier.value.bytes)))) in
    ap (λ (q : Base). q.0) (framed_grown base base' old.history.bytes new.history.bytes (header_bytes Two) c.in-Ok.ensures.bytes).0

pub returns-in-Ok-clause-writes : goal.returns-in-Ok-clause-writes
returns-in-Ok-clause-writes g c =
    let old = c.args.telling.now.teller.now in
    let sink = c.write_header.new.sink in
    let new = sink.teller.now in
    let base : Base = (c.args.telling.now.inner.ghost_name, (g.K.Sink.held old.passed.start.value, (g.K.Sink.faults old.passed.start.value, (old.origin.value, old.earlier.value.bytes)))) in
    let base' : Base = (sink.inner.ghost_name, (g.K.Sink.held new.passed.start.value, (g.K.Sink.faults new.passed.start.value, (new.origin.value, new.earlier.value.bytes)))) in
    let same = (framed_grown base base' old.history.bytes new.history.bytes (header_bytes Two) c.in-Ok.ensures.bytes).0 in
    (passed_whole new.lack new.passed.failed (g.K.Sink.held new.passed.start.value) (g.K.Sink.held sink.inner.now) (g.K.Sink.faults new.passed.start.value) (g.K.Sink.faults sink.inner.now)
    new.passed.given.bytes (lack_none old.lack new.lack c.requires.lack c.in-Ok.ensures.same) new.failed sink.passed).1
    ∙ ap (λ (q : Base). q.1.1.0) same ∙ ap (λ s. g.K.Sink.faults s) c.requires.start

pub returns-in-Err-clause-begins : goal.returns-in-Err-clause-begins
returns-in-Err-clause-begins g c =
    let old = c.args.telling.now.teller.now in
    let sink = c.write_header.new.sink in
    let new = sink.teller.now in
    let base : Base = (c.args.telling.now.inner.ghost_name, (g.K.Sink.held old.passed.start.value, (g.K.Sink.faults old.passed.start.value, (old.origin.value, old.earlier.value.bytes)))) in
    let base' : Base = (sink.inner.ghost_name, (g.K.Sink.held new.passed.start.value, (g.K.Sink.faults new.passed.start.value, (new.origin.value, new.earlier.value.bytes)))) in
    let x = c.in-Err.ensures.bytes in
    let grown = framed_grown base base' old.history.bytes new.history.bytes x.prefix x.appended in
    let bytes : new.history.bytes ≡ x.prefix = grown.1 ∙ ap (λ (l : List ℕ). l ++ x.prefix) c.requires.history in
    header_stops new.origin.value new.tracer new.reader new.count new.earlier.value.bytes new.history.bytes x.rest new.passed.given.bytes new.lack new.passed.failed
    (g.K.Sink.held c.args.telling.now.inner.now) (g.K.Sink.held sink.inner.now) (g.K.Sink.held new.passed.start.value) (g.K.Sink.faults new.passed.start.value) (g.K.Sink.faults sink.inner.now)
    c.ending_of.result (ap (λ (q : Base). q.1.1.1.0) grown.0 ∙ c.requires.origin) (ap (λ (q : Base). q.1.1.1.1) grown.0 ∙ c.requires.earlier)
    (x.parts ∙ ap (λ (l : List ℕ). l ++ x.rest) (sym bytes))
    (ap (λ (q : Base). q.1.0) grown.0 ∙ ap (λ s. g.K.Sink.held s) c.requires.start) sink.passed new.tells c.ending_of.ensures

pub returns-in-Err-clause-reference : goal.returns-in-Err-clause-reference
returns-in-Err-clause-reference g c =
    let old = c.args.telling.now.teller.now in
    let sink = c.write_header.new.sink in
    let new = sink.teller.now in
    let base : Base = (c.args.telling.now.inner.ghost_name, (g.K.Sink.held old.passed.start.value, (g.K.Sink.faults old.passed.start.value, (old.origin.value, old.earlier.value.bytes)))) in
    let base' : Base = (sink.inner.ghost_name, (g.K.Sink.held new.passed.start.value, (g.K.Sink.faults new.passed.start.value, (new.origin.value, new.earlier.value.bytes)))) in
    let x = c.in-Err.ensures.bytes in
    ap (λ (q : Base). q.0) (framed_grown base base' old.history.bytes new.history.bytes x.prefix x.appended).0

pub returns-in-Err-clause-writes : goal.returns-in-Err-clause-writes
returns-in-Err-clause-writes g c =
    let old = c.args.telling.now.teller.now in
    let sink = c.write_header.new.sink in
    let new = sink.teller.now in
    let base : Base = (c.args.telling.now.inner.ghost_name, (g.K.Sink.held old.passed.start.value, (g.K.Sink.faults old.passed.start.value, (old.origin.value, old.earlier.value.bytes)))) in
    let base' : Base = (sink.inner.ghost_name, (g.K.Sink.held new.passed.start.value, (g.K.Sink.faults new.passed.start.value, (new.origin.value, new.earlier.value.bytes)))) in
    let x = c.in-Err.ensures.bytes in
    let same = (framed_grown base base' old.history.bytes new.history.bytes x.prefix x.appended).0 in
    rw c.ending_of.ensures
    (fault_writes new.lack new.passed.failed (g.K.Sink.held new.passed.start.value) (g.K.Sink.held sink.inner.now) (g.K.Sink.faults c.args.telling.now.inner.now)
    (g.K.Sink.faults new.passed.start.value)
    (g.K.Sink.faults sink.inner.now) new.passed.given.bytes new.failed sink.passed (ap (λ (q : Base). q.1.1.0) same ∙ ap (λ s. g.K.Sink.faults s) c.requires.start))
