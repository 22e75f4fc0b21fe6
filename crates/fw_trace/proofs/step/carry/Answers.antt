use Rattle.fw_trace.proofs.Common.{◌≡◌, ◌++◌, ℕ, List, ap, subst, refl, ◌∙◌, [], Some, None, Grows, Grows-Grows, caused_text, Traced, last_lines, trace_text, Base}
use Rattle.std.specs.declared.option.Option.{Option as Maybe}
use Rattle.fw_trace_lines.specs.Commands.{ended}
use Rattle.fw_trace.proofs.StopLaws.{grown, grown_grows, stop_traced}
use Rattle.fw_trace.proofs.CarriedLaws.{framed_step}
use Rattle.fw_trace.proofs.Framings.{framed_grown}
use Rattle.fw_trace.proofs.OnLaws.{lack_none, passed_whole, carried_on, stop_writes, end_writes}
use Rattle.fw_trace.proofs.WholeLaws.{ended_on}
use Rattle.fw_trace.proofs.step.carry.Goals as goal

pub returns-in-Some-clause-reference : goal.returns-in-Some-clause-reference
returns-in-Some-clause-reference g c =
    let old = c.args.telling.now.teller.now in
    let sink = c.carry_on.new.sink in
    let new = sink.teller.now in
    let base : Base = (c.args.telling.now.inner.ghost_name, (g.K.Sink.held old.passed.start.value, (g.K.Sink.faults old.passed.start.value, (old.origin.value, old.earlier.value.bytes)))) in
    let base' : Base = (sink.inner.ghost_name, (g.K.Sink.held new.passed.start.value, (g.K.Sink.faults new.passed.start.value, (new.origin.value, new.earlier.value.bytes)))) in
    let u = c.requires.under_way in
    let (bytes, grew, there) = c.in-Some.ensures.goes u.left u.held u.after u.going in
    let same = (framed_grown base base' old.history.bytes new.history.bytes bytes grew).0 in
    ap (λ (q : Base). q.0) same

pub returns-in-Ok-clause-reference : goal.returns-in-Ok-clause-reference
returns-in-Ok-clause-reference g c =
    let old = c.args.telling.now.teller.now in
    let sink = c.carry_on.new.sink in
    let new = sink.teller.now in
    let base : Base = (c.args.telling.now.inner.ghost_name, (g.K.Sink.held old.passed.start.value, (g.K.Sink.faults old.passed.start.value, (old.origin.value, old.earlier.value.bytes)))) in
    let base' : Base = (sink.inner.ghost_name, (g.K.Sink.held new.passed.start.value, (g.K.Sink.faults new.passed.start.value, (new.origin.value, new.earlier.value.bytes)))) in
    let u = c.requires.under_way in
    let (bytes, grew, there) = c.in_default.ensures.goes u.left u.held u.after u.going in
    let same = (framed_grown base base' old.history.bytes new.history.bytes bytes grew).0 in
    c.in-Ok.ensures.reference ∙ ap (λ (q : Base). q.0) same

pub returns-in-Err-clause-reference : goal.returns-in-Err-clause-reference
returns-in-Err-clause-reference g c =
    let old = c.args.telling.now.teller.now in
    let sink = c.carry_on.new.sink in
    let new = sink.teller.now in
    let base : Base = (c.args.telling.now.inner.ghost_name, (g.K.Sink.held old.passed.start.value, (g.K.Sink.faults old.passed.start.value, (old.origin.value, old.earlier.value.bytes)))) in
    let base' : Base = (sink.inner.ghost_name, (g.K.Sink.held new.passed.start.value, (g.K.Sink.faults new.passed.start.value, (new.origin.value, new.earlier.value.bytes)))) in
    let u = c.requires.under_way in
    let (bytes, grew, there) = c.in_default.ensures.goes u.left u.held u.after u.going in
    let same = (framed_grown base base' old.history.bytes new.history.bytes bytes grew).0 in
    c.in-Err.ensures.reference ∙ ap (λ (q : Base). q.0) same

pub returns-in-Ok-clause-writes : goal.returns-in-Ok-clause-writes
returns-in-Ok-clause-writes g c =
    let old = c.args.telling.now.teller.now in
    let sink = c.carry_on.new.sink in
    let new = sink.teller.now in
    let base : Base = (c.args.telling.now.inner.ghost_name, (g.K.Sink.held old.passed.start.value, (g.K.Sink.faults old.passed.start.value, (old.origin.value, old.earlier.value.bytes)))) in
    let base' : Base = (sink.inner.ghost_name, (g.K.Sink.held new.passed.start.value, (g.K.Sink.faults new.passed.start.value, (new.origin.value, new.earlier.value.bytes)))) in
    let u = c.requires.under_way in
    let (bytes, grew, there) = c.in_default.ensures.goes u.left u.held u.after u.going in
    let same = (framed_grown base base' old.history.bytes new.history.bytes bytes grew).0 in
    let none : new.lack ≡ None = lack_none old.lack new.lack c.requires.lack c.in_default.ensures.writes in
    let passed = passed_whole new.lack new.passed.failed (g.K.Sink.held new.passed.start.value) (g.K.Sink.held sink.inner.now) (g.K.Sink.faults new.passed.start.value)
    (g.K.Sink.faults sink.inner.now) new.passed.given.bytes none new.failed sink.passed in
    c.in-Ok.ensures.passes.1 ∙ passed.1 ∙ ap (λ (q : Base). q.1.1.0) same

pub returns-in-Ok-clause-goes : goal.returns-in-Ok-clause-goes
returns-in-Ok-clause-goes g c = λ left held line b.
    let old = c.args.telling.now.teller.now in
    let sink = c.carry_on.new.sink in
    let new = sink.teller.now in
    let base : Base = (c.args.telling.now.inner.ghost_name, (g.K.Sink.held old.passed.start.value, (g.K.Sink.faults old.passed.start.value, (old.origin.value, old.earlier.value.bytes)))) in
    let base' : Base = (sink.inner.ghost_name, (g.K.Sink.held new.passed.start.value, (g.K.Sink.faults new.passed.start.value, (new.origin.value, new.earlier.value.bytes)))) in
    let steps = c.in_default.ensures.goes left (Some []) (Some b.after) b.going in
    let left' = g.S.Source.left c.carry_on.new.source in
    let f = framed_step b.going base base' old.history.bytes new.history.bytes left' c.carry_on.new.reader c.carry_on.new.bus None steps (c.requires.waits ∙ b.read) in
    let none : new.lack ≡ None = lack_none old.lack new.lack c.requires.lack c.in_default.ensures.writes in
    let passed = passed_whole new.lack new.passed.failed (g.K.Sink.held new.passed.start.value) (g.K.Sink.held sink.inner.now) (g.K.Sink.faults new.passed.start.value)
    (g.K.Sink.faults sink.inner.now) new.passed.given.bytes none new.failed sink.passed in
    let on = carried_on line b c.args.telling.now.inner.ghost_name sink.inner.ghost_name (g.K.Sink.faults old.passed.start.value) (g.K.Sink.faults new.passed.start.value)
    (g.K.Sink.held new.passed.start.value) new.origin.value new.earlier.value.bytes old.history.bytes new.history.bytes f new.lack new.tracer c.end.new.self.teller.now.tracer new.reader new.count
    new.passed.given.bytes (g.K.Sink.held sink.inner.now) (g.K.Sink.held c.end.new.self.inner.now) none new.tells passed.0 c.in-Ok.ensures.passes.0
    c.in-Ok.ensures.text c.in-Ok.ensures.kept in
    (rw c.in-Ok.ensures.history on.0, on.1)

pub returns-in-Err-clause-goes : goal.returns-in-Err-clause-goes
returns-in-Err-clause-goes g c = λ left held line b.
    let old = c.args.telling.now.teller.now in
    let sink = c.carry_on.new.sink in
    let new = sink.teller.now in
    let base : Base = (c.args.telling.now.inner.ghost_name, (g.K.Sink.held old.passed.start.value, (g.K.Sink.faults old.passed.start.value, (old.origin.value, old.earlier.value.bytes)))) in
    let base' : Base = (sink.inner.ghost_name, (g.K.Sink.held new.passed.start.value, (g.K.Sink.faults new.passed.start.value, (new.origin.value, new.earlier.value.bytes)))) in
    let steps = c.in_default.ensures.goes left (Some []) (Some b.after) b.going in
    let left' = g.S.Source.left c.carry_on.new.source in
    let f = framed_step b.going base base' old.history.bytes new.history.bytes left' c.carry_on.new.reader c.carry_on.new.bus None steps (c.requires.waits ∙ b.read) in
    let none : new.lack ≡ None = lack_none old.lack new.lack c.requires.lack c.in_default.ensures.writes in
    let passed = passed_whole new.lack new.passed.failed (g.K.Sink.held new.passed.start.value) (g.K.Sink.held sink.inner.now) (g.K.Sink.faults new.passed.start.value)
    (g.K.Sink.faults sink.inner.now) new.passed.given.bytes none new.failed sink.passed in
    let text = new.tracer.text ++ caused_text (last_lines new.tracer.telling) in
    let mid = g.K.Sink.held sink.inner.now in
    let end : Traced = record { text = []; telling = ended c.args.command.now c.args.place new.tracer.telling } in
    let on = carried_on line b c.args.telling.now.inner.ghost_name sink.inner.ghost_name (g.K.Sink.faults old.passed.start.value) (g.K.Sink.faults new.passed.start.value)
    (g.K.Sink.held new.passed.start.value) new.origin.value new.earlier.value.bytes old.history.bytes new.history.bytes f new.lack new.tracer end new.reader new.count
    new.passed.given.bytes mid (grown mid text) none new.tells passed.0 (grown_grows mid text) refl refl in
    let first = Grows-Grows held (g.K.Sink.held old.passed.start.value) mid (trace_text b.parts) new.passed.given.bytes b.told
    (subst (λ (o : Maybe (List ℕ)). Grows o mid new.passed.given.bytes) (ap (λ (q : Base). q.1.0) f.same) passed.0) in
    stop_traced mid (g.K.Sink.held c.end.new.self.inner.now) (trace_text b.parts ++ new.passed.given.bytes) text c.in-Err.lack (g.K.Sink.faults sink.inner.now)
    (g.K.Sink.faults c.end.new.self.inner.now) c.stopped.result on.0 first c.in-Err.ensures.passes c.stopped.ensures

pub returns-in-Err-clause-writes : goal.returns-in-Err-clause-writes
returns-in-Err-clause-writes g c =
    let old = c.args.telling.now.teller.now in
    let sink = c.carry_on.new.sink in
    let new = sink.teller.now in
    let base : Base = (c.args.telling.now.inner.ghost_name, (g.K.Sink.held old.passed.start.value, (g.K.Sink.faults old.passed.start.value, (old.origin.value, old.earlier.value.bytes)))) in
    let base' : Base = (sink.inner.ghost_name, (g.K.Sink.held new.passed.start.value, (g.K.Sink.faults new.passed.start.value, (new.origin.value, new.earlier.value.bytes)))) in
    let u = c.requires.under_way in
    let (bytes, grew, there) = c.in_default.ensures.goes u.left u.held u.after u.going in
    let same = (framed_grown base base' old.history.bytes new.history.bytes bytes grew).0 in
    let none : new.lack ≡ None = lack_none old.lack new.lack c.requires.lack c.in_default.ensures.writes in
    let passed = passed_whole new.lack new.passed.failed (g.K.Sink.held new.passed.start.value) (g.K.Sink.held sink.inner.now) (g.K.Sink.faults new.passed.start.value)
    (g.K.Sink.faults sink.inner.now) new.passed.given.bytes none new.failed sink.passed in
    stop_writes c.in-Err.lack c.stopped.result _ _ (g.K.Sink.faults old.passed.start.value) (g.K.Sink.faults sink.inner.now) (g.K.Sink.faults c.end.new.self.inner.now) _
    c.stopped.ensures c.in-Err.ensures.passes (passed.1 ∙ ap (λ (q : Base). q.1.1.0) same)

pub returns-in-Some-clause-writes : goal.returns-in-Some-clause-writes
returns-in-Some-clause-writes g c =
    let old = c.args.telling.now.teller.now in
    let sink = c.carry_on.new.sink in
    let new = sink.teller.now in
    let base : Base = (c.args.telling.now.inner.ghost_name, (g.K.Sink.held old.passed.start.value, (g.K.Sink.faults old.passed.start.value, (old.origin.value, old.earlier.value.bytes)))) in
    let base' : Base = (sink.inner.ghost_name, (g.K.Sink.held new.passed.start.value, (g.K.Sink.faults new.passed.start.value, (new.origin.value, new.earlier.value.bytes)))) in
    let u = c.requires.under_way in
    let (bytes, grew, there) = c.in-Some.ensures.goes u.left u.held u.after u.going in
    let same = (framed_grown base base' old.history.bytes new.history.bytes bytes grew).0 in
    rw c.ending_of.ensures
    (end_writes old.lack new.lack c.in-Some.ending new.passed.failed (g.K.Sink.held new.passed.start.value) (g.K.Sink.held sink.inner.now) (g.K.Sink.faults old.passed.start.value)
    (g.K.Sink.faults new.passed.start.value) (g.K.Sink.faults sink.inner.now) new.passed.given.bytes c.requires.lack new.failed sink.passed (ap (λ (q : Base). q.1.1.0) same) c.in-Some.ensures.writes)

pub returns-in-Some-clause-goes : goal.returns-in-Some-clause-goes
returns-in-Some-clause-goes g c = λ left held line b.
    let old = c.args.telling.now.teller.now in
    let sink = c.carry_on.new.sink in
    let new = sink.teller.now in
    let base : Base = (c.args.telling.now.inner.ghost_name, (g.K.Sink.held old.passed.start.value, (g.K.Sink.faults old.passed.start.value, (old.origin.value, old.earlier.value.bytes)))) in
    let base' : Base = (sink.inner.ghost_name, (g.K.Sink.held new.passed.start.value, (g.K.Sink.faults new.passed.start.value, (new.origin.value, new.earlier.value.bytes)))) in
    let steps = c.in-Some.ensures.goes left (Some []) (Some b.after) b.going in
    let left' = g.S.Source.left c.carry_on.new.source in
    let f = framed_step b.going base base' old.history.bytes new.history.bytes left' c.carry_on.new.reader c.carry_on.new.bus (Some c.in-Some.ending) steps (c.requires.waits ∙ b.read) in
    rw c.ending_of.ensures
    (ended_on line b c.args.telling.now.inner.ghost_name sink.inner.ghost_name (g.K.Sink.faults old.passed.start.value) (g.K.Sink.faults new.passed.start.value)
    (g.K.Sink.held new.passed.start.value) new.origin.value new.earlier.value.bytes old.history.bytes new.history.bytes c.in-Some.ending f c.requires.waits old.lack new.lack new.tracer new.reader
    new.count
    new.passed.given.bytes new.passed.failed (g.K.Sink.faults sink.inner.now) (g.K.Sink.held sink.inner.now) sink.passed c.requires.lack c.in-Some.ensures.writes new.failed new.tells)
