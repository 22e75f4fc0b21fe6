use Rattle.fw_trace.proofs.Common.{◌≡◌, ◌<◌, length, None, sym, ◌∙◌, [], append-nil}
use Rattle.fw_trace.proofs.TellingLaws.{none_lacks, some_length, tells_after}
use Rattle.fw_trace.proofs.telling.Teller.write.Goals as goal

pub invariant_of-self : goal.invariant_of-self
invariant_of-self g c =
    let old = c.args.self.now in
    let none : old.lack ≡ None = none_lacks old.lack (sym c.is_some.ensures ∙ c.if-is_some.false) in
    let some : 0 < length c.args.piece.now = some_length (length c.args.piece.now) (sym c.is_empty.ensures ∙ c.if-is_empty.false) in
    record {
      failed = c.tell-self.ensures.failed;
      counted = c.tell-self.ensures.counted;
      tells = tells_after old.lack c.tell-self.result old.origin.value old.tracer c.tell-self.new.tracer old.reader c.tell-self.new.reader old.count c.tell-self.new.count
          old.earlier.value.bytes old.history.bytes c.and-self.result.bytes old.passed.given.bytes c.tell-self.new.passed.given.bytes c.args.piece.now none old.tells
          (c.tell-self.ensures.tells _ _ _ some) c.and-self.ensures;
    }

pub returns-in-Some-clause-bytes : goal.returns-in-Some-clause-bytes
returns-in-Some-clause-bytes g c = record { prefix = c.args.piece.now; rest = []; parts = sym (append-nil c.args.piece.now); appended = c.and-self.ensures }
