use Rattle.fw_trace.proofs.Common.{ap, sym, ◌∙◌, fails_by}
use Rattle.fw_trace.proofs.TellingLaws.{tells_marked, told_marked}
use Rattle.fw_trace.proofs.telling.Teller.tell_on.Goals as goal

pub invariant_of-self : goal.invariant_of-self
invariant_of-self g c = record {
  failed = c.in_default.ensures.stopped;
  counted = λ e. absurd cc;
  tells = told_marked c.args.self.now.lack c.args.self.now.origin.value c.args.self.now.tracer c.mark.new.origin.value c.args.self.now.tracer
      c.args.self.now.reader c.args.self.now.count c.args.self.now.earlier.value.bytes c.args.self.now.history.bytes c.args.self.now.passed.given.bytes
      c.mark.new.earlier.value.bytes c.mark.new.passed.given.bytes c.pass_on.new.passed.given.bytes c.requires.lack c.args.self.now.tells
      c.mark.ensures.origin c.mark.ensures.earlier c.mark.ensures.given c.pass_on.ensures.given;
}

pub invariant_of-self-2 : goal.invariant_of-self-2
invariant_of-self-2 g c = record {
  failed = c.new.ensures.failed ∙ sym (ap fails_by c.requires.lack);
  counted = c.args.self.now.counted;
  tells = tells_marked c.args.self.now.lack c.args.self.now.origin.value c.args.self.now.tracer c.of.result.value c.pass_on.new.tracer
      c.args.self.now.reader c.args.self.now.count c.args.self.now.earlier.value.bytes c.args.self.now.history.bytes c.args.self.now.passed.given.bytes
      c.mark.new.earlier.value.bytes c.new.result.given.bytes c.requires.lack c.args.self.now.tells c.of.ensures c.mark.ensures.earlier c.new.ensures.given;
}
