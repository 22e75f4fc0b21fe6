use Rattle.fw_trace.proofs.Common.{ap, sym, ◌∙◌, fails_by}
use Rattle.fw_trace.proofs.TellingLaws.{tells_marked}
use Rattle.fw_trace.proofs.telling.Teller.end.Goals as goal

pub invariant_of-self : goal.invariant_of-self
invariant_of-self g c = record {
  failed = c.mark.ensures.failed ∙ sym (ap fails_by c.requires.lack);
  counted = c.args.self.now.counted;
  tells = tells_marked c.args.self.now.lack c.args.self.now.origin.value c.args.self.now.tracer c.mark.new.origin.value c.end-added.new.self
      c.args.self.now.reader c.args.self.now.count c.args.self.now.earlier.value.bytes c.args.self.now.history.bytes c.args.self.now.passed.given.bytes
      c.mark.new.earlier.value.bytes c.mark.new.passed.given.bytes c.requires.lack c.args.self.now.tells c.mark.ensures.origin c.mark.ensures.earlier c.mark.ensures.given;
}
