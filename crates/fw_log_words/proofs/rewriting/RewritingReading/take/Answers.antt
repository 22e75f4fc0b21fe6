use Rattle.fw_log_words.proofs.Rewritings.{rewritten}
use Rattle.fw_log_words.proofs.rewriting.RewritingReading.take.Goals as goal

pub returns-clause-took : goal.returns-clause-took
returns-clause-took c entries few took = rewritten c.args.self.now c.put.new.self entries c.args.entry.now took c.in_ok-put.ensures.epoch c.in_ok-put.ensures.bytes
