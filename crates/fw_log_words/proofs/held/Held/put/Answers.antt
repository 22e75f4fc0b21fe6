use Rattle.fw_log_words.proofs.HeldLaws.{stays_off}
use Rattle.fw_log_words.proofs.held.Held.put.Goals as goal

pub returns-then-self : goal.returns-then-self
returns-then-self c = λ entries few f. stays_off c.args.self.now c.args.text.now.items entries c.args.entry.now f c.if-self.true
