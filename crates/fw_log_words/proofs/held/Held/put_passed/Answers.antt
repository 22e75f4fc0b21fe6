use Rattle.std.proofs.Common.{refl}
use Rattle.fw_log_words.proofs.HeldLaws.{passed_put}
use Rattle.fw_log_words.proofs.held.Held.put_passed.Goals as goal

pub returns : goal.returns
returns c = λ entries t p.
    passed_put c.put_lines.result c.args.self.now _ c.args.text.now.items c.put_lines.new.text.items entries t p refl c.put_lines.ensures.text c.put_lines.ensures.empty c.put_lines.ensures.took
