use Rattle.std.proofs.Common.{sym, ◌∙◌, arith}
use Rattle.fw_watch_known.proofs.ChangeLaws.{dues_only}
use Rattle.fw_watch_known.proofs.channels.Channels.set_dues.Goals as goal

pub returns-in-Some : goal.returns-in-Some
returns-in-Some c =
    c.set_one_due.ensures ∙ sym (dues_only 32 c.args.first c.args.old c.args.new c.in-Some.at c.args.due c.args.plugs.now c.args.self.now c.in-Some.ensures c.in-Some.ensures.within (omega arith))
