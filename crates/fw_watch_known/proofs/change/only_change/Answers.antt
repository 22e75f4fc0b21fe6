use Rattle.fw_watch_known.proofs.ChangeLaws.{differ_at}
use Rattle.fw_watch_known.proofs.change.only_change.Goals as goal

pub returns-then-differing-at : goal.returns-then-differing-at
returns-then-differing-at c = differ_at c.args.old c.args.new _ c.if-at-lt32.true c.if-differing-at.true
