use Rattle.std.proofs.Common.{sym}
use Rattle.fw_watch_known.proofs.channels.Channels.late.Goals as goal

pub returns-then-not-may_be_late-clause-value : goal.returns-then-not-may_be_late-clause-value
returns-then-not-may_be_late-clause-value c = sym (c.may_be_late.ensures c.if-not-may_be_late.true)
