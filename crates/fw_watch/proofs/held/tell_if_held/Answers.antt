use Rattle.std.proofs.Common.{ap, sym}
use Rattle.fw_watch_remarks.specs.Remarks.{told}
use Rattle.fw_watch.proofs.HeldLaws.{none_held, none_after}
use Rattle.fw_watch.proofs.held.tell_if_held.Goals as goal

pub returns-then-not-may_be_late-clause-lines : goal.returns-then-not-may_be_late-clause-lines
returns-then-not-may_be_late-clause-lines c = sym (ap (told c.args.journal.now) (none_held 64 c.args.cycle c.args.state.now (c.may_be_late.ensures c.if-not-may_be_late.true)))

pub returns-then-not-may_be_late-clause-known : goal.returns-then-not-may_be_late-clause-known
returns-then-not-may_be_late-clause-known c = sym (none_after 64 c.args.cycle c.args.state.now (c.may_be_late.ensures c.if-not-may_be_late.true))
