use Rattle.std.proofs.Common.{Some}
use Rattle.fw_audit.proofs.Verdicts.{shown_verdict}
use Rattle.fw_audit.proofs.audit.take_entry.Goals as goal

pub returns-in-Some : goal.returns-in-Some
returns-in-Some c = λ l h. rw c.in-Shown.is (shown_verdict l c.in-Shown.shown (Some c.in-Some.fault) h.sound (c.in-Some.ensures l h))
