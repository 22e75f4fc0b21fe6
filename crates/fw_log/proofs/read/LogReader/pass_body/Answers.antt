use Rattle.fw_log.proofs.Common.{refl}
use Rattle.fw_log.proofs.FeedLaws.{if_none_by}
use Rattle.fw_log.proofs.read.LogReader.pass_body.Goals as goal

pub go_past-used-requires-clause-room : goal.go_past-used-requires-clause-room
go_past-used-requires-clause-room c = c.requires c.in_ok-passed.ensures.clear

pub go_past-used-requires-clause-next : goal.go_past-used-requires-clause-next
go_past-used-requires-clause-next c = (c.in_ok-passed.field-0.body, c.in_ok-passed.ensures)

pub returns-clause-body : goal.returns-clause-body
returns-clause-body c = (c.in_ok-passed.ensures.next.entry.what, c.in_ok-passed.ensures.next.made)

pub returns-clause-history : goal.returns-clause-history
returns-clause-history c = λ entries bytes h. c.go_past-used.ensures.history c.in_ok-passed.field-0.body c.in_ok-passed.ensures entries bytes h

pub returns-in_err-passed-clause-kept : goal.returns-in_err-passed-clause-kept
returns-in_err-passed-clause-kept c = if_none_by c.from_residual.result _ refl
