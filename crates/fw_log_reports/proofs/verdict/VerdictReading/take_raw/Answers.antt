use Rattle.std.proofs.Common.{refl, arith}
use Rattle.fw_log_reports.proofs.Passings.{few_read}
use Rattle.fw_log_reports.proofs.verdict.VerdictReading.take_raw.Goals as goal

pub pass_body-requires : goal.pass_body-requires
pass_body-requires c = (c.in-Some.ensures.next.entry.what, c.in-Some.ensures.next.made)

pub go_past-requires-clause-next : goal.go_past-requires-clause-next
go_past-requires-clause-next c = (c.in-Some.next.body, c.in-Some.ensures)

pub returns-clause-history : goal.returns-clause-history
returns-clause-history c entries bytes h a =
    let x = c.go_past.ensures.history c.in-Some.next.body c.in-Some.ensures entries bytes h in
    let up = c.go_past.ensures.counts in
    let few = few_read entries x.entry _ c.go_past.new.self x.read (omega (arith, c.requires, up.total, up.within)) in
    record { entry = x.entry; read = x.read; took = c.pass_body.ensures.passed c.if-not-pass_body.false entries x.entry x.made few a; gathered = refl }
