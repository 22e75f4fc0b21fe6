use Rattle.std.proofs.Common.{arith}
use Rattle.fw_log_reports.proofs.Passings.{few_read}
use Rattle.fw_log_words.proofs.PageLaws.{one_entry}
use Rattle.fw_log_words.proofs.paging.PagingReading.take_raw.Goals as goal

pub returns-clause-history : goal.returns-clause-history
returns-clause-history c entries bytes h k =
    let x = c.go_past.ensures.history c.in-Some.next.body c.in-Some.ensures entries bytes h in
    let up = c.go_past.ensures.counts in
    let few = few_read entries x.entry _ c.go_past.new.self x.read (omega (arith, c.requires, up.total, up.within)) in
    let passed = c.in_ok-pass_body.ensures.passed entries x.entry x.cycle x.made few k.follows c.if-not-branch.false in
    let y = c.in_ok-put_body.ensures entries x.entry x.cycle x.made
    (record { objects = k.objects; explained = k.explained; requests = k.requests; passed = passed; watched = k.watched; watches = k.watches }) in
    record { entry = x.entry; read = x.read; took = y.1; gathered = one_entry c.args.self.now.text.items c.put_body.new.self.text.items entries x.entry y.0 }
