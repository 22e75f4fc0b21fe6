use Rattle.std.proofs.Common.{refl}
use Rattle.fw_log_reports.proofs.WholePassings.{watched_passes}
use Rattle.fw_log_reports.proofs.watching.WatchingReading.take_raw.Goals as goal

pub put-requires : goal.put-requires
put-requires c = c.in-Some.ensures.body

pub returns-clause-history : goal.returns-clause-history
returns-clause-history c entries bytes h t =
    let x = c.in-Some.ensures.history entries bytes h in
    watched_passes c.args.self.now.watch c.put.new.self.watch entries _ c.pass_body.new.self c.in-Some.passed x x.entry.what refl
    (c.in_ok-put.ensures.lines x.entry.what x.made entries t) (c.in_ok-put.ensures.following x.entry.what x.made entries t)
