use Rattle.std.proofs.Common.{refl}
use Rattle.fw_log_reports.proofs.TreeLaws.{last_stays, no_reset_annotation}
use Rattle.fw_log_reports.proofs.last_reset.LastReset.take_annotation.Goals as goal

pub returns-clause-history : goal.returns-clause-history
returns-clause-history c entries bytes h k =
    let x = c.in_ok-annotation.ensures.history entries bytes h in
    record { entry = x.entry; read = x.read; took = last_stays entries x.entry c.args.self.now.there c.args.self.now.body.items (no_reset_annotation x.entry.what x.annotation) k; gathered = refl }
