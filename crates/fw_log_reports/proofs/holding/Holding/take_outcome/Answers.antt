use Rattle.std.proofs.Common.{arith}
use Rattle.fw_log_reports.proofs.PassedAudits.{outcome_judged}
use Rattle.fw_log_reports.proofs.PassedHoldings.{outcome_taken}
use Rattle.fw_log_reports.proofs.Passings.{few_read}
use Rattle.fw_log_reports.proofs.holding.Holding.take_outcome.Goals as goal

pub returns-clause-history : goal.returns-clause-history
returns-clause-history c entries bytes h k =
    let x = c.in_ok-annotation.ensures.history entries bytes h in
    let up = c.in_ok-annotation.ensures.counts in
    let few = few_read entries x.entry _ c.pass_annotation.new.self x.read (omega (arith, c.requires, up.total, up.within)) in
    let counts = c.take.ensures entries x.entry few (outcome_judged x.entry.what x.is.kind) k.tally in
    let y = outcome_taken c.args.self.now c.take.new.self entries x.entry few k x.is.kind counts in
    record { entry = x.entry; read = x.read; took = y.takes; gathered = y.text }
