use Rattle.std.proofs.Common.{arith, refl}
use Rattle.fw_log_reports.proofs.PassedAudits.{outcome_judged, outcome_passed, passed_audits}
use Rattle.fw_log_reports.proofs.Passings.{few_read}
use Rattle.fw_log_reports.proofs.verdict.Verdict.take_outcome.Goals as goal

pub returns-clause-history : goal.returns-clause-history
returns-clause-history c entries bytes h a =
    let x = c.in_ok-annotation.ensures.history entries bytes h in
    let up = c.in_ok-annotation.ensures.counts in
    let few = few_read entries x.entry _ c.pass_annotation.new.self x.read (omega (arith, c.requires, up.total, up.within)) in
    let counts = c.take.ensures entries x.entry few (outcome_judged x.entry.what x.is.kind) a.tally in
    record { entry = x.entry; read = x.read; took = passed_audits c.args.self.now c.take.new.self entries x.entry a (outcome_passed x.entry.what x.is.kind) counts; gathered = refl }
