use Rattle.fw_model_account.specs.Fold.{entries_of}
use Rattle.fw_log_reports.proofs.Audits.{flawed, unflawed}
use Rattle.fw_log_reports.proofs.verdict.Verdict.judge.Goals as goal

pub returns-in-Some : goal.returns-in-Some
returns-in-Some c entries few h =
    let x = c.in_ok-fault.ensures.found (entries_of entries) h.sound h.found in
    flawed c.args.self.now c.take-2.new.self c.take.new.self entries c.args.entry.now c.in_ok-fault.field-0 c.in-Some.fault h x.1 c.in-Some.is
    (c.take.ensures entries c.args.entry.now few c.is_unjudged.ensures h.tally)

pub returns-in-None : goal.returns-in-None
returns-in-None c entries few h =
    let x = c.in_ok-fault.ensures.found (entries_of entries) h.sound h.found in
    unflawed c.args.self.now c.take-2.new.self c.take.new.self entries c.args.entry.now c.in_ok-fault.field-0 h x.0 x.1 c.in-None.is
    (c.take.ensures entries c.args.entry.now few c.is_unjudged.ensures h.tally)
