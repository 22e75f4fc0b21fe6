use Rattle.fw_log_reports.proofs.holding.Holding.table.Goals as goal

pub returns : goal.returns
returns c = λ entries h. c.table.ensures entries h.holds h.tally.locks
