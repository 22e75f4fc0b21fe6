use Rattle.fw_log_reports.proofs.holding.pass_reset.Goals as goal

pub read_bus-requires : goal.read_bus-requires
read_bus-requires c = let r = c.requires in (r.reset, r.fits, r.same)

pub pass_reset-requires : goal.pass_reset-requires
pass_reset-requires c = let r = c.requires in record { bus = (r.reset, r.fits, c.read_bus.ensures r.reset r.fits r.same) }

pub returns-clause-passed : goal.returns-clause-passed
returns-clause-passed c = λ entries t r at what fits same few h. c.pass_reset.ensures.passed entries t r at what fits (c.read_bus.ensures r fits same) few h
