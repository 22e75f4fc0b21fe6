use Rattle.fw_trace.proofs.step.carry_on.Goals as goal

pub returns-in-Some-clause-reads : goal.returns-in-Some-clause-reads
returns-in-Some-clause-reads g c = c.carry_known.ensures.reads (g.S.Source.faults c.args.source.now)
