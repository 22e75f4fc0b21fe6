use Rattle.fw_bus_engine.proofs.Common.{inl, inr, length}
use Rattle.fw_bus_engine.proofs.Calm.{calm_from}
use Rattle.fw_bus_engine.proofs.rounds.round_end.Goals as goal

pub returns-then-has_deaf-clause-ends : goal.returns-then-has_deaf-clause-ends
returns-then-has_deaf-clause-ends c = inl c.count.ensures.value

pub returns-else-has_deaf-clause-ends : goal.returns-else-has_deaf-clause-ends
returns-else-has_deaf-clause-ends c =
    inr (c.has_deaf.ensures c.if-has_deaf.false, calm_from c.args.end c.busy_end.result (length c.args.machine.now.devices.names) c.args.machine.now c.busy_end.ensures.calm c.requires.rest)
