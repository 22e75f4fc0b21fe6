use Rattle.std.proofs.lemmas.Result.{err_from_is_err_and}
use Rattle.fw_bus_rules.proofs.DeckRules.{eject_ordered, eject_refused}
use Rattle.fw_bus_rules.proofs.decks.decide_eject.Goals as goal

pub returns-in_err-device-clause-decided : goal.returns-in_err-device-clause-decided
returns-in_err-device-clause-decided c = λ s g st.
    let p = err_from_is_err_and c.from_residual.result c.from_residual.ensures.1 in
    rw (p.1, p.2) (eject_refused c.args.machine.now s c.args.name.now _ st c.in_err-device.ensures)

pub returns-clause-decided : goal.returns-clause-decided
returns-clause-decided c = λ s g st. eject_ordered c.args.machine.now s c.args.name.now c.in_ok-device.device st c.in_ok-device.ensures
