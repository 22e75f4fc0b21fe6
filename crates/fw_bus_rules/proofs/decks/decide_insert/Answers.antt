use Rattle.std.proofs.lemmas.Result.{err_from_is_err_and}
use Rattle.fw_bus_rules.proofs.DeckRules.{insert_ordered, insert_refused}
use Rattle.fw_bus_rules.proofs.decks.decide_insert.Goals as goal

pub returns-in_err-device-clause-decided : goal.returns-in_err-device-clause-decided
returns-in_err-device-clause-decided c = λ s g st.
    let p = err_from_is_err_and c.from_residual.result c.from_residual.ensures.1 in
    rw (p.1, p.2) (insert_refused c.args.machine.now s c.args.name.now c.args.tape c.args.lines _ st c.in_err-device.ensures)

pub returns-clause-decided : goal.returns-clause-decided
returns-clause-decided c = λ s g st. rw c.system_with.ensures (insert_ordered c.args.machine.now s c.args.name.now c.args.tape c.args.lines c.in_ok-device.device st c.in_ok-device.ensures)
