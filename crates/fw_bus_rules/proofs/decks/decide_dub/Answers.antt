use Rattle.std.proofs.Common.{◌≡◌, true, false}
use Rattle.std.proofs.lemmas.Result.{err_from_is_err_and}
use Rattle.fw_devices.specs.Network.{is_node}
use Rattle.fw_bus_rules.proofs.DeckRules.{dub_off, dub_ordered, dub_refused}
use Rattle.fw_bus_rules.proofs.decks.decide_dub.Goals as goal

pub returns-in_err-device-clause-decided : goal.returns-in_err-device-clause-decided
returns-in_err-device-clause-decided c = λ s g st.
    let p = err_from_is_err_and c.from_residual.result c.from_residual.ensures.1 in
    rw (p.1, p.2) (dub_refused c.args.machine.now s c.args.name.now _ st c.in_err-device.ensures)

pub returns-then-not-is_on-clause-decided : goal.returns-then-not-is_on-clause-decided
returns-then-not-is_on-clause-decided c = λ s g st.
    let off : is_node c.args.machine.now.devices.nodes c.in_ok-device.device ≡ false = cc in
    dub_off c.args.machine.now s c.args.name.now c.in_ok-device.device g st c.in_ok-device.ensures off

pub returns-clause-decided : goal.returns-clause-decided
returns-clause-decided c = λ s g st.
    let on : is_node c.args.machine.now.devices.nodes c.in_ok-device.device ≡ true = cc in
    dub_ordered c.args.machine.now s c.args.name.now c.in_ok-device.device g st c.in_ok-device.ensures on
