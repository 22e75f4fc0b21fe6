use Rattle.fw_bus_engine.proofs.Common.{◌∙◌, sym}
use Rattle.fw_bus_engine.proofs.OneAction.{does_entry}
use Rattle.fw_bus_engine.proofs.Settles.{busy_looks_back, unsettled_turns}
use Rattle.fw_bus_engine.proofs.steps.tell_unsettled.Goals as goal

pub returns-then-is_unsettled : goal.returns-then-is_unsettled
returns-then-is_unsettled g c =
    let busy = unsettled_turns c.args.machine.now (λ s good st. sym (c.is_unsettled.ensures s good st) ∙ c.if-is_unsettled.true) in
    record { does = busy_looks_back (does_entry busy (rw c.unsettled.ensures.value at c.emit.ensures)) }
