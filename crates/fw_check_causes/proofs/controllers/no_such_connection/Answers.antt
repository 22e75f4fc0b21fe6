use Rattle.std.proofs.Common.{Bool, Some, ap, sym, ◌∙◌}
use Rattle.fw_script_command.specs.declared.command.Command.{Command}
use Rattle.fw_cmp.specs.Controllers.{slot_at, break_waits}
use Rattle.fw_cmp.specs.Losses.{Listening}
use Rattle.fw_cmp_jobs.specs.declared.connection.Slot.{Slot}
use Rattle.fw_check.specs.declared.why.SlotState.{SlotState}
use Rattle.fw_check.specs.declared.why.Why.TheVariants.{NoSuchConnection}
use Rattle.fw_check_causes.specs.Causes.{no_such_connection, slot_state}
use Rattle.fw_check_causes.proofs.Seen.{of_some, slot_same, waits_same}
use Rattle.fw_check_causes.proofs.controllers.no_such_connection.Goals as goal

pub returns-in_ok-device-in-Break : goal.returns-in_ok-device-in-Break
returns-in_ok-device-in-Break c = λ s g st.
    let d = c.in_ok-device-in-Break.device in
    let i = c.in-Break.slot in
    let held = c.slot.ensures ∙ ap (λ (x : Listening). slot_at x.state i) c.get-controller.ensures ∙ slot_same c.args.machine.now s d i st in
    let waits = c.break_waits.ensures ∙ ap (λ (x : Listening). break_waits x.state i) c.get-controller.ensures ∙ waits_same c.args.machine.now s d i st in
    let state = c.slot_state-state.ensures ∙ ap (λ (x : Slot). slot_state x c.break_waits.result) held ∙ ap (λ (b : Bool). slot_state (slot_at (s.controllers d) i) b) waits in
    ap (λ (x : SlotState). Some (NoSuchConnection i x)) state
    ∙ sym (of_some c.args.machine.now s c.in-Break.name d (λ d. Some (NoSuchConnection i (slot_state (slot_at (s.controllers d) i) (break_waits (s.controllers d) i)))) st
    (sym c.in_ok-device-in-Break.ensures.value))
    ∙ ap (λ (x : Command). no_such_connection s x) (sym c.in-Break.is)
