-- A register that is shown is decided of the device that has the name, or that manages the bus.
use Rattle.std.proofs.Common.{◌≡◌, ℕ, true, false, Some, None, Err, sym, subst, ap, ◌∙◌, rules}
use Rattle.std.proofs.lemmas.Bool.{true≢false}
use Rattle.fw_csr.specs.declared.reply.Reply.{Reply}
use Rattle.fw_model_run.specs.Rules.{Decides}
use Rattle.fw_model_run.specs.Named.{IsShown}
use Rattle.fw_order.specs.declared.rule.RuleFault.TheVariants.{NoRegister}
use Rattle.fw_script_command.specs.declared.command.Command.TheVariants as Commands
use Rattle.fw_bus_state.specs.Stands.{is_linked_in, read_in}
use Rattle.fw_bus_rules.proofs.transactions.decide_show.Goals as goal
use Rattle.fw_bus_rules.proofs.transactions.decide_show.Goals.{in-None+in_ok-device-in-None, in-Some+in_ok-device-in-Some}
use Rattle.fw_bus_rules.proofs.TransactionRules.{show_no_manager, show_no_register, show_ordered}
use Rattle.fw_bus_state.proofs.Living.{linked_same}
use Rattle.fw_bus_rules.proofs.Shown.{is_not_read, is_read, no_manager, none_of, show_unlinked, shown_by_name, shown_by_none, some_of}

pub returns-in_err-device-in-None-clause-decided : goal.returns-in_err-device-in-None-clause-decided
returns-in_err-device-in-None-clause-decided c = λ s g st.
    let m = c.args.machine.now in
    let was = c.in_err-device-in-None.was in
    let none = none_of c.manager.result NoRegister c.in_err-device-in-None.field-0.0 (sym c.ok_or.ensures.value ∙ was) in
    let manager : m.devices.manager ≡ None = sym c.manager.ensures ∙ none.0 in
    let result : c.from_residual.result ≡ Err NoRegister = search rules in
    let decided = subst (λ name. Decides s (Commands.Show name c.args.offset) (Err NoRegister)) (sym c.in-None.is) (show_no_manager s c.args.offset (no_manager m s g st manager)) in
    subst (λ r. Decides s (Commands.Show c.args.name.now c.args.offset) r) (sym result) decided

pub returns-then-not-is_linked-clause-decided : goal.returns-then-not-is_linked-clause-decided
returns-then-not-is_linked-clause-decided c = λ s g st.
    let m = c.args.machine.now in
    let d : ℕ = c.match-name.device in
    let shown : IsShown s c.args.name.now d = elim c.match-name.branch [
      | in-None+in_ok-device-in-None w ↦
          let e = some_of w.manager.result NoRegister w.in_ok-device-in-None.device (sym w.ok_or.ensures.value ∙ w.in_ok-device-in-None.was) in
          shown_by_none m s c.args.name.now d st w.in-None.is (sym w.manager.ensures ∙ e ∙ ap Some (sym w.device-is))
      | in-Some+in_ok-device-in-Some w ↦ shown_by_name m s c.args.name.now _ d st w.in-Some.is (w.in_ok-device-in-Some.ensures.device ∙ ap Some (sym w.device-is))
    ] in
    let off : is_linked_in m.devices d ≡ false = cc in
    show_unlinked s c.args.name.now c.args.offset d g shown (sym (linked_same m.devices s d g st.devices) ∙ off)

pub returns-then-not-is_complete-clause-decided : goal.returns-then-not-is_complete-clause-decided
returns-then-not-is_complete-clause-decided c = λ s g st.
    let m = c.args.machine.now in
    let d : ℕ = c.match-name.device in
    let shown : IsShown s c.args.name.now d = elim c.match-name.branch [
      | in-None+in_ok-device-in-None w ↦
          let e = some_of w.manager.result NoRegister w.in_ok-device-in-None.device (sym w.ok_or.ensures.value ∙ w.in_ok-device-in-None.was) in
          shown_by_none m s c.args.name.now d st w.in-None.is (sym w.manager.ensures ∙ e ∙ ap Some (sym w.device-is))
      | in-Some+in_ok-device-in-Some w ↦ shown_by_name m s c.args.name.now _ d st w.in-Some.is (w.in_ok-device-in-Some.ensures.device ∙ ap Some (sym w.device-is))
    ] in
    let on : is_linked_in m.devices d ≡ true = cc in
    let linked = sym (linked_same m.devices s d g st.devices) ∙ on in
    let unread : (read_in m d c.args.offset).rcode ≡ 0 → ⊥ = λ is. true≢false (sym (c.is_complete.ensures.1 (ap (λ (r : Reply). r.rcode) c.read.ensures ∙ is)) ∙ c.if-not-is_complete.true) in
    show_no_register s c.args.name.now c.args.offset d shown linked (is_not_read m s d c.args.offset g st linked unread)

pub returns-clause-decided : goal.returns-clause-decided
returns-clause-decided c = λ s g st.
    let m = c.args.machine.now in
    let d : ℕ = c.match-name.device in
    let shown : IsShown s c.args.name.now d = elim c.match-name.branch [
      | in-None+in_ok-device-in-None w ↦
          let e = some_of w.manager.result NoRegister w.in_ok-device-in-None.device (sym w.ok_or.ensures.value ∙ w.in_ok-device-in-None.was) in
          shown_by_none m s c.args.name.now d st w.in-None.is (sym w.manager.ensures ∙ e ∙ ap Some (sym w.device-is))
      | in-Some+in_ok-device-in-Some w ↦ shown_by_name m s c.args.name.now _ d st w.in-Some.is (w.in_ok-device-in-Some.ensures.device ∙ ap Some (sym w.device-is))
    ] in
    let on : is_linked_in m.devices d ≡ true = cc in
    let linked = sym (linked_same m.devices s d g st.devices) ∙ on in
    let read : (read_in m d c.args.offset).rcode ≡ 0 = search rules in
    show_ordered s c.args.name.now c.args.offset d shown linked (is_read m s d c.args.offset g st linked read)
