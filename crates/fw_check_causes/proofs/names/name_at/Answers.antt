use Rattle.std.proofs.Common.{List, ℕ, ◌≤◌, length, ap, sym, ◌∙◌, Some, arith}
use Rattle.fw_check_causes.proofs.Seen.{name_gone, name_there}
use Rattle.fw_check_causes.proofs.names.name_at.Goals as goal

pub returns-then-device-count : goal.returns-then-device-count
returns-then-device-count c = λ s g st.
    ap (λ (name : List ℕ). Some name) c.name.ensures ∙ sym (name_there c.args.machine.now s c.args.device st (omega arith))

pub returns-else-device-count : goal.returns-else-device-count
returns-else-device-count c = λ s g st.
    let past : length c.args.machine.now.devices.names ≤ c.args.device = omega arith in
    sym (name_gone c.args.machine.now s c.args.device st past)
