-- A transaction is decided of the devices that have the names.
use Rattle.std.proofs.Common.{◌≡◌, true, false, sym, subst, ◌∙◌, IsTrue, IsFalse}
use Rattle.fw_bus_state.specs.Orders.{is_guarded_by}
use Rattle.fw_bus_state.specs.Stands.{is_linked_in, is_living_in}
use Rattle.fw_bus_rules.proofs.transactions.decide_transaction.Goals as goal
use Rattle.fw_bus_rules.proofs.ConnectionRules.{is_named}
use Rattle.fw_bus_rules.proofs.TransactionRules.{transaction_dead, transaction_guarded, transaction_off, transaction_ordered}
use Rattle.fw_bus_state.proofs.Living.{linked_same, living_same}

pub returns-then-not-is_living-clause-decided : goal.returns-then-not-is_living-clause-decided
returns-then-not-is_living-clause-decided c = λ s g st.
    let m = c.args.machine.now in
    let d = c.in_ok-from.from in
    let e = c.in_ok-to.to in
    let dead : is_living_in m d ≡ false = cc in
    transaction_dead s c.args.from.now c.args.to.now c.args.access d e (is_named m s _ d st c.in_ok-from.ensures.device) (is_named m s _ e st c.in_ok-to.ensures.device)
    (sym (living_same m s d g st) ∙ dead)

pub returns-then-not-is_linked-clause-decided : goal.returns-then-not-is_linked-clause-decided
returns-then-not-is_linked-clause-decided c = λ s g st.
    let m = c.args.machine.now in
    let d = c.in_ok-from.from in
    let e = c.in_ok-to.to in
    let living : is_living_in m d ≡ true = cc in
    let off : is_linked_in m.devices e ≡ false = cc in
    transaction_off s c.args.from.now c.args.to.now c.args.access d e (is_named m s _ d st c.in_ok-from.ensures.device) (is_named m s _ e st c.in_ok-to.ensures.device)
    (sym (living_same m s d g st) ∙ living) (sym (linked_same m.devices s e g st.devices) ∙ off)

pub returns-then-guards-clause-decided : goal.returns-then-guards-clause-decided
returns-then-guards-clause-decided c = λ s g st.
    let m = c.args.machine.now in
    let d = c.in_ok-from.from in
    let e = c.in_ok-to.to in
    let living : is_living_in m d ≡ true = cc in
    let linked : is_linked_in m.devices e ≡ true = cc in
    let guarded : is_guarded_by m.candidates.begun c.args.access ≡ true = cc in
    transaction_guarded s c.args.from.now c.args.to.now c.args.access d e (is_named m s _ d st c.in_ok-from.ensures.device) (is_named m s _ e st c.in_ok-to.ensures.device)
    (sym (living_same m s d g st) ∙ living) (sym (linked_same m.devices s e g st.devices) ∙ linked)
    (subst (λ b. IsTrue (is_guarded_by b c.args.access)) st.election.begun guarded)

pub returns-clause-decided : goal.returns-clause-decided
returns-clause-decided c = λ s g st.
    let m = c.args.machine.now in
    let d = c.in_ok-from.from in
    let e = c.in_ok-to.to in
    let living : is_living_in m d ≡ true = cc in
    let linked : is_linked_in m.devices e ≡ true = cc in
    let free : is_guarded_by m.candidates.begun c.args.access ≡ false = cc in
    transaction_ordered s c.args.from.now c.args.to.now c.args.access d e (is_named m s _ d st c.in_ok-from.ensures.device) (is_named m s _ e st c.in_ok-to.ensures.device)
    (sym (living_same m s d g st) ∙ living) (sym (linked_same m.devices s e g st.devices) ∙ linked)
    (subst (λ b. IsFalse (is_guarded_by b c.args.access)) st.election.begun free)
