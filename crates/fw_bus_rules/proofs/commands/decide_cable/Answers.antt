-- A cable is decided of the ends that have the names.
use Rattle.std.proofs.Common.{◌≡◌, ◌&&◌, nat_le, true, IsFalse, refl, sym, subst, ◌∙◌, rules, arith}
use Rattle.fw_tree.specs.declared.facts.End.{End}
use Rattle.fw_tree.specs.declared.TreeFault.TheVariants as Tree
use Rattle.fw_tree.specs.Topology.{IsFault}
use Rattle.fw_bus_state.specs.Orders.{joins_in}
use Rattle.fw_bus_rules.proofs.commands.decide_cable.Goals as goal
use Rattle.fw_bus_rules.proofs.ConnectionRules.{is_named}
use Rattle.fw_bus_rules.proofs.FirstBroken.{cable_at_limit, cable_ordered, cable_refused}
use Rattle.fw_bus_rules.proofs.Shown.{fault_back, fault_same, few_resets, joins_same}
use Rattle.fw_order.specs.declared.limits.TheConstants.{MOST_RESETS}

pub returns-in-Err-NoPort-clause-decided : goal.returns-in-Err-NoPort-clause-decided
returns-in-Err-NoPort-clause-decided c = λ s g st.
    let m = c.args.machine.now in
    let a = c.args.a.now in
    let b = c.args.b.now in
    let x : End = record { device = c.in_ok-known.field-0; port = a.1 } in
    let y : End = record { device = c.in_ok-known-2.field-0; port = b.1 } in
    let fault : IsFault m.devices.topology x y Tree.NoPort = subst (λ f. IsFault m.devices.topology x y f) c.in-Err-NoPort.field-0-is c.in-Err-NoPort.ensures.refused in
    cable_refused s a b x y (is_named m s a.0 x.device st c.in_ok-known.ensures.device, refl) (is_named m s b.0 y.device st c.in_ok-known-2.ensures.device, refl) Tree.NoPort
    (fault_same m s x y Tree.NoPort st fault)

pub returns-in-Err-PortUsed-clause-decided : goal.returns-in-Err-PortUsed-clause-decided
returns-in-Err-PortUsed-clause-decided c = λ s g st.
    let m = c.args.machine.now in
    let a = c.args.a.now in
    let b = c.args.b.now in
    let x : End = record { device = c.in_ok-known.field-0; port = a.1 } in
    let y : End = record { device = c.in_ok-known-2.field-0; port = b.1 } in
    let fault : IsFault m.devices.topology x y Tree.PortUsed = subst (λ f. IsFault m.devices.topology x y f) c.in-Err-PortUsed.field-0-is c.in-Err-PortUsed.ensures.refused in
    cable_refused s a b x y (is_named m s a.0 x.device st c.in_ok-known.ensures.device, refl) (is_named m s b.0 y.device st c.in_ok-known-2.ensures.device, refl) Tree.PortUsed
    (fault_same m s x y Tree.PortUsed st fault)

pub returns-in-Err-Loop-clause-decided : goal.returns-in-Err-Loop-clause-decided
returns-in-Err-Loop-clause-decided c = λ s g st.
    let m = c.args.machine.now in
    let a = c.args.a.now in
    let b = c.args.b.now in
    let x : End = record { device = c.in_ok-known.field-0; port = a.1 } in
    let y : End = record { device = c.in_ok-known-2.field-0; port = b.1 } in
    let fault : IsFault m.devices.topology x y Tree.Loop = subst (λ f. IsFault m.devices.topology x y f) c.in-Err-Loop.field-0-is c.in-Err-Loop.ensures.refused in
    cable_refused s a b x y (is_named m s a.0 x.device st c.in_ok-known.ensures.device, refl) (is_named m s b.0 y.device st c.in_ok-known-2.ensures.device, refl) Tree.Loop
    (fault_same m s x y Tree.Loop st fault)

pub returns-then-has_most_resets-clause-decided : goal.returns-then-has_most_resets-clause-decided
returns-then-has_most_resets-clause-decided c = λ s g st.
    let m = c.args.machine.now in
    let a = c.args.a.now in
    let b = c.args.b.now in
    let x : End = record { device = c.in_ok-known.field-0; port = a.1 } in
    let y : End = record { device = c.in_ok-known-2.field-0; port = b.1 } in
    let joins : joins_in m x y ≡ true = search rules in
    let most : nat_le MOST_RESETS m.resets ≡ true = search rules in
    cable_at_limit s a b x y (is_named m s a.0 x.device st c.in_ok-known.ensures.device, refl) (is_named m s b.0 y.device st c.in_ok-known-2.ensures.device, refl)
    (λ f h. c.in-Ok.ensures.free f (fault_back m s x y f st h)) (let resets = st.clock.resets in grind arith) (sym (joins_same m s x y g st) ∙ joins)

pub returns-else-begins_reset-clause-decided : goal.returns-else-begins_reset-clause-decided
returns-else-begins_reset-clause-decided c = λ s g st.
    let m = c.args.machine.now in
    let a = c.args.a.now in
    let b = c.args.b.now in
    let x : End = record { device = c.in_ok-known.field-0; port = a.1 } in
    let y : End = record { device = c.in_ok-known-2.field-0; port = b.1 } in
    let few : IsFalse (joins_in m x y && nat_le MOST_RESETS m.resets) = search rules in
    cable_ordered s a b x y (is_named m s a.0 x.device st c.in_ok-known.ensures.device, refl) (is_named m s b.0 y.device st c.in_ok-known-2.ensures.device, refl)
    (λ f h. c.in-Ok.ensures.free f (fault_back m s x y f st h)) (few_resets m s x y g st few)
