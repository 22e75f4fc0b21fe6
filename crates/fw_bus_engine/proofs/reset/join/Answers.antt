use Rattle.fw_bus_engine.proofs.Common.{sym, refl, true, false}
use Rattle.fw_bus_engine.proofs.NewCables.{IsCable, ready_joined, join_does, join_silent, few_of, first_joins, second_joins, both_join, neither_joins}
use Rattle.fw_bus_engine.proofs.OneAction.{does_silent}
use Rattle.fw_bus_engine.proofs.reset.join.Goals as goal

pub give_reset-requires-clause-on : goal.give_reset-requires-clause-on
give_reset-requires-clause-on g c = ready_joined c.join.new.self c.args.a c.args.b _ c.requires.ready c.join.ensures.joined (sym c.in-true-false.ensures)

pub give_reset-requires-in-false-true-clause-on : goal.give_reset-requires-in-false-true-clause-on
give_reset-requires-in-false-true-clause-on g c = ready_joined c.join.new.self c.args.a c.args.b _ c.requires.ready c.join.ensures.joined (sym c.in-false-true.ensures')

pub returns-in-true-false : goal.returns-in-true-false
returns-in-true-false g c =
    let first = sym c.in-true-false.ensures in
    let second = sym c.in-true-false.ensures' in
    let cable : IsCable c.args.machine.now c.join.new.self c.args.a c.args.b true false = record { joined = c.join.ensures.joined; same = c.join.ensures.same; first_on = first; second_on = second } in
    record { does = join_does _ _ _ _ _ _ _ _ _ cable (few_of c.args.machine.now c.args.a c.args.b _ _ first second refl c.requires.few) (first_joins _ _) first c.give_reset.ensures }

pub returns-in-false-true : goal.returns-in-false-true
returns-in-false-true g c =
    let first = sym c.in-false-true.ensures in
    let second = sym c.in-false-true.ensures' in
    let cable : IsCable c.args.machine.now c.join.new.self c.args.a c.args.b false true = record { joined = c.join.ensures.joined; same = c.join.ensures.same; first_on = first; second_on = second } in
    record { does = join_does _ _ _ _ _ _ _ _ _ cable (few_of c.args.machine.now c.args.a c.args.b _ _ first second refl c.requires.few) (second_joins _ _) second c.give_reset-in-false-true.ensures }

pub returns-in_default : goal.returns-in_default
returns-in_default g c =
    let cable : IsCable c.args.machine.now c.join.new.self c.args.a c.args.b _ _ =
    record { joined = c.join.ensures.joined; same = c.join.ensures.same; first_on = sym c.in_default.ensures; second_on = sym c.in_default.ensures' } in
    record { does = does_silent _ _ _ _ (join_silent _ _ _ _ _ _ cable (both_join _ _)) }

pub returns-in_default-2 : goal.returns-in_default-2
returns-in_default-2 g c =
    let cable : IsCable c.args.machine.now c.join.new.self c.args.a c.args.b _ _ =
    record { joined = c.join.ensures.joined; same = c.join.ensures.same; first_on = sym c.in_default.ensures; second_on = sym c.in_default.ensures' } in
    record { does = does_silent _ _ _ _ (join_silent _ _ _ _ _ _ cable (neither_joins _ _)) }
