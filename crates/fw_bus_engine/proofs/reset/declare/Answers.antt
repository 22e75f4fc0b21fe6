use Rattle.fw_bus_engine.proofs.Common.{ℕ, List, length, ap, arith}
use Rattle.fw_tree.specs.Cables.{here}
use Rattle.fw_bus_engine.proofs.NewDevices.{MayAdd, first_does, later_turns, ready_first}
use Rattle.fw_bus_state.proofs.Living.{no_names, some_names}
use Rattle.fw_bus_engine.proofs.OneAction.{does_silent}
use Rattle.fw_bus_engine.proofs.reset.declare.Goals as goal

pub add-requires : goal.add-requires
add-requires g c = record { room = c.requires.room; some = c.requires.some; most = c.requires.most; speed = c.requires.speed }

pub add-requires-2 : goal.add-requires-2
add-requires-2 g c =
    let st = c.requires.ready.stands in
    let count = st.table.count_is in
    let names = ap (λ (xs : List (List ℕ)). length xs) st.devices.names in
    let room = c.requires.room in
    omega (arith, count, names, room)

pub give_reset-requires-clause-on : goal.give_reset-requires-clause-on
give_reset-requires-clause-on g c = here

-- there is room for a candidate more if there is for a device
pub add-requires-3 : goal.add-requires-3
add-requires-3 g c =
    let st = c.requires.ready.stands in
    let size = st.election.size in
    let names = ap (λ (xs : List (List ℕ)). length xs) st.devices.names in
    let room = c.requires.room in
    omega (arith, size, names, room)

pub returns-then-is_first : goal.returns-then-is_first
returns-then-is_first g c =
    let none = no_names _ _ c.count-is_first.ensures.value c.if-is_first.true in
    let epoch = ready_first c.requires.ready none in
    let may : MayAdd c.args.machine.now c.args.ports c.args.speed = record { room = c.requires.room; some = c.requires.some; most = c.requires.most; fast = c.requires.speed } in
    record { does = first_does _ _ _ _ _ _ _ _ _ none may c.add-2.ensures c.add-3.ensures (omega (arith, epoch)) (rw c.add.ensures at c.give_reset.ensures) }

pub returns-else-is_first : goal.returns-else-is_first
returns-else-is_first g c =
    let some = some_names _ _ c.count-is_first.ensures.value c.if-is_first.false in
    let may : MayAdd c.args.machine.now c.args.ports c.args.speed = record { room = c.requires.room; some = c.requires.some; most = c.requires.most; fast = c.requires.speed } in
    record { does = rw c.add.ensures (does_silent _ _ _ _ (later_turns _ _ _ _ _ _ _ some may c.add-2.ensures c.add-3.ensures)) }
