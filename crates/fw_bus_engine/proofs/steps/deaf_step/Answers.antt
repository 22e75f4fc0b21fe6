use Rattle.fw_bus_engine.proofs.Common.{◌∙◌, ◌+◌, inl, Some, refl, ap, sym, arith, false≢true, Reset, Machine, living_there}
use Rattle.fw_bus_engine.proofs.OneAction.{does_one, does_silent}
use Rattle.fw_bus_engine.proofs.DeafTurns.{deaf_forces, deaf_waits, forced_few, living_half, living_node}
use Rattle.fw_bus_engine.proofs.HalfTurns.{node_numbers}
use Rattle.fw_bus_engine.proofs.Leaves.{deaf_leaves, half_asks, half_counted, half_either, reset_not, where_not}
use Rattle.fw_bus_engine.proofs.ResetTurns.{ready_cycle, ready_declared, ready_on}
use Rattle.fw_bus_engine.proofs.steps.deaf_step.Goals as goal

pub next-requires : goal.next-requires
next-requires g c =
    let r = c.requires.ready in
    record {
      device = (living_there c.args.machine.now c.args.device r c.requires.living).controller;
      heard = inl c.requires.deaf;
      now = ready_cycle r;
      nodes = node_numbers c.args.machine.now r.state c.args.device r.good r.stands c.requires.living;
      reached = λ quiet. absurd (false≢true (sym quiet ∙ c.requires.deaf));
    }

pub give_reset-requires : goal.give_reset-requires
give_reset-requires g c =
    let r = c.requires.ready in
    let node = living_node c.args.machine.now c.args.device c.requires.living in
    record {
      declared = ready_declared _ r node;
      on = ready_on _ r node;
      few = forced_few c.args.machine.now r.state c.args.device r.good r.stands c.requires.deaf;
      cycle = ready_cycle r;
    }

pub returns-then-is_force : goal.returns-then-is_force
returns-then-is_force g c =
    let m : Machine = c.args.machine.now in
    let d = c.args.device in
    let b = c.give_reset.ensures.begins in
    let turns = deaf_forces m c.give_reset.new.machine c.next.new.self d c.requires.living c.requires.deaf c.requires.few
    (sym c.next.ensures.answer ∙ c.is_force.ensures.forces c.if-is_force.true) c.next.ensures.state b in
    record {
      does = does_one m.cycle (Some (Reset c.give_reset.new.machine.devices.latest)) c.give_reset.result turns c.give_reset.ensures.gives c.give_reset.ensures.faults;
      living = living_half m c.give_reset.new.machine d _ c.requires.ready turns;
      names = b.reset.names;
      count = ap (λ (z : Machine). z.half_steps) b.after;
      half = λ same. let rose = b.reset.epoch in absurd (omega (arith, same, rose));
      silent = where_not _ _ c.give_reset.result _ (reset_not _ _ _ _ _ c.give_reset.ensures);
    }

pub returns-else-is_force : goal.returns-else-is_force
returns-else-is_force g c =
    let m : Machine = c.args.machine.now in
    let d = c.args.device in
    let turns = deaf_waits m c.next.new.self d c.requires.living c.requires.deaf c.requires.few
    (λ force. c.is_force.ensures.waits c.if-is_force.false (c.next.ensures.answer ∙ force)) c.next.ensures.state in
    record {
      does = does_silent _ _ m.cycle _ turns;
      living = living_half m _ d _ c.requires.ready turns;
      names = refl;
      count = refl;
      half = λ same asks may. half_counted d _ asks m _ (half_either d asks m _ (half_asks m c.next.new.self m.wire d _ c.next.ensures.list));
      silent = λ bytes before after.
          let stays = deaf_leaves m c.next.new.self d c.requires.deaf c.next.ensures.list in
          λ i. record m { controllers = stays i; half_steps = m.half_steps + 1 };
    }
