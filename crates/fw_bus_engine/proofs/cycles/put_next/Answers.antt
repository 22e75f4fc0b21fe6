use Rattle.fw_bus_engine.proofs.Common.{arith}
use Rattle.fw_bus_engine.proofs.Plain.{some_node}
use Rattle.fw_bus_engine.proofs.cycles.put_next.Goals as goal

pub put_plain-requires : goal.put_plain-requires
put_plain-requires g c =
    let some = c.is_plain.ensures.some c.if-is_plain.true in
    let few = c.requires.few in
    let gone = c.requires.gone in
    record {
      ready = c.requires.ready;
      desk = c.requires.desk;
      some = some;
      apart = c.is_plain.ensures.apart c.if-is_plain.true;
      few = few;
      gone = omega (arith, few, gone);
      written = c.requires.written (some_node _ c.requires.ready some);
      cycle_streams = c.requires.cycle_streams;
      room = c.requires.room;
    }

pub returns-then-is_plain : goal.returns-then-is_plain
returns-then-is_plain g c =
    let before = c.requires.gone in
    let after = c.put_plain.ensures.gone in
    let cycle = c.put_plain.ensures.cycle in
    record { cycle_streams = c.put_plain.ensures.cycle_streams; gone = omega (arith, before, after, cycle); fills = c.put_plain.ensures.fills }
