use Rattle.fw_bus_engine.proofs.Common.{ℕ, sym, subst, arith}
use Rattle.fw_bus_engine.specs.Cycling.{WritesCycle}
use Rattle.fw_bus_engine.specs.Filling.{FillsBy}
use Rattle.fw_bus_engine.specs.Playing.{IsCycleStreamsOf, ahead}
use Rattle.fw_bus_engine.proofs.Desks.{by_does}
use Rattle.fw_bus_engine.proofs.Doings.{ready_after}
use Rattle.fw_bus_engine.proofs.cycles.put_any.Goals as goal

pub settle-requires : goal.settle-requires
settle-requires g c = record { ready = c.requires.ready; few = let few = c.requires.few in omega (arith, few) }

pub put_cycle-requires : goal.put_cycle-requires
put_cycle-requires g c = record {
  ready = rw c.settle.ensures c.requires.ready;
  desk = c.requires.desk;
  few = rw c.settle.ensures c.requires.few;
  written = rw c.settle.ensures c.requires.written;
  talkers = c.talkers-talkers.ensures;
  still = c.end-end.ensures;
  room = c.requires.room;
}

pub of-requires : goal.of-requires
of-requires g c = ready_after (rw c.settle.ensures c.requires.ready) (by_does c.put_cycle.ensures.fills)

pub returns : goal.returns
returns g c =
    let none = sym c.of.ensures.gone in
    let P : ℕ → Type 0 = λ n. IsCycleStreamsOf (ahead n c.put_cycle.new.machine) c.of.result in
    let Q : ℕ → Type 0 = λ n. FillsBy (record { blocks = goal.F-post g c.args.desk.now.blocks; vendor = goal.H-post g c.args.desk.now.vendor }) WritesCycle
    (ahead c.args.cycle_streams.now.gone c.args.machine.now) (ahead n c.put_cycle.new.machine) c.args.room.now.cycle c.put_cycle.new.room.cycle in
    record {
      cycle_streams = subst P none c.of.ensures.cycle_streams;
      gone = let none = c.of.ensures.gone in omega (arith, none);
      fills = subst Q none (rw c.settle.ensures at c.put_cycle.ensures.fills);
    }
