use Rattle.fw_bus_engine.proofs.Common.{ℕ, refl, rules, subst, sym, arith, ◌∙◌, Err}
use Rattle.fw_bus_engine.proofs.Cycling.{cycles_cut, cycles_may, cycles_out, gathers_none, gathers_then}
use Rattle.fw_bus_engine.proofs.Gathering.{gathers_cut, gathers_out}
use Rattle.fw_bus_engine.proofs.Desks.{by_does}
use Rattle.fw_bus_engine.proofs.OneAction.{faults_then}
use Rattle.fw_bus_engine.proofs.Doings.{ready_after}
use Rattle.fw_bus_engine.proofs.Plain.{time_left}
use Rattle.fw_bus_engine.specs.Cycling.{WritesCycles}
use Rattle.fw_bus_engine.specs.Filling.{Gathers}
use Rattle.fw_bus_engine.specs.Playing.{IsCycleStreamsOf, ahead}
use Rattle.fw_bus_engine.proofs.cycles.cycles.Goals as goal

pub returns-in_err-make_room : goal.returns-in_err-make_room
returns-in_err-make_room g c =
    let low = c.loop-i-test.true in
    record {
      does = cycles_cut _ _ (Err _) _ (omega (arith, low)) c.requires.few c.requires.written refl c.from_residual.ensures.0
          (gathers_cut _ c.loop-i.invariant.done c.in_err-make_room.ensures.passes (faults_then _ _ _ (Err _) c.loop-i.invariant.faults c.in_err-make_room.ensures.faults));
    }

pub loop-i-init : goal.loop-i-init
loop-i-init g c =
    let none = sym c.of-cycle_streams.ensures.gone in
    let m = c.args.machine.now in
    let P : ℕ → Type 0 = λ n. IsCycleStreamsOf (ahead n m) c.of-cycle_streams.result in
    let Q : ℕ → Type 0 = λ n. Gathers (record { blocks = goal.F-post g c.args.desk.now.blocks; vendor = goal.H-post g c.args.desk.now.vendor }) (WritesCycles 0) m (ahead n m)
    (g.K.Sink.held c.args.sink.now) (g.K.Sink.held c.args.sink.now) c.clear.new.self in
    record {
      done = subst Q none (gathers_none c.clear.ensures);
      faults = refl;
      cycle_streams = subst P none c.of-cycle_streams.ensures.cycle_streams;
      gone = let none = c.of-cycle_streams.ensures.gone in omega (arith, none);
    }

pub put_next-requires : goal.put_next-requires
put_next-requires g c =
    let may = cycles_may _ _ c.requires.ready c.loop-i-test.true c.requires.few c.requires.written c.loop-i.invariant.done.fills in
    record {
      ready = ready_after c.requires.ready (by_does c.loop-i.invariant.done.fills);
      desk = c.requires.desk;
      few = may.0;
      gone = c.loop-i.invariant.gone;
      written = may.1;
      cycle_streams = c.loop-i.invariant.cycle_streams;
      room = c.in_ok-make_room.ensures.room;
    }

pub loop-i-preserved : goal.loop-i-preserved
loop-i-preserved g c = record {
  done = gathers_then _ (gathers_out c.loop-i.invariant.done c.in_ok-make_room.ensures.passes) c.put_next.ensures.fills;
  faults = c.in_ok-make_room.ensures.faults.same ∙ c.loop-i.invariant.faults;
  cycle_streams = c.put_next.ensures.cycle_streams;
  gone = c.put_next.ensures.gone;
}

pub settle-requires : goal.settle-requires
settle-requires g c =
    let ready = ready_after c.requires.ready (by_does c.loop-i.invariant.done.fills) in
    record { ready = ready; few = time_left ready }

pub returns : goal.returns
returns g c =
    record {
      does = rw c.settle.ensures (cycles_out _ _ c.write_out.result c.write_out.new.room (search rules) c.requires.few c.requires.written c.loop-i.invariant.done c.write_out.ensures.passes
          c.write_out.ensures.empty c.loop-i.invariant.faults c.write_out.ensures.faults);
    }
