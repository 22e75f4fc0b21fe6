use Rattle.fw_bus_engine.proofs.Common.{◌≡◌, ◌+◌, true, false, ap, sym, ◌∙◌, arith, Machine}
use Rattle.fw_bus_engine.proofs.CycleTurns.{comes_over, comes_alone}
use Rattle.fw_bus_engine.proofs.Packets.{talkers_pass}
use Rattle.fw_bus_engine.proofs.SecondEnds.{second_given}
use Rattle.fw_bus_engine.proofs.cycles.next_cycle.Goals as goal
use Rattle.fw_bus_engine.proofs.cycles.next_cycle.Goals.{else-machine-via-then-machine+else-machine-2, else-machine-via-else-machine}

pub returns-then-machine-2 : goal.returns-then-machine-2
returns-then-machine-2 c = record {
  talkers = c.talkers.ensures;
  still = c.end.ensures;
  fills = comes_over c.if-machine.true (sym c.if-machine-2.true)
      (second_given _ _ _ c.if-machine.true (sym c.if-machine-2.true) c.requires.few c.pass_second.ensures (rw c.second_over.ensures.value at c.put_entry.ensures.gives));
  size = c.put_entry.ensures.size;
}

pub returns-else-machine : goal.returns-else-machine
returns-else-machine c =
    let m = c.args.machine.now in
    let apart : m.reclaiming ≡ true → m.cycle + 1 ≡ m.directory.over_at → ⊥ = λ runs at. elim c.else-machine.branch [
      | else-machine-via-then-machine+else-machine-2 w ↦ w.if-machine-2.false (sym at)
      | else-machine-via-else-machine w ↦ let no : false ≡ true = sym w.if-machine.false ∙ runs in let bad : ⊥ = cc in bad
    ] in
    record {
      talkers = talkers_pass m c.pass_one.new.machine 1 (ap (λ (z : Machine). z.devices) c.pass_one.ensures.passed) c.requires.talkers;
      still = c.pass_one.ensures.still;
      fills = comes_alone _ _ _ _ (tt {0}) c.requires.ready c.requires.few apart c.pass_one.ensures.passed;
      size = omega arith;
    }
