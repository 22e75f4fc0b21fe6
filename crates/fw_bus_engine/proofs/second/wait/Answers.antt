use Rattle.fw_bus_engine.proofs.Common.{◌≡◌, ◌+◌, ◌-◌, ◌<◌, ℕ, true, false, sym, ◌∙◌, arith}
use Rattle.fw_bus_engine.proofs.Waits.{waits_by}
use Rattle.fw_bus_engine.proofs.second.wait.Goals as goal
use Rattle.fw_bus_engine.proofs.second.wait.Goals.{else-machine-via-then-machine+else-machine-last, else-machine-via-else-machine}

pub wait_over-requires : goal.wait_over-requires
wait_over-requires g c = record {
  ready = c.requires.ready;
  runs = c.if-machine.true;
  over = c.if-machine-last.true;
  few = rw c.from.ensures c.requires.few;
}

pub pass-requires : goal.pass-requires
pass-requires g c = record { ready = c.requires.ready; few = rw c.from-else-machine.ensures c.requires.few }

-- as many cycles as were to go by
waited : (cycle n from : ℕ) → from ≡ n → cycle + from - cycle ≡ n
waited cycle n from same = omega (arith, same)

pub returns-then-machine-last : goal.returns-then-machine-last
returns-then-machine-last g c = record { does = rw (waited c.args.machine.now.cycle c.args.cycles c.from.result c.from.ensures) at c.wait_over.ensures.does }

pub returns-else-machine : goal.returns-else-machine
returns-else-machine g c =
    let m = c.args.machine.now in
    let before : m.reclaiming ≡ true → m.cycle + c.args.cycles < m.directory.over_at = λ runs. elim c.else-machine.branch [
      | else-machine-via-then-machine+else-machine-last w ↦ let same = c.from.ensures in let late = w.if-machine-last.false in omega (arith, late, same)
      | else-machine-via-else-machine w ↦ let no : false ≡ true = sym w.if-machine.false ∙ runs in let bad : ⊥ = cc in absurd bad
    ] in
    record { does = waits_by _ _ _ _ _ (tt {0}) c.requires.few before (rw c.from-else-machine.ensures at c.pass.ensures) }
