use Rattle.std.proofs.Common.{ℕ, ◌≡◌, ◌<◌, get_or}
use Rattle.fw_explore_movers.specs.declared.mover.Mover.{Mover}
use Rattle.fw_explore_movers.proofs.reading.has_mover.Given as goal

abbrev pub invariant-loop-mover : goal.invariant-loop-mover
invariant-loop-mover l = (k : ℕ) (d : Mover) → k < l.mover-index → (get_or l.movers k d).line.items ≡ l.line → ⊥
