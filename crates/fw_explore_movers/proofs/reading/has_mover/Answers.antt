use Rattle.std.proofs.Common.{refl, sym, arith}
use Rattle.std.proofs.lemmas.Slice.Eq.{bytes_eq-Decides}
use Rattle.fw_explore_movers.proofs.reading.has_mover.Goals as goal

pub returns-then-has_line : goal.returns-then-has_line
returns-then-has_line c = (
  λ _. (c.loop-mover.mover-index, c.mover-item.result, omega arith, sym c.mover-item.is, (bytes_eq-Decides c.mover-item.result.line.items c.args.line.now).0 (sym c.if-has_line.ensures)),
  λ _. refl,
)
