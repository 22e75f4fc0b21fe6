use Rattle.std.proofs.Common.{◌≡◌, ◌+◌, drop}
use Rattle.fw_check.specs.Misfits.{first_misfit}
use Rattle.fw_check.proofs.misfit.first_misfit.Given as goal

abbrev pub invariant-loop-ty : goal.invariant-loop-ty
invariant-loop-ty l = record {
  number : l.number ≡ l.ty-index + 2;
  rest : first_misfit l.number (drop l.ty-index l.types) l.words ≡ first_misfit 2 l.types l.fn.words;
}
