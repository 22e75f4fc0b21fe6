use Rattle.std.proofs.Common.{◌≡◌, length}
use Rattle.fw_log_text.specs.Digits.{IsNumbers}
use Rattle.fw_log_text.proofs.numbers.Numbers.new.Given as goal

abbrev pub invariant-loop-n : goal.invariant-loop-n
invariant-loop-n l = record {
  rows : length l.rows ≡ 256;
  sizes : length l.sizes ≡ 256;
  table : IsNumbers l.n l.rows l.sizes;
}
