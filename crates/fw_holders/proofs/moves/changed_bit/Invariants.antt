use Rattle.fw_holders.proofs.Common.{◌≡◌, ◌==◌, None, field}
use Rattle.std.proofs.Common.{not}
use Rattle.fw_terms.specs.Tables.{find_to}
use Rattle.fw_holders.proofs.moves.changed_bit.Given as goal

abbrev pub invariant-loop-i : goal.invariant-loop-i
invariant-loop-i l = find_to l.i (λ j. not (field l.argument j j == field l.new j j)) ≡ None
