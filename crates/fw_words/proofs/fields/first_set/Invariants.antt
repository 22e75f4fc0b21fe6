use Rattle.std.proofs.Common.{◌≡◌, ◌+◌, ◌-◌}
use Rattle.fw_words.specs.Quadlet.{first_set}
use Rattle.fw_words.proofs.fields.first_set.Given as goal

abbrev pub invariant-loop-bit : goal.invariant-loop-bit
invariant-loop-bit l = first_set l.q.0 l.first (l.last + 1 - l.first) ≡ first_set l.q.0 l.bit (l.last + 1 - l.bit)
