use Rattle.std.proofs.Common.{◌≡◌, ◌-◌, drop}
use Rattle.fw_check.specs.Slips.{two_spaces}
use Rattle.fw_check.proofs.SlipLaws.{further}
use Rattle.fw_check.proofs.slip.two_spaces.Given as goal

abbrev pub invariant-loop-i : goal.invariant-loop-i
invariant-loop-i l = two_spaces l.line ≡ further (l.i - 1) (two_spaces (drop (l.i - 1) l.line))
