use Rattle.std.proofs.Common.{◌≡◌, ◌++◌, length}
use Rattle.fw_log_text.specs.Line.{quadlets_text}
use Rattle.fw_log_text.proofs.quadlets.put_quadlets.Given as goal

abbrev pub invariant-loop-four : goal.invariant-loop-four
invariant-loop-four l = l.text ++ quadlets_text l.rest ≡ l.initial.text ++ quadlets_text l.bytes

abbrev pub decreases-loop-four : goal.decreases-loop-four
decreases-loop-four l = length l.rest
