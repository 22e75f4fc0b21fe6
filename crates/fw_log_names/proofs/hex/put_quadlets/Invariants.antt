use Rattle.std.proofs.Common.{◌≡◌, ◌++◌, length}
use Rattle.fw_text.specs.Texts.{quadlets_text}
use Rattle.fw_log_names.proofs.hex.put_quadlets.Given as goal

abbrev pub invariant-loop-four : goal.invariant-loop-four
invariant-loop-four l = l.text.items ++ quadlets_text l.rest ≡ l.initial.text.items ++ quadlets_text l.bytes

abbrev pub decreases-loop-four : goal.decreases-loop-four
decreases-loop-four l = length l.rest
