use Rattle.std.proofs.Common.{◌≡◌, ◌++◌, length}
use Rattle.fw_text.specs.Texts.{hex_bytes}
use Rattle.fw_log_names.proofs.hex.put_bytes.Given as goal

abbrev pub invariant-loop-four : goal.invariant-loop-four
invariant-loop-four l = l.text.items ++ hex_bytes l.rest ≡ l.initial.text.items ++ hex_bytes l.bytes

abbrev pub decreases-loop-four : goal.decreases-loop-four
decreases-loop-four l = length l.rest

abbrev pub invariant-loop-one : goal.invariant-loop-one
invariant-loop-one l = l.text.items ++ hex_bytes l.rest ≡ l.fn.text.items ++ hex_bytes l.bytes

abbrev pub decreases-loop-one : goal.decreases-loop-one
decreases-loop-one l = length l.rest
