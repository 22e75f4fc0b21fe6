use Rattle.std.proofs.Common.{◌≡◌, ◌-◌, drop}
use Rattle.fw_script_command.specs.Pieces.{pieces}
use Rattle.fw_check.proofs.shown.word_at.Given as goal

abbrev pub invariant-loop-skipped : goal.invariant-loop-skipped
invariant-loop-skipped l = l.words ≡ drop (l._skipped - 1) (pieces 32 l.line)
