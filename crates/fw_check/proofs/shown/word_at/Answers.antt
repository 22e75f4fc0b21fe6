use Rattle.std.proofs.Common.{ℕ, ◌-◌, drop, ap, ◌∙◌, arith}
use Rattle.fw_script_command.specs.Form.{after_first}
use Rattle.fw_script_command.specs.Pieces.{pieces}
use Rattle.fw_check.proofs.ListLaws.{after_left}
use Rattle.fw_check.proofs.shown.word_at.Goals as goal

pub loop-skipped-preserved : goal.loop-skipped-preserved
loop-skipped-preserved c =
    c.next.ensures.left ∙ ap after_first c.loop-skipped.invariant ∙ after_left (pieces 32 c.args.line.now) (c.loop-skipped._skipped - 1)
    ∙ ap (λ (k : ℕ). drop k (pieces 32 c.args.line.now)) (omega arith)
