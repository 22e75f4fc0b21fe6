use Rattle.std.proofs.Common.{◌≡◌, ◌-◌, ◌&&◌, false, get_or, sym}
use Rattle.fw_check.specs.Slips.{is_space}
use Rattle.fw_check.proofs.SlipLaws.{first_other, second_other, spaces_on, spaces_over}
use Rattle.fw_check.proofs.slip.two_spaces.Goals as goal
use Rattle.fw_check.proofs.slip.two_spaces.Goals.{else-line-i-eq32-via-then-line-i-eq32+else-line-i-eq32-2, else-line-i-eq32-via-else-line-i-eq32}

pub loop-i-preserved : goal.loop-i-preserved
loop-i-preserved c =
    let x = get_or c.args.line.now (c.loop-i.i - 1) 0 in
    let y = get_or c.args.line.now c.loop-i.i 0 in
    let other : (is_space x && is_space y) ≡ false = elim c.else-line-i-eq32.branch [
      | else-line-i-eq32-via-then-line-i-eq32+else-line-i-eq32-2 w ↦ second_other x y w.if-line-i-eq32-2.false
      | else-line-i-eq32-via-else-line-i-eq32 w ↦ first_other x y w.if-line-i-eq32.false
    ] in
    spaces_on c.args.line.now c.loop-i.i c.loop-i.auto.i c.loop-i-test.true other c.loop-i.invariant

pub returns-clause-value : goal.returns-clause-value
returns-clause-value c = sym (spaces_over c.args.line.now c.loop-i.i c.loop-i.auto.i c.loop-i-test.false c.loop-i.invariant)
