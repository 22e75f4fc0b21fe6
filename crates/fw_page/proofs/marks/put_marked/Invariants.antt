use Rattle.std.proofs.Common.{◌≡◌, ◌++◌, length}
use Rattle.fw_page.specs.Marks.{marked}
use Rattle.fw_page.proofs.marks.put_marked.Given as goal

abbrev pub invariant-loop-rest : goal.invariant-loop-rest
invariant-loop-rest l = l.text.items ++ marked l.mark l.rest ≡ l.initial.text.items ++ marked l.mark l.lines

abbrev pub decreases-loop-rest : goal.decreases-loop-rest
decreases-loop-rest l = length l.rest
