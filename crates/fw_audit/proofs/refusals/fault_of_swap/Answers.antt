use Rattle.fw_audit.proofs.RefusalLaws.{no_move_first, wrong_word_first}
use Rattle.fw_audit.proofs.refusals.fault_of_swap.Goals as goal

pub returns-then-swap-due : goal.returns-then-swap-due
returns-then-swap-due c = λ l x h is. no_move_first l x _ _ c.args.due h is c.if-swap-due.true

pub returns-else-swap-due : goal.returns-else-swap-due
returns-else-swap-due c = λ l x h is. wrong_word_first l x _ c.args.swap.new c.args.due h is c.if-swap-due.false
