use Rattle.fw_audit.proofs.AnswerLaws.{incomplete_judged, read_judged, swap_judged, lock_judged, nothing_judged}
use Rattle.fw_audit.proofs.answers.judge_answer.Goals as goal

pub returns-then-answer-ne0 : goal.returns-then-answer-ne0
returns-then-answer-ne0 c = λ l r h. incomplete_judged l r c.args.answer.now h c.if-answer-ne0.true

pub returns-in-Read : goal.returns-in-Read
returns-in-Read c = λ l r h. read_judged l r c.args.answer.now _ _ c.in-Read.address h c.if-answer-ne0.false c.in-Read.is (c.judge_quadlet.ensures l)

pub returns-in-Swap : goal.returns-in-Swap
returns-in-Swap c = λ l r h. swap_judged l r c.args.answer.now _ _ c.in-Swap.address _ h c.if-answer-ne0.false c.in-Swap.is (c.judge_quadlet-in-Swap.ensures l)

pub returns-in-Lock : goal.returns-in-Lock
returns-in-Lock c = λ l r h. lock_judged l r c.args.answer.now _ _ c.in-Lock.address _ h c.if-answer-ne0.false c.in-Lock.is c.not_allowed.ensures

pub returns-in-Nothing : goal.returns-in-Nothing
returns-in-Nothing c = λ l r h. absurd (nothing_judged l r c.args.answer.now h c.in-Nothing.is)
