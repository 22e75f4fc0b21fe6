use Rattle.std.proofs.Common.{◌∙◌, Some, None, ap}
use Rattle.fw_watch_remarks.specs.Remarks.{told}
use Rattle.fw_watch.proofs.PutLaws.{on_ok}
use Rattle.fw_watch.proofs.StepLaws.{answer_lines, answer_known}
use Rattle.fw_watch.proofs.answer.take_packet_bytes.Goals as goal

pub returns-in-Some-clause-lines : goal.returns-in-Some-clause-lines
returns-in-Some-clause-lines c = λ p s.
    let x = c.in-Some.ensures in
    on_ok c.take_answer.result
    (λ n. n ∙ ap (told c.args.journal.now) (answer_lines c.args.state.now c.take_bytes.new.self (Some c.in-Some.a) p c.args.cycle (x.value p s) (x.known p s)))
    c.take_answer.ensures.lines

pub returns-in-Some-clause-known : goal.returns-in-Some-clause-known
returns-in-Some-clause-known c = λ p s.
    let x = c.in-Some.ensures in
    on_ok c.take_answer.result
    (λ n. n ∙ answer_known c.args.state.now c.take_bytes.new.self (Some c.in-Some.a) p c.args.cycle (x.value p s) (x.known p s))
    c.take_answer.ensures.known

pub returns-in-None-clause-lines : goal.returns-in-None-clause-lines
returns-in-None-clause-lines c = λ p s.
    let x = c.in-None.ensures in
    ap (told c.args.journal.now) (answer_lines c.args.state.now c.take_bytes.new.self None p c.args.cycle (x.value p s) (x.known p s))

pub returns-in-None-clause-known : goal.returns-in-None-clause-known
returns-in-None-clause-known c = λ p s.
    let x = c.in-None.ensures in
    answer_known c.args.state.now c.take_bytes.new.self None p c.args.cycle (x.value p s) (x.known p s)
