use Rattle.std.proofs.Common.{◌++◌, ◌∙◌, ap, sym}
use Rattle.std.proofs.lemmas.Result.{IfOk-weaker}
use Rattle.fw_log_explain.specs.declared.tail.TailWords.{TailWords}
use Rattle.fw_log_explainer.specs.Lines.{usual_line}
use Rattle.fw_log_explainer.proofs.TailLaws.{read_reply_told}
use Rattle.fw_log_explainer.proofs.usual.put_read_reply.Goals as goal

pub returns-clause-told : goal.returns-clause-told
returns-clause-told c =
    IfOk-weaker c.put_response.result _ _
    (λ put told t. read_reply_told c.args.lines.now _ c.args.requests.now _ c.args.cycle c.args.head.now c.in-Some.asked c.args.rcode c.args.value (sym c.in-Some.ensures)
    (told.0 ∙ ap (λ (w : TailWords). c.args.lines.now ++ usual_line c.args.cycle c.args.head.now (record { offset = c.in-Some.asked.offset; words = w })) c.value_words.ensures) told.1)
    c.put_response.ensures.told
