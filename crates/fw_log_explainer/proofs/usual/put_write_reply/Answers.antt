use Rattle.std.proofs.Common.{sym}
use Rattle.std.proofs.lemmas.Result.{IfOk-weaker}
use Rattle.fw_log_explainer.proofs.TailLaws.{write_reply_told}
use Rattle.fw_log_explainer.proofs.usual.put_write_reply.Goals as goal

pub returns-clause-told : goal.returns-clause-told
returns-clause-told c =
    IfOk-weaker c.put_response.result _ _
    (λ put told t. write_reply_told c.args.lines.now _ c.args.requests.now _ c.args.cycle c.args.head.now c.in-Some.asked c.args.rcode (sym c.in-Some.ensures) told.0 told.1)
    c.put_response.ensures.told
