use Rattle.std.proofs.Common.{◌<◌, ◌^◌, arith, sym}
use Rattle.std.proofs.lemmas.Result.{IfOk-weaker}
use Rattle.fw_log_explainer.proofs.TailLaws.{swap_reply_told}
use Rattle.fw_log_explainer.proofs.usual.put_swap_reply.Goals as goal

pub returns-in-Some-swap-clause-told : goal.returns-in-Some-swap-clause-told
returns-in-Some-swap-clause-told c =
    let small : c.args.old < 2 ^ 32 = omega (arith, c.ranges.old) in
    IfOk-weaker c.put_response.result _ _
    (λ put told t. swap_reply_told c.args.lines.now _ c.args.requests.now _ c.args.cycle c.args.head.now c.in-Some.asked c.in-Some-swap.swap c.args.rcode c.args.old
    (sym c.in-Some.ensures) c.in-Some-swap.is c.if-rcode-eq-COMPLETE.true small told.0 told.1)
    c.put_response.ensures.told
