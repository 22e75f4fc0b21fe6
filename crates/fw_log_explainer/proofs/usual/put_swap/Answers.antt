use Rattle.std.proofs.Common.{◌<◌, ◌^◌, Some, refl, arith}
use Rattle.std.proofs.lemmas.Result.{IfOk-weaker}
use Rattle.fw_words.specs.Swaps.{swap_bytes}
use Rattle.fw_words.specs.declared.swap.TheConstants.{COMPARE_SWAP}
use Rattle.fw_async.specs.declared.packet.Packet.TheVariants.{Lock}
use Rattle.fw_log_requests.specs.Requests.{asked}
use Rattle.fw_log_requests.specs.declared.asked.Answer.TheVariants.{Lock as LockResponse}
use Rattle.fw_words.specs.declared.swap.Swap.{Swap}
use Rattle.fw_log_explain.specs.declared.tail.TailWords.TheVariants as Words
use Rattle.fw_log_explainer.proofs.TailLaws.{request_told, swap_tail, swap_stands}
use Rattle.fw_log_explainer.proofs.usual.put_swap.Goals as goal

pub returns-clause-told : goal.returns-clause-told
returns-clause-told c =
    let list = c.args.requests.now in
    let h = c.args.head.now in
    let o = c.args.offset in
    let s : Swap = record { argument = c.args.argument; new = c.args.new } in
    let low : c.args.argument < 2 ^ 32 = omega (arith, c.ranges.argument) in
    let small : c.args.new < 2 ^ 32 = omega (arith, c.ranges.new) in
    IfOk-weaker c.put_request.result _ _
    (λ put told. request_told c.args.lines.now _ list _ c.args.cycle (Lock h o COMPARE_SWAP (swap_bytes s)) (Lock h o COMPARE_SWAP (swap_bytes s)) (Words.Swap s) c.new-asked.result
    (asked h LockResponse o (Some s)) refl
    c.new-asked.ensures (swap_tail list h o s low small) (swap_stands list h o s low small) told)
    c.put_request.ensures.told
