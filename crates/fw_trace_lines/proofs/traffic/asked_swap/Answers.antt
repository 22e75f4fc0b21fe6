use Rattle.std.proofs.Common.{◌∙◌, ◌<◌, ◌^◌, ap, sym, arith}
use Rattle.fw_log_requests.specs.declared.asked.Answer.TheVariants.{Lock as LockResponse}
use Rattle.fw_log_requests.specs.Requests.{asked}
use Rattle.fw_async_glance.proofs.GlanceLaws.{swap_back}
use Rattle.fw_trace_lines.proofs.traffic.asked_swap.Goals as goal

pub returns : goal.returns
returns c =
    let low : c.args.argument < 2 ^ 32 = omega (arith, c.ranges.argument) in
    let small : c.args.new < 2 ^ 32 = omega (arith, c.ranges.new) in
    c.asked.ensures ∙ ap (asked c.args.head.now LockResponse c.args.offset) (sym (swap_back (record { argument = c.args.argument; new = c.args.new }) low small))
