use Rattle.std.proofs.Common.{◌<◌, ◌^◌, sym, arith}
use Rattle.fw_trace_lines.proofs.ReplyLaws.{word_back}
use Rattle.fw_trace_lines.proofs.traffic.old_word.Goals as goal

pub returns : goal.returns
returns c =
    let small : c.args.old < 2 ^ 32 = omega (arith, c.ranges.old) in
    sym (word_back c.args.old small)
