use Rattle.std.proofs.Common.{◌≡◌, ◌++◌}
use Rattle.fw_trace_names.specs.CausedLines.{caused_text}
use Rattle.fw_trace_lines.specs.Commands.{first_streams}
use Rattle.fw_trace_lines.proofs.streams.put_lines.Given as goal

abbrev pub invariant-loop-channel : goal.invariant-loop-channel
invariant-loop-channel l = l.text.items ≡ l.fn.text.items ++ caused_text (first_streams l.names l.cycle l.rows l.channel)
