use Rattle.std.proofs.Common.{◌≡◌, ◌++◌, map, take}
use Rattle.fw_trace_lines.specs.Lines.{shown_byte}
use Rattle.fw_trace_lines.proofs.line.put_bytes.Given as goal

abbrev pub invariant-loop-i : goal.invariant-loop-i
invariant-loop-i l = l.text.items ≡ l.fn.text.items ++ map shown_byte (take l.i l.line)
