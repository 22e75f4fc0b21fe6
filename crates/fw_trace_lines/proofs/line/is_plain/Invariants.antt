use Rattle.std.proofs.Common.{◌≡◌, true, take, map}
use Rattle.fw_trace_lines.specs.Lines.{shown_byte}
use Rattle.fw_trace_lines.proofs.line.is_plain.Given as goal

abbrev pub invariant-loop-b : goal.invariant-loop-b
invariant-loop-b l = l.plain ≡ true → map shown_byte (take l.b-index l.line) ≡ take l.b-index l.line
