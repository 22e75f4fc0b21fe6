use Rattle.std.proofs.Common.{◌≡◌, ◌++◌, map, drop}
use Rattle.fw_check.specs.Shown.{shown_byte}
use Rattle.fw_check.proofs.shown.put_bytes.Given as goal

abbrev pub invariant-loop-b : goal.invariant-loop-b
invariant-loop-b l = l.text.items ++ map shown_byte (drop l.b-index l.bytes) ≡ l.fn.text.items ++ map shown_byte l.bytes
