use Rattle.std.proofs.Common.{sym, ap, length, arith}
use Rattle.std.proofs.lemmas.List.{set_past}
use Rattle.fw_trace_lines.specs.Streams.{with_packet}
use Rattle.fw_trace_lines.proofs.streams.Streams.take.Goals as goal

pub returns-else-channel-lt64 : goal.returns-else-channel-lt64
unfolding with_packet
returns-else-channel-lt64 c = sym (set_past _ _ _ (omega (arith, c.if-channel-lt64.false, c.from-channel.ensures, c.self.invariant.0, ap length c.self.view_is)))
