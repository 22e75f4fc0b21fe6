use Rattle.std.proofs.Common.{◌≡◌, ◌++◌, ◌+◌, ℕ, sym, ap, subst, ◌∙◌, append-nil}
use Rattle.fw_trace_names.specs.CausedLines.{caused_text}
use Rattle.fw_trace_lines.specs.Commands.{first_streams, stream_lines}
use Rattle.fw_trace_lines.specs.Streams.{stream_at}
use Rattle.fw_trace_lines.proofs.LoopLaws.{next_stream, no_streams_text}
use Rattle.fw_trace_names.proofs.LoopLaws.{stepped}
use Rattle.fw_trace_lines.proofs.streams.put_lines.Goals as goal

pub loop-channel-init : goal.loop-channel-init
loop-channel-init c = sym (ap (λ t. c.args.text.now.items ++ t) (no_streams_text c.args.names.now c.args.cycle c.args.rows.now) ∙ append-nil c.args.text.now.items)

pub loop-channel-preserved : goal.loop-channel-preserved
loop-channel-preserved c =
    let lines = λ (k : ℕ). caused_text (first_streams c.args.names.now c.args.cycle c.args.rows.now k) in
    let row = λ (i : ℕ). caused_text (stream_lines c.args.names.now c.args.cycle c.loop-channel.channel (stream_at c.args.rows.now i)) in
    let next = subst (λ (i : ℕ). lines (c.loop-channel.channel + 1) ≡ lines c.loop-channel.channel ++ row i)
    (sym c.from.ensures) (next_stream c.args.names.now c.args.cycle c.args.rows.now c.loop-channel.channel) in
    stepped _ _ _ _ _ _ c.loop-channel.invariant c.in_ok-put_line.ensures next
