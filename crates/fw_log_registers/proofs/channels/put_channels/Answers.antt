use Rattle.std.proofs.Common.{◌++◌, ◌∙◌, ap, sym, append_assoc, List, ℕ}
use Rattle.std.proofs.lemmas.List.{append-nil}
use Rattle.fw_log_registers.specs.Words.{first_channels, channel_text}
use Rattle.fw_log_registers.proofs.ChannelLaws.{none, next}
use Rattle.fw_log_registers.proofs.channels.put_channels.Goals as goal

pub loop-bit-init : goal.loop-bit-init
loop-bit-init c = rw (none c.args.first c.args.set) (sym (append-nil c.args.text.now))

pub loop-bit-preserved : goal.loop-bit-preserved
loop-bit-preserved c =
    let before : List ℕ = first_channels c.args.first c.args.set c.loop-bit.bit in
    let one : List ℕ = channel_text c.args.first c.args.set c.loop-bit.bit in
    c.put_channel.ensures ∙ ap (λ (x : List ℕ). x ++ one) c.loop-bit.invariant ∙ append_assoc c.args.text.now before one
    ∙ ap (λ (x : List ℕ). c.args.text.now ++ x) (sym (next c.args.first c.args.set c.loop-bit.bit))
