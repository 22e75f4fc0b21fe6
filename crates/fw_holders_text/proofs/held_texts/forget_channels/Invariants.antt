use Rattle.std.proofs.Common.{◌≡◌, ◌<◌, ℕ, Some, None, slice_get}
use Rattle.fw_holders_text.specs.declared.kept_channel.KeptChannel.{KeptChannel}
use Rattle.fw_holders_text.proofs.held_texts.forget_channels.Given as goal

abbrev pub invariant-loop-row : goal.invariant-loop-row
invariant-loop-row l = (n : ℕ) (kept : KeptChannel) → n < l.row-index → slice_get l.rows n ≡ Some kept → kept.told ≡ None
