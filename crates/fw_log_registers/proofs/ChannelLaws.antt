-- The channels at the first bits of a set, one bit after another.
use Rattle.std.proofs.Common.{◌≡◌, refl, ℕ, ◌+◌, [], ◌++◌, add-one}
use Rattle.fw_log_registers.specs.Words.{first_channels, channel_text}

pub none : (first word : ℕ) → first_channels first word 0 ≡ []
unfolding first_channels
none first word = refl

pub next : (first word n : ℕ) → first_channels first word (n + 1) ≡ first_channels first word n ++ channel_text first word n
unfolding first_channels
next first word n = rw (add-one n) refl
